-- The zones of a drill stand in order, each once, and its settings have the forms.
use Rattle.std.proofs.Common.{◌≡◌, ◌≤◌, ◌<◌, ◌&&◌, ◌+◌, ◌%◌, ℕ, zero, suc, Bool, true, false, cond, IsTrue, List, [], ◌∷◌, ◌++◌, map, length, nat_lt, codes, refl, ap, sym, subst, arith, lit≤, Result, Ok, Err, IfOk}
use Rattle.std.specs.List.{All, AllByRecursion, IsDistinct}
use Rattle.std.specs.List.Sorted.{IsStrictlySortedBy}
use Rattle.std.specs.Map.{keys_of, values_of}
use Rattle.std.specs.Ordering.{nat_cmp}
use Rattle.std.specs.Cmp.{nat_cmp_is}
use Rattle.std.specs.declared.cmp.Ordering.TheVariants.{Less}
use Rattle.std.proofs.lemmas.List.Elements.{All-from_recursion}
use Rattle.std.proofs.lemmas.List.FromFn.{map-range_with_len_more}
use Rattle.std.proofs.lemmas.Bool.Decides.{nat_tests}
use Rattle.office_types.specs.Desks.{is_desk_name}
use Rattle.hazard_types.specs.Places.{IsPlace, Place, are_letters, by_place, is_number}
use Rattle.hazard_types.specs.declared.zone.Kind.TheVariants as kind
use Rattle.desk_settings.specs.AreSettings.{HasForms, training_of}
use Rattle.desk_settings.specs.Forms.{is_zone_name}
use Rattle.desk_settings.specs.declared.settings.Settings.{Settings}
use Rattle.desk_settings.proofs.TrainingForms.{given_forms as training_forms}
use Rattle.desk_drill.specs.Office.{drill_desks, drill_office, drill_settings, drill_zones, plain}
use Rattle.desk_drill.specs.Requests.{zone_at, zones_from}

pub no_zones : (i : ℕ) → zones_from i 0 ≡ []
unfolding zones_from
no_zones i = refl

pub zones_more : (i n : ℕ) → zones_from i (n + 1) ≡ zones_from i n ++ zone_at (i + n) ∷ []
unfolding zones_from
zones_more i n = map-range_with_len_more zone_at i n (i + n) refl

is_less : (a b : ℕ) → a < b → nat_cmp a b ≡ Less
is_less a b h = sym (nat_cmp_is a b Less h)

lt : (a b : ℕ) → nat_lt a b ≡ true → a < b
lt a b h = grind (arith, nat_tests)

ge : (a b : ℕ) → nat_lt a b ≡ false → b ≤ a
ge a b h = grind (arith, nat_tests)

abbrev letters : Bool → Bool → List ℕ
letters a b = cond a (codes "AA") (cond b (codes "AB") (codes "AC"))

abbrev numbered : Bool → Bool → ℕ → Place
numbered a b n = record { state = letters a b; kind = kind.Z; number = n }

first_run : (i : ℕ) → i < 999 → i % 999 ≡ i
first_run i h = omega (arith, h)

second_run : (i : ℕ) → 999 ≤ i → i < 1998 → (i % 999) + 999 ≡ i
second_run i h k = omega (arith, h, k)

third_run : (i : ℕ) → 1998 ≤ i → i < 2000 → (i % 999) + 1998 ≡ i
third_run i h k = omega (arith, h, k)

-- by what the tests tell of two zones
below_by : (i j : ℕ) (a b c d : Bool) → nat_lt i 999 ≡ a → nat_lt i 1998 ≡ b → nat_lt j 999 ≡ c → nat_lt j 1998 ≡ d → i < j → j < 2000
    → by_place (numbered a b (i % 999 + 1)) (numbered c d (j % 999 + 1)) ≡ Less
below_by i j true b true d ea eb ec ed h m =
    is_less (i % 999 + 1) (j % 999 + 1) (omega (arith, h, first_run i (lt i 999 ea), first_run j (lt j 999 ec)))
below_by i j true b false true ea eb ec ed h m = refl
below_by i j true b false false ea eb ec ed h m = refl
below_by i j false b true d ea eb ec ed h m = absurd (omega (arith, h, ge i 999 ea, lt j 999 ec))
below_by i j false true false true ea eb ec ed h m =
    is_less (i % 999 + 1) (j % 999 + 1) (omega (arith, h, second_run i (ge i 999 ea) (lt i 1998 eb), second_run j (ge j 999 ec) (lt j 1998 ed)))
below_by i j false true false false ea eb ec ed h m = refl
below_by i j false false false true ea eb ec ed h m = absurd (omega (arith, h, ge i 1998 eb, lt j 1998 ed))
below_by i j false false false false ea eb ec ed h m =
    let early : i < 2000 = omega (arith, h, m) in
    is_less (i % 999 + 1) (j % 999 + 1) (omega (arith, h, third_run i (ge i 1998 eb) early, third_run j (ge j 1998 ed) m))

-- a zone comes before the later ones
below : (i j : ℕ) → i < j → j < 2000 → by_place (zone_at i) (zone_at j) ≡ Less
below i j h m = below_by i j (nat_lt i 999) (nat_lt i 1998) (nat_lt j 999) (nat_lt j 1998) refl refl refl refl h m

below_all : (i j n : ℕ) → i < j → j + n ≤ 2000 → AllByRecursion (λ (z : Place). by_place (zone_at i) z ≡ Less) (zones_from j n)
unfolding zones_from
below_all i j zero h m = tt
below_all i j (suc n) h m = (below i j h (omega (arith, m)), below_all i (j + 1) n (omega (arith, h)) (omega (arith, m)))

in_order : (i n : ℕ) → i + n ≤ 2000 → IsStrictlySortedBy by_place (zones_from i n)
unfolding zones_from IsStrictlySortedBy
in_order i zero m = tt
in_order i (suc n) m = (below_all i (i + 1) n (omega arith) (omega (arith, m)), in_order (i + 1) n (omega (arith, m)))

number_holds : (i : ℕ) → is_number (i % 999 + 1) ≡ true
number_holds i = let h : i % 999 < 999 = omega arith in grind (arith, nat_tests, h)

both_true : (a b : Bool) → a ≡ true → b ≡ true → (a && b) ≡ true
both_true true true h k = refl
both_true true false h k = absurd (cc)
both_true false b h k = absurd (cc)

letters_hold : (a b : Bool) → (are_letters (letters a b) ≡ true) × (length (letters a b) ≡ 2)
letters_hold true b = (refl, refl)
letters_hold false true = (refl, refl)
letters_hold false false = (refl, refl)

is_place : (i : ℕ) → IsPlace (zone_at i)
is_place i =
    let l = letters_hold (nat_lt i 999) (nat_lt i 1998) in
    (both_true _ _ l.0 (number_holds i), l.1)

each_place : (i n : ℕ) → AllByRecursion IsPlace (zones_from i n)
unfolding zones_from
each_place i zero = tt
each_place i (suc n) = (is_place i, each_place (i + 1) n)

pub are_places : (i n : ℕ) → All IsPlace (zones_from i n)
are_places i n = All-from_recursion IsPlace (zones_from i n) (each_place i n)

keys : (zones : List Place) → keys_of (map plain zones) ≡ zones
keys [] = refl
keys (z ∷ zones) = ap (λ (zs : List Place). z ∷ zs) (keys zones)

names : (zones : List Place) → AllByRecursion (λ (n : List ℕ). IsTrue (is_zone_name n)) (values_of (map plain zones))
names [] = tt
names (z ∷ zones) = (refl, names zones)

zone_keys : keys_of drill_zones ≡ zones_from 0 2000
unfolding drill_zones
zone_keys = keys (zones_from 0 2000)

zone_names : AllByRecursion (λ (n : List ℕ). IsTrue (is_zone_name n)) (values_of drill_zones)
unfolding drill_zones
zone_names = names (zones_from 0 2000)

-- the headings are those of training
as_training : HasForms (training_of drill_office)
as_training = training_forms drill_office (Ok (training_of drill_office)) refl refl

drill_forms : HasForms drill_settings
unfolding IsDistinct
drill_forms = record {
  office_form = refl;
  site_form = refl;
  line_form = refl;
  some_desk = lit≤ tt;
  few_desks = lit≤ tt;
  desk_forms = All-from_recursion (λ (d : List ℕ). IsTrue (is_desk_name d)) drill_desks (refl, (refl, (refl, (refl, tt))));
  desks_once = ((refl, (refl, (refl, tt))), ((refl, (refl, tt)), ((refl, tt), (tt, tt))));
  eight = as_training.eight;
  heading_forms = as_training.heading_forms;
  zone_order = subst (IsStrictlySortedBy by_place) (sym zone_keys) (in_order 0 2000 (lit≤ tt));
  zone_forms = subst (All IsPlace) (sym zone_keys) (are_places 0 2000);
  name_forms = All-from_recursion (λ (n : List ℕ). IsTrue (is_zone_name n)) (values_of drill_zones) zone_names;
}

pub given_forms : {E : Type 0} (r : Result Settings E) → IfOk r (λ s. s ≡ drill_settings) → IfOk r HasForms
given_forms (Ok s) is = subst HasForms (sym is) drill_forms
given_forms (Err e) is = tt
