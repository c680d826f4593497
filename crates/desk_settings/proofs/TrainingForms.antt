-- The settings of training have the forms.
use Rattle.std.proofs.Common.{ℕ, ◌≡◌, ◌==◌, true, IsTrue, List, [], ◌∷◌, length, drop, codes, Result, Ok, Err, IfOk, refl, sym, subst, lit≤, arith}
use Rattle.std.specs.List.{AllByRecursion, IsDistinct, list_all}
use Rattle.std.specs.List.Sorted.{IsStrictlySortedBy}
use Rattle.std.proofs.lemmas.List.Elements.{All-nil, All-from_recursion}
use Rattle.std.proofs.lemmas.Bool.Decides.{nat_tests}
use Rattle.office_types.specs.Desks.{is_desk_name}
use Rattle.hazard_types.specs.Places.{IsPlace}
use Rattle.hazard_types.specs.declared.list.Oom.{Oom}
use Rattle.desk_settings.specs.declared.settings.Settings.{Settings}
use Rattle.hazard_types.specs.Characters.{is_name_byte, is_office}
use Rattle.desk_settings.specs.Forms.{is_site, is_heading, is_zone_name}
use Rattle.desk_settings.specs.AreSettings.{HasForms, training_of, training_headings}
use Rattle.hazard_types.proofs.Inverting.{both}

same_length : (m n : ℕ) → (m == n) ≡ true → m ≡ n
same_length m n h = grind (arith, nat_tests)

length_test : (m n : ℕ) → m ≡ n → (m == n) ≡ true
length_test m n h = grind (arith, nat_tests)

-- the site is three characters of an office
site_form : (office : List ℕ) → is_office office ≡ true → is_site (drop 1 office) ≡ true
site_form [] h = absurd (cc)
site_form (c ∷ cs) h =
    let t = both (length (c ∷ cs) == 4) (list_all is_name_byte (c ∷ cs)) h in
    let names = both (is_name_byte c) (list_all is_name_byte cs) t.1 in
    let three : (length cs == 3) ≡ true = length_test (length cs) 3 (omega (arith, same_length (length (c ∷ cs)) 4 t.0)) in
    rw (three, names.1) refl

pub headings_have_forms : AllByRecursion (λ (h : List ℕ). IsTrue (is_heading h)) training_headings
unfolding training_headings
headings_have_forms = (refl, (refl, (refl, (refl, (refl, (refl, (refl, (refl, tt))))))))

pub eight : length training_headings ≡ 8
unfolding training_headings
eight = refl

training_forms : (office : List ℕ) → is_office office ≡ true → HasForms (training_of office)
unfolding IsDistinct IsStrictlySortedBy
training_forms office h = record {
  office_form = h;
  site_form = site_form office h;
  line_form = refl;
  some_desk = lit≤ tt;
  few_desks = lit≤ tt;
  desk_forms = All-from_recursion (λ (d : List ℕ). IsTrue (is_desk_name d)) (codes "DRY" ∷ []) (refl, tt);
  desks_once = (tt, tt);
  eight = eight;
  heading_forms = All-from_recursion (λ (h : List ℕ). IsTrue (is_heading h)) training_headings headings_have_forms;
  zone_order = tt;
  zone_forms = All-nil IsPlace;
  name_forms = All-nil (λ (n : List ℕ). IsTrue (is_zone_name n));
}

pub given_forms : (office : List ℕ) (r : Result Settings Oom) → is_office office ≡ true → IfOk r (λ s. s ≡ training_of office) → IfOk r HasForms
given_forms office (Ok s) h same = subst HasForms (sym same) (training_forms office h)
given_forms office (Err e) h same = tt
