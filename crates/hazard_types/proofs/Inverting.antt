-- What chains of readings tell of what was read, and that the texts of zones and stamps name places and minutes.
use Rattle.std.proofs.Common.{ℕ, ◌≡◌, ◌≤◌, ◌<◌, ◌==◌, ◌&&◌, Bool, true, false, cond, List, [], ◌∷◌, length, slice_index, nat_le, nat_lt, Option, Some, None, option_map, option_and_then, Result, Ok, Err, refl, subst, arith}
use Rattle.std.specs.Option.{ok_or}
use Rattle.std.proofs.lemmas.Bool.Decides.{nat_tests}
use Rattle.hazard_types.specs.Given.{◌>>=◌}
use Rattle.hazard_types.specs.Calendar.{IsCivil, minute_of, stamp_at, is_digit}
use Rattle.hazard_types.specs.Places.{Place, IsPlace, is_capital, are_letters, is_number}
use Rattle.hazard_types.specs.declared.calendar.Civil.{Civil}
use Rattle.hazard_types.specs.declared.zone.Kind.{Kind}
use Rattle.hazard_types.proofs.Stamps.{spells_exactly}
use Rattle.hazard_types.proofs.Years.{days_fit}
use Rattle.hazard_types.specs.Names.{zone_at, kind_at, three_at}

pub both : (a b : Bool) → (a && b) ≡ true → (a ≡ true) × (b ≡ true)
both true b h = (refl, h)
both false b h = (h, cc)

pub all_two : (a b : Bool) → a ≡ true → b ≡ true → (a && b) ≡ true
all_two a b p q = rw (p, q) refl

pub then_ok : {A B E : Type 0} (r : Result A E) (f : A → Result B E) (b : B) → (r >>= f) ≡ Ok b → (x : A) × (r ≡ Ok x) × (f x ≡ Ok b)
then_ok (Ok x) f b h = (x, refl, h)
then_ok (Err e) f b h = absurd (cc)

pub unless_ok : {B E : Type 0} (t : Bool) (e : E) (r : Result B E) (b : B) → cond t (Err e) r ≡ Ok b → (t ≡ false) × (r ≡ Ok b)
unless_ok true e r b h = absurd (cc)
unless_ok false e r b h = (refl, h)

pub ok_or_ok : {X E : Type 0} (o : Option X) (e : E) (x : X) → ok_or o e ≡ Ok x → o ≡ Some x
ok_or_ok None e x h = absurd (cc)
ok_or_ok (Some y) e x h = cc

pub and_then_some : {X Y : Type 0} (o : Option X) (f : X → Option Y) (y : Y) → option_and_then f o ≡ Some y → (x : X) × (o ≡ Some x) × (f x ≡ Some y)
and_then_some None f y h = absurd (cc)
and_then_some (Some x) f y h = (x, refl, h)

pub map_some : {X Y : Type 0} (o : Option X) (f : X → Y) (y : Y) → option_map f o ≡ Some y → (x : X) × (o ≡ Some x) × (f x ≡ y)
map_some None f y h = absurd (cc)
map_some (Some x) f y h = (x, refl, cc)

pub if_some : {X : Type 0} (t : Bool) (o : Option X) (x : X) → cond t o None ≡ Some x → (t ≡ true) × (o ≡ Some x)
if_some false o x h = absurd (cc)
if_some true o x h = (refl, h)

pub digit_most : (c : ℕ) → is_digit c ≡ true → c ≤ 57
digit_most c h = grind (arith, nat_tests)

above_zero : (n : ℕ) → nat_lt 0 n ≡ true → nat_le 1 n ≡ true
above_zero n h = grind (arith, nat_tests)

test_le : (a b : ℕ) → a ≤ b → nat_le a b ≡ true
test_le a b h = grind (arith, nat_tests)

-- the tests that the text of a zone passes, and what is read of it then
pub zone_parts : (six cap0 cap1 d3 d4 d5 some : Bool) (o : Option Place) (p : Place) → cond (six && cap0 && cap1 && d3 && d4 && d5 && some) o None ≡ Some p
    → (six ≡ true) × (cap0 ≡ true) × (cap1 ≡ true) × (d3 ≡ true) × (d4 ≡ true) × (d5 ≡ true) × (some ≡ true) × (o ≡ Some p)
zone_parts six cap0 cap1 d3 d4 d5 some o p h =
    let t = if_some (six && cap0 && cap1 && d3 && d4 && d5 && some) o p h in
    let a = both (six && cap0 && cap1 && d3 && d4 && d5) some t.0 in
    let b = both (six && cap0 && cap1 && d3 && d4) d5 a.0 in
    let c = both (six && cap0 && cap1 && d3) d4 b.0 in
    let d = both (six && cap0 && cap1) d3 c.0 in
    let e = both (six && cap0) cap1 d.0 in
    let f = both six cap0 e.0 in
    (f.0, f.1, e.1, d.1, c.1, b.1, a.1, t.1)

-- the place of a text's parts
abbrev pub place_with : List ℕ → Kind → Place
place_with bytes kind = record { state = slice_index bytes 0 ∷ slice_index bytes 1 ∷ []; kind = kind; number = three_at bytes 3 }

-- a text of a zone names a place
pub zone_ok : (bytes : List ℕ) (p : Place) → zone_at bytes ≡ Some p → IsPlace p
unfolding zone_at
zone_ok bytes p h =
    let t = zone_parts (length bytes == 6) (is_capital (slice_index bytes 0)) (is_capital (slice_index bytes 1)) (is_digit (slice_index bytes 3)) (is_digit (slice_index bytes 4)) (is_digit (slice_index bytes 5)) (nat_lt 0 (three_at bytes 3))
    (option_map (place_with bytes) (kind_at (slice_index bytes 2))) p h in
    let k = map_some (kind_at (slice_index bytes 2)) (place_with bytes) p t.7 in
    let most : three_at bytes 3 ≤ 999 = omega (arith, digit_most (slice_index bytes 3) t.3, digit_most (slice_index bytes 4) t.4, digit_most (slice_index bytes 5) t.5) in
    let letters : are_letters (slice_index bytes 0 ∷ slice_index bytes 1 ∷ []) ≡ true = all_two (is_capital (slice_index bytes 0)) (is_capital (slice_index bytes 1)) t.1 t.2 in
    let number : is_number (three_at bytes 3) ≡ true = all_two (nat_le 1 (three_at bytes 3)) (nat_le (three_at bytes 3) 999) (above_zero (three_at bytes 3) t.6) (test_le (three_at bytes 3) 999 most) in
    subst IsPlace k.2 (all_two (are_letters (slice_index bytes 0 ∷ slice_index bytes 1 ∷ [])) (is_number (three_at bytes 3)) letters number, refl)

minute_fits : (c : Civil) → IsCivil c → minute_of c < 52596000
unfolding minute_of
minute_fits c is = omega (arith, days_fit c is, is.first_day, is.hour, is.minute)

pub stamp_fits : (bytes : List ℕ) (m : ℕ) → stamp_at bytes ≡ Some m → m < 52596000
stamp_fits bytes m h =
    let s = (spells_exactly bytes (stamp_at bytes) refl m).0 h in
    omega (arith, minute_fits s.0 s.1, s.2)
