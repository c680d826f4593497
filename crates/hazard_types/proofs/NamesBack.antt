-- What is written of a zone, a hazard or an event is read back.
use Rattle.std.proofs.Common.{◌≡◌, ℕ, ◌≤◌, ◌+◌, ◌-◌, ◌*◌, ◌/◌, ◌%◌, ◌&&◌, true, List, [], ◌∷◌, ◌++◌, length, refl, arith, Some, IsTrue, nat_le, nat_lt}
use Rattle.std.proofs.lemmas.Bool.{and_parts}
use Rattle.std.proofs.lemmas.Bool.Decides.{nat_tests}
use Rattle.hazard_types.specs.Calendar.{is_digit}
use Rattle.hazard_types.specs.Digits.{three_digits, four_digits, wide}
use Rattle.hazard_types.specs.Hazards.{hazard_code}
use Rattle.hazard_types.specs.Codes.{value_for_code}
use Rattle.hazard_types.specs.Tables.{category_rows}
use Rattle.hazard_types.specs.declared.codes.Category.{Category}
use Rattle.hazard_types.specs.declared.codes.Category.TheVariants as category
use Rattle.hazard_types.specs.Names.{category_code, sig_at, kind_at, kind_code, zone_text, zone_at, hazard_at, parse_four_digits, event_if, event_text, event_at}
use Rattle.hazard_types.specs.Orders.{sig_letter}
use Rattle.hazard_types.specs.Places.{Place, IsPlace, are_letters, is_capital, is_number}
use Rattle.hazard_types.specs.declared.zone.Kind.{Kind}
use Rattle.hazard_types.specs.declared.zone.Kind.TheVariants.{C, Z}
use Rattle.hazard_types.specs.declared.hazard.Sig.{Sig}
use Rattle.hazard_types.specs.declared.hazard.Sig.TheVariants.{W, A, Y, S, F, O, N}
use Rattle.hazard_types.specs.declared.hazard.Hazard.{Hazard}
use Rattle.hazard_types.specs.declared.hazard.Event.{Event}

kind_back : (k : Kind) → kind_at (kind_code k) ≡ Some k
kind_back C = refl
kind_back Z = refl

pub sig_back : (s : Sig) → sig_at (sig_letter s) ≡ Some s
sig_back W = refl
sig_back A = refl
sig_back Y = refl
sig_back S = refl
sig_back F = refl
sig_back O = refl
sig_back N = refl

digit : (n : ℕ) → n ≤ 9 → is_digit (48 + n) ≡ true
digit n h = grind (arith, nat_tests)

three_back : (n : ℕ) → n ≤ 999 → 100 * (48 + n / 100 - 48) + 10 * (48 + n / 10 % 10 - 48) + (48 + n % 10 - 48) ≡ n
three_back n h = omega arith

zone_of : (a b : ℕ) (k : Kind) (n : ℕ) → is_capital a ≡ true → is_capital b ≡ true → is_number n ≡ true → zone_at (a ∷ b ∷ kind_code k ∷ three_digits n) ≡ Some (record { state = a ∷ b ∷ []; kind = k; number = n })
unfolding zone_at
zone_of a b k n first second number =
    let most : n ≤ 999 = grind (arith, nat_tests) in
    let least : nat_lt 0 n ≡ true = grind (arith, nat_tests) in
    rw (first, second, digit (n / 100) (omega arith), digit (n / 10 % 10) (omega arith), digit (n % 10) (omega arith), three_back n most, least, kind_back k) refl

zone_from : (state : List ℕ) (k : Kind) (n : ℕ) → IsTrue (are_letters state && is_number n) → length state ≡ 2 → zone_at (state ++ kind_code k ∷ three_digits n) ≡ Some (record { state = state; kind = k; number = n })
zone_from [] k n h two = absurd (omega (arith, two))
zone_from (a ∷ []) k n h two = absurd (omega (arith, two))
zone_from (a ∷ b ∷ c ∷ cs) k n h two = absurd (omega (arith, two))
zone_from (a ∷ b ∷ []) k n h two =
    let parts = and_parts (are_letters (a ∷ b ∷ [])) (is_number n) h in
    let letters = and_parts (is_capital a) (is_capital b) parts.0 in
    zone_of a b k n letters.0 letters.1 parts.1

pub zone_back : (z : Place) → IsPlace z → zone_at (zone_text z) ≡ Some z
zone_back z h = zone_from z.state z.kind z.number h.0 h.1

hazard_of : (a b : ℕ) (s : Sig) → is_capital a ≡ true → is_capital b ≡ true → hazard_at (a ∷ b ∷ 46 ∷ sig_letter s ∷ []) ≡ Some (record { phen = a ∷ b ∷ []; sig = s })
unfolding hazard_at
hazard_of a b s first second = rw (first, second, sig_back s) refl

hazard_from : (phen : List ℕ) (s : Sig) → IsTrue (are_letters phen) → length phen ≡ 2 → hazard_at (phen ++ (46 ∷ sig_letter s ∷ [])) ≡ Some (record { phen = phen; sig = s })
hazard_from [] s letters two = absurd (omega (arith, two))
hazard_from (a ∷ []) s letters two = absurd (omega (arith, two))
hazard_from (a ∷ b ∷ c ∷ cs) s letters two = absurd (omega (arith, two))
hazard_from (a ∷ b ∷ []) s letters two =
    let l = and_parts (is_capital a) (is_capital b) letters in
    hazard_of a b s l.0 l.1

pub hazard_back : (h : Hazard) → IsTrue (are_letters h.phen) → length h.phen ≡ 2 → hazard_at (hazard_code h) ≡ Some h
hazard_back h letters two = hazard_from h.phen h.sig letters two

four_back : (n : ℕ) → n ≤ 9999 → parse_four_digits (48 + n / 1000) (48 + n / 100 % 10) (48 + n / 10 % 10) (48 + n % 10) ≡ Some n
unfolding parse_four_digits
four_back n h =
    let same : 1000 * (48 + n / 1000 - 48) + 100 * (48 + n / 100 % 10 - 48) + 10 * (48 + n / 10 % 10 - 48) + (48 + n % 10 - 48) ≡ n = omega arith in
    rw (digit (n / 1000) (omega arith), digit (n / 100 % 10) (omega arith), digit (n / 10 % 10) (omega arith), digit (n % 10) (omega arith), same) refl

pub wide_four : (n : ℕ) → n ≤ 9999 → wide n ≡ four_digits n
unfolding wide
wide_four n h = let below : nat_lt n 10000 ≡ true = grind (arith, nat_tests) in rw below refl

event_if_back : (h : Hazard) (etn year : ℕ) → 1 ≤ etn → 2000 ≤ year → year ≤ 2099 → event_if h etn year ≡ Some (record { hazard = h; etn = etn; year = year })
event_if_back h etn year a b c =
    let x : nat_le 1 etn ≡ true = grind (arith, nat_tests) in
    let y : nat_le 2000 year ≡ true = grind (arith, nat_tests) in
    let z : nat_le year 2099 ≡ true = grind (arith, nat_tests) in
    rw (x, y, z) refl

event_of : (a b : ℕ) (s : Sig) (etn year : ℕ) → is_capital a ≡ true → is_capital b ≡ true → 1 ≤ etn → etn ≤ 9999 → 2000 ≤ year → year ≤ 2099 →
    event_at (a ∷ b ∷ 46 ∷ sig_letter s ∷ 46 ∷ (four_digits etn ++ 46 ∷ four_digits year)) ≡ Some (record { hazard = record { phen = a ∷ b ∷ []; sig = s }; etn = etn; year = year })
unfolding event_at
event_of a b s etn year first second one most low high =
    let late : year ≤ 9999 = omega arith in
    rw (hazard_of a b s first second, four_back etn most, four_back year late) (event_if_back _ etn year one low high)

event_from : (phen : List ℕ) (s : Sig) (n y : ℕ) → IsTrue (are_letters phen) → length phen ≡ 2 → 1 ≤ n → n ≤ 9999 → 2000 ≤ y → y ≤ 2099 →
    event_at ((phen ++ (46 ∷ sig_letter s ∷ [])) ++ (46 ∷ (four_digits n ++ (46 ∷ four_digits y)))) ≡ Some (record { hazard = record { phen = phen; sig = s }; etn = n; year = y })
event_from [] s n y letters two one most low high = absurd (omega (arith, two))
event_from (a ∷ []) s n y letters two one most low high = absurd (omega (arith, two))
event_from (a ∷ b ∷ c ∷ cs) s n y letters two one most low high = absurd (omega (arith, two))
event_from (a ∷ b ∷ []) s n y letters two one most low high =
    let l = and_parts (is_capital a) (is_capital b) letters in
    event_of a b s n y l.0 l.1 one most low high

pub event_back : (e : Event) → IsTrue (are_letters e.hazard.phen) → length e.hazard.phen ≡ 2 → 1 ≤ e.etn → e.etn ≤ 9999 → 2000 ≤ e.year → e.year ≤ 2099 → event_at (event_text e) ≡ Some e
event_back e letters two one most low high =
    let late : e.year ≤ 9999 = omega arith in
    rw (wide_four e.etn most, wide_four e.year late) (event_from e.hazard.phen e.hazard.sig e.etn e.year letters two one most low high)

-- the letters of a category stand beside it in the table
pub category_back : (c : Category) → value_for_code category_rows (category_code c) ≡ Some c
unfolding category_rows
category_back category.Wsw = refl
category_back category.Npw = refl
category_back category.Rfw = refl
category_back category.Cfw = refl
category_back category.Mww = refl
category_back category.Ffa = refl
category_back category.Flw = refl
category_back category.Fls = refl
