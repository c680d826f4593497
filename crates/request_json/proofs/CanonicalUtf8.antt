-- The texts of canonical texts are ASCII where they are no forecaster's.
use Rattle.std.proofs.Common.{◌≡◌, ◌≤◌, ◌+◌, ◌/◌, ◌%◌, ◌&&◌, ℕ, Bool, true, false, List, [], ◌∷◌, length, nat_le, nat_lt, Option, Some, None, IsTrue, IfSome, IsUtf8, refl, sym, subst, arith, cond}
use Rattle.std.specs.List.{list_all}
use Rattle.std.specs.Str.{bytes_eq}
use Rattle.std.proofs.lemmas.Bool.{and_parts}
use Rattle.std.proofs.lemmas.Bool.Decides.{nat_tests}
use Rattle.std.proofs.lemmas.Slice.Eq.{bytes_eq-Decides}
use Rattle.std.proofs.lemmas.Str.{IsUtf8-append}
use Rattle.json.proofs.Printed.Utf8.{are_ascii, IsUtf8-are_ascii}
use Rattle.hazard_types.specs.Calendar.{IsCivil, stamp_of, stamp_text, civil_of}
use Rattle.hazard_types.specs.Characters.{is_name_byte, is_location}
use Rattle.hazard_types.specs.Codes.{value_for_code, without_padding}
use Rattle.office_types.specs.Desks.{is_desk_name}
use Rattle.hazard_types.specs.Digits.{three_digits, four_digits, wide}
use Rattle.hazard_types.specs.Hazards.{hazard_code}
use Rattle.hazard_types.specs.Names.{category_code, kind_code, zone_text, event_text}
use Rattle.hazard_types.specs.Orders.{sig_letter}
use Rattle.hazard_types.specs.Places.{Place, IsPlace, are_letters, is_capital, is_number}
use Rattle.hazard_types.specs.Tables.{category_rows, severity_rows, cause_rows, status_rows}
use Rattle.hazard_types.specs.Times.{time_text}
use Rattle.hazard_types.specs.declared.calendar.Civil.{Civil}
use Rattle.hazard_types.specs.declared.codes.Category.{Category}
use Rattle.hazard_types.specs.declared.codes.Coded.{Coded}
use Rattle.hazard_types.specs.declared.codes.Severity.{Severity}
use Rattle.hazard_types.specs.declared.codes.Status.{Status}
use Rattle.hazard_types.specs.declared.hazard.Event.{Event}
use Rattle.hazard_types.specs.declared.hazard.Hazard.{Hazard}
use Rattle.hazard_types.specs.declared.hazard.Sig.{Sig}
use Rattle.hazard_types.specs.declared.hazard.Sig.TheVariants.{W, A, Y, S, F, O, N}
use Rattle.hazard_types.specs.declared.zone.Kind.{Kind}
use Rattle.hazard_types.specs.declared.zone.Kind.TheVariants.{C, Z}
use Rattle.hazard_types.proofs.CodesBack.{severity_found, status_found}
use Rattle.hazard_types.proofs.NamesBack.{wide_four, category_back}
use Rattle.hazard_types.proofs.Years.{civil_ok, day_at_most}
use Rattle.hazard_types.specs.Letters.{severity_code, status_code}
use Rattle.request_json.specs.Formed.{IsMinute, IsHazard, IsEvent}

-- ---- stamps and times

civil_ascii : (c : Civil) → IsCivil c → are_ascii (stamp_text c) ≡ true
civil_ascii c h = let d : c.day ≤ 31 = day_at_most c h in grind (arith, nat_tests)

pub stamp_utf8 : (m : ℕ) → IsMinute m → IsUtf8 (stamp_of m)
unfolding stamp_of
stamp_utf8 m h = IsUtf8-are_ascii (stamp_text (civil_of m)) (civil_ascii (civil_of m) (civil_ok m h))

pub time_utf8 : (t : Option ℕ) → IfSome t IsMinute → IsUtf8 (time_text t)
time_utf8 None h = IsUtf8-are_ascii _ refl
time_utf8 (Some m) h = stamp_utf8 m h

-- ---- names

capital_ascii : (c : ℕ) → is_capital c ≡ true → nat_lt c 128 ≡ true
capital_ascii c h = grind (arith, nat_tests)

name_ascii : (c : ℕ) → is_name_byte c ≡ true → nat_lt c 128 ≡ true
name_ascii c h = grind (arith, nat_tests)

names_ascii : (xs : List ℕ) → list_all is_name_byte xs ≡ true → are_ascii xs ≡ true
names_ascii [] h = refl
names_ascii (x ∷ xs) h = let p = and_parts (is_name_byte x) (list_all is_name_byte xs) h in rw (name_ascii x p.0, names_ascii xs p.1) refl

pub desk_utf8 : (xs : List ℕ) → IsTrue (is_desk_name xs) → IsUtf8 xs
desk_utf8 xs h = let p = and_parts (nat_le 1 (length xs) && nat_le (length xs) 16) (list_all is_name_byte xs) h in IsUtf8-are_ascii xs (names_ascii xs p.1)

pub location_utf8 : (xs : List ℕ) → IsTrue (is_location xs) → IsUtf8 xs
location_utf8 xs h = let p = and_parts _ (list_all is_name_byte xs) h in IsUtf8-are_ascii xs (names_ascii xs p.1)

pub letters_utf8 : (xs : List ℕ) → IsTrue (are_letters xs) → length xs ≡ 2 → IsUtf8 xs
letters_utf8 [] h two = absurd (omega (arith, two))
letters_utf8 (a ∷ []) h two = absurd (omega (arith, two))
letters_utf8 (a ∷ b ∷ c ∷ cs) h two = absurd (omega (arith, two))
letters_utf8 (a ∷ b ∷ []) h two = let p = and_parts (is_capital a) (is_capital b) h in IsUtf8-are_ascii _ (rw (capital_ascii a p.0, capital_ascii b p.1) refl)

sig_utf8 : (s : Sig) → IsUtf8 (46 ∷ sig_letter s ∷ [])
sig_utf8 W = IsUtf8-are_ascii _ refl
sig_utf8 A = IsUtf8-are_ascii _ refl
sig_utf8 Y = IsUtf8-are_ascii _ refl
sig_utf8 S = IsUtf8-are_ascii _ refl
sig_utf8 F = IsUtf8-are_ascii _ refl
sig_utf8 O = IsUtf8-are_ascii _ refl
sig_utf8 N = IsUtf8-are_ascii _ refl

pub hazard_utf8 : (h : Hazard) → IsHazard h → IsUtf8 (hazard_code h)
hazard_utf8 h is = IsUtf8-append h.phen (46 ∷ sig_letter h.sig ∷ []) (letters_utf8 h.phen is.0 is.1) (sig_utf8 h.sig)

digit_ascii : (n : ℕ) → n ≤ 9 → nat_lt (48 + n) 128 ≡ true
digit_ascii n h = grind (arith, nat_tests)

four_ascii : (n : ℕ) → n ≤ 9999 → are_ascii (four_digits n) ≡ true
four_ascii n h = rw (digit_ascii (n / 1000) (omega arith), digit_ascii (n / 100 % 10) (omega arith), digit_ascii (n / 10 % 10) (omega arith), digit_ascii (n % 10) (omega arith)) refl

wide_utf8 : (n : ℕ) → n ≤ 9999 → IsUtf8 (wide n)
wide_utf8 n h = subst IsUtf8 (sym (wide_four n h)) (IsUtf8-are_ascii (four_digits n) (four_ascii n h))

pub event_utf8 : (e : Event) → IsEvent e → IsUtf8 (event_text e)
event_utf8 e is =
    let late : e.year ≤ 9999 = omega (arith, is.last_year) in
    let dot : IsUtf8 (46 ∷ []) = IsUtf8-are_ascii _ refl in
    IsUtf8-append (hazard_code e.hazard) _ (hazard_utf8 e.hazard is.hazard)
    (IsUtf8-append (46 ∷ []) _ dot (IsUtf8-append (wide e.etn) _ (wide_utf8 e.etn is.last_number) (IsUtf8-append (46 ∷ []) (wide e.year) dot (wide_utf8 e.year late))))

kind_ascii : (k : Kind) → nat_lt (kind_code k) 128 ≡ true
kind_ascii C = refl
kind_ascii Z = refl

number_most : (n : ℕ) → is_number n ≡ true → n ≤ 999
number_most n h = grind (arith, nat_tests)

three_ascii : (k : Kind) (n : ℕ) → n ≤ 999 → are_ascii (kind_code k ∷ three_digits n) ≡ true
three_ascii k n h = rw (kind_ascii k, digit_ascii (n / 100) (omega arith), digit_ascii (n / 10 % 10) (omega arith), digit_ascii (n % 10) (omega arith)) refl

pub zone_utf8 : (z : Place) → IsPlace z → IsUtf8 (zone_text z)
zone_utf8 z h =
    let p = and_parts (are_letters z.state) (is_number z.number) h.0 in
    IsUtf8-append z.state (kind_code z.kind ∷ three_digits z.number) (letters_utf8 z.state p.0 h.1) (IsUtf8-are_ascii _ (three_ascii z.kind z.number (number_most z.number p.1)))

-- ---- codes

ascii_by : {X : Type 0} (t : Bool) (code text : List ℕ) (x y : X) (rest : Option X) → bytes_eq code text ≡ t → are_ascii code ≡ true → (rest ≡ Some y → are_ascii text ≡ true) → cond t (Some x) rest ≡ Some y → are_ascii text ≡ true
ascii_by true code text x y rest same ascii later h = subst (λ (b : List ℕ). are_ascii b ≡ true) ((bytes_eq-Decides code text).0 same) ascii
ascii_by false code text x y rest same ascii later h = later h

-- a text that a table has is ASCII, where the codes of the table are
found_ascii : {X : Type 0} (rows : List (Coded X)) (text : List ℕ) (x : X) → list_all (λ (r : Coded X). are_ascii (without_padding r.code)) rows ≡ true → value_for_code rows text ≡ Some x → are_ascii text ≡ true
found_ascii [] text x all h = absurd (cc)
found_ascii {X} (r ∷ rows) text x all h =
    let p = and_parts (are_ascii (without_padding r.code)) (list_all (λ (q : Coded X). are_ascii (without_padding q.code)) rows) all in
    ascii_by (bytes_eq (without_padding r.code) text) (without_padding r.code) text r.value x (value_for_code rows text) refl p.0 (found_ascii rows text x p.1) h

pub category_utf8 : (c : Category) → IsUtf8 (category_code c)
unfolding category_rows
category_utf8 c = IsUtf8-are_ascii _ (found_ascii category_rows (category_code c) c refl (category_back c))

pub severity_utf8 : (s : Severity) → IsUtf8 (severity_code s)
unfolding severity_rows
severity_utf8 s = IsUtf8-are_ascii _ (found_ascii severity_rows (severity_code s) s refl (severity_found s))

pub status_utf8 : (s : Status) → IsUtf8 (status_code s)
unfolding status_rows
status_utf8 s = IsUtf8-are_ascii _ (found_ascii status_rows (status_code s) s refl (status_found s))

pub cause_utf8 : (cause : List ℕ) → value_for_code cause_rows cause ≡ Some cause → IsUtf8 cause
unfolding cause_rows
cause_utf8 cause h = IsUtf8-are_ascii cause (found_ascii cause_rows cause cause refl h)
