-- A local line as it is written: one line, which begins and ends with a digit.
use Rattle.std.proofs.Common.{◌≡◌, ℕ, zero, suc, ◌+◌, ◌-◌, ◌/◌, ◌%◌, ◌<◌, ◌≤◌, ◌==◌, false, List, [], ◌∷◌, ◌++◌, get_or, refl, ap, sym, ◌∙◌, subst, arith, inl, inr, Some, append_assoc, codes}
use Rattle.std.specs.Prelude.{nat_lt}
use Rattle.std.specs.List.{AllByRecursion}
use Rattle.std.proofs.lemmas.Bool.{cases_Bool, ne_eqb, ltb-true}
use Rattle.hazard_types.specs.declared.codes.LocalZone.{LocalZone}
use Rattle.desk_clock.specs.declared.abbreviations.Abbreviation.{Abbreviation}
use Rattle.desk_clock.specs.declared.abbreviations.Abbreviation.TheVariants.{Ast, Est, Edt, Cst, Cdt, Mst, Mdt, Pst, Pdt, Akst, Akdt, Hst, Utc, Gmt}
use Rattle.desk_clock.specs.Abbreviations.{letters_of}
use Rattle.desk_clock.specs.LocalTimes.{local_time, shown_at}
use Rattle.desk_clock.specs.Names.{month_name, weekday_name, month_names, weekday_names}
use Rattle.desk_clock.specs.Zones.{abbreviation_at}
use Rattle.desk_clock.specs.LocalText.{one_or_two, clock_hour, half_day, local_line_without_year, local_line_of}
use Rattle.hazard_types.specs.Calendar.{two}
use Rattle.hazard_types.specs.Digits.{four_digits}
use Rattle.desk_clock.specs.LocalText.{line_of as local_text}
use Rattle.desk_clock.proofs.RoundTrip.{reads_back}
use Rattle.product_frame.specs.Text.{line_of, is_left_out}
use Rattle.product_frame.specs.Parts.{parse_local_line}
use Rattle.product_frame.specs.LineRules.{IsOneLine}
use Rattle.ugc_codes.proofs.Written.{all_both}
use Rattle.product_frame.proofs.Runs.{line_whole}

abbrev pub NoEnd : ℕ → Type 0
NoEnd c = (c == 10) ≡ false

pub digit_no_end : (k : ℕ) → NoEnd (48 + k)
digit_no_end k = ne_eqb _ _ (λ (e : 48 + k ≡ 10). omega arith)

number_line : (n : ℕ) → IsOneLine (one_or_two n)
number_line n = elim (cases_Bool (nat_lt n 10)) [
  | inl e ↦ rw e (digit_no_end n, tt)
  | inr e ↦ rw e (digit_no_end (n / 10), (digit_no_end (n % 10), tt))
]

two_line : (n : ℕ) → IsOneLine (two n (codes " "))
two_line n = (digit_no_end (n / 10), (digit_no_end (n % 10), (refl, tt)))

half_line : (hour : ℕ) → IsOneLine (half_day hour)
half_line hour = elim (cases_Bool (nat_lt hour 12)) [ inl e ↦ rw e (refl, (refl, tt)) | inr e ↦ rw e (refl, (refl, tt)) ]

letters_line : (a : Abbreviation) → IsOneLine (letters_of a)
letters_line Ast = (refl, (refl, (refl, tt)))
letters_line Est = (refl, (refl, (refl, tt)))
letters_line Edt = (refl, (refl, (refl, tt)))
letters_line Cst = (refl, (refl, (refl, tt)))
letters_line Cdt = (refl, (refl, (refl, tt)))
letters_line Mst = (refl, (refl, (refl, tt)))
letters_line Mdt = (refl, (refl, (refl, tt)))
letters_line Pst = (refl, (refl, (refl, tt)))
letters_line Pdt = (refl, (refl, (refl, tt)))
letters_line Akst = (refl, (refl, (refl, (refl, tt))))
letters_line Akdt = (refl, (refl, (refl, (refl, tt))))
letters_line Hst = (refl, (refl, (refl, tt)))
letters_line Utc = (refl, (refl, (refl, tt)))
letters_line Gmt = (refl, (refl, (refl, tt)))

name_line : (names : List (List ℕ)) (k : ℕ) → AllByRecursion IsOneLine names → IsOneLine (get_or names k [])
name_line [] k h = tt
name_line (n ∷ names) zero h = h.0
name_line (n ∷ names) (suc k) h = name_line names k h.1

months_are : AllByRecursion IsOneLine month_names
unfolding month_names
months_are = ((refl, (refl, (refl, tt))), ((refl, (refl, (refl, tt))), ((refl, (refl, (refl, tt))), ((refl, (refl, (refl, tt))), ((refl, (refl, (refl, tt))), ((refl, (refl, (refl, tt))), ((refl, (refl, (refl, tt))), ((refl, (refl, (refl, tt))), ((refl, (refl, (refl, tt))), ((refl, (refl, (refl, tt))), ((refl, (refl, (refl, tt))), ((refl, (refl, (refl, tt))), tt))))))))))))

weekdays_are : AllByRecursion IsOneLine weekday_names
unfolding weekday_names
weekdays_are = ((refl, (refl, (refl, tt))), ((refl, (refl, (refl, tt))), ((refl, (refl, (refl, tt))), ((refl, (refl, (refl, tt))), ((refl, (refl, (refl, tt))), ((refl, (refl, (refl, tt))), ((refl, (refl, (refl, tt))), tt)))))))

blank_line : IsOneLine (codes " ")
blank_line = (refl, tt)

short_line : (a : Abbreviation) (shown : ℕ) → IsOneLine (local_line_without_year a shown)
unfolding local_line_without_year
short_line a shown =
    let t = local_time shown in
    let a0 = one_or_two (clock_hour t.hour) in let a1 = a0 ++ two t.minute (codes " ") in let a2 = a1 ++ half_day t.hour in let a3 = a2 ++ codes " " in let a4 = a3 ++ letters_of a in
    let a5 = a4 ++ codes " " in let a6 = a5 ++ weekday_name (shown / 1440) in let a7 = a6 ++ codes " " in let a8 = a7 ++ month_name t.month in let a9 = a8 ++ codes " " in
    let q1 = all_both NoEnd a0 (two t.minute (codes " ")) (number_line (clock_hour t.hour)) (two_line t.minute) in
    let q2 = all_both NoEnd a1 (half_day t.hour) q1 (half_line t.hour) in
    let q3 = all_both NoEnd a2 (codes " ") q2 blank_line in
    let q4 = all_both NoEnd a3 (letters_of a) q3 (letters_line a) in
    let q5 = all_both NoEnd a4 (codes " ") q4 blank_line in
    let q6 = all_both NoEnd a5 (weekday_name (shown / 1440)) q5 (name_line weekday_names ((shown / 1440 + 4) % 7) weekdays_are) in
    let q7 = all_both NoEnd a6 (codes " ") q6 blank_line in
    let q8 = all_both NoEnd a7 (month_name t.month) q7 (name_line month_names (t.month - 1) months_are) in
    let q9 = all_both NoEnd a8 (codes " ") q8 blank_line in
    all_both NoEnd a9 (one_or_two t.day) q9 (number_line t.day)

-- the line without its last byte
front_of : (a : Abbreviation) (shown : ℕ) → List ℕ
front_of a shown = let y = (local_time shown).year in local_line_without_year a shown ++ (32 ∷ (48 + y / 1000) ∷ (48 + y / 100 % 10) ∷ (48 + y / 10 % 10) ∷ [])

front_line : (a : Abbreviation) (shown : ℕ) → IsOneLine (front_of a shown)
unfolding front_of
front_line a shown =
    let y = (local_time shown).year in
    all_both NoEnd (local_line_without_year a shown) (32 ∷ (48 + y / 1000) ∷ (48 + y / 100 % 10) ∷ (48 + y / 10 % 10) ∷ []) (short_line a shown) (refl, (digit_no_end (y / 1000), (digit_no_end (y / 100 % 10), (digit_no_end (y / 10 % 10), tt))))

text_is : (a : Abbreviation) (shown : ℕ) → local_text a shown ≡ front_of a shown ++ (48 + (local_time shown).year % 10) ∷ []
unfolding local_text front_of
text_is a shown = let y = (local_time shown).year in sym (append_assoc (local_line_without_year a shown) (32 ∷ (48 + y / 1000) ∷ (48 + y / 100 % 10) ∷ (48 + y / 10 % 10) ∷ []) ((48 + y % 10) ∷ []))

pub digit_kept : (k : ℕ) → is_left_out (48 + k) ≡ false
digit_kept k =
    let a : (48 + k == 13) ≡ false = ne_eqb _ _ (λ (e : 48 + k ≡ 13). omega arith) in
    let b : (48 + k == 32) ≡ false = ne_eqb _ _ (λ (e : 48 + k ≡ 32). omega arith) in
    let c : (48 + k == 9) ≡ false = ne_eqb _ _ (λ (e : 48 + k ≡ 9). omega arith) in
    rw (a, b, c) refl

text_line : (a : Abbreviation) (shown : ℕ) → IsOneLine (local_text a shown)
text_line a shown =
    let k = (local_time shown).year % 10 in
    subst IsOneLine (sym (text_is a shown)) (all_both NoEnd (front_of a shown) ((48 + k) ∷ []) (front_line a shown) (digit_no_end k, tt))

text_whole : (a : Abbreviation) (shown : ℕ) → line_of (local_text a shown) ≡ local_text a shown
text_whole a shown =
    let k = (local_time shown).year % 10 in
    ap line_of (text_is a shown) ∙ line_whole (front_of a shown) (48 + k) (front_line a shown) (digit_no_end k) (digit_kept k) ∙ sym (text_is a shown)

hour_range : (hour : ℕ) → clock_hour hour ≤ 12
hour_range hour = elim (cases_Bool (hour % 12 == 0)) [ inl e ↦ rw e (omega arith) | inr e ↦ rw e (omega arith) ]

-- the first byte is a digit
abbrev pub BeginsWithDigit : List ℕ → Type 0
BeginsWithDigit t = (c : ℕ) × (more : List ℕ) × (t ≡ c ∷ more) × (48 ≤ c) × (c ≤ 57)

begins_on : (t more : List ℕ) → BeginsWithDigit t → BeginsWithDigit (t ++ more)
begins_on t more h = (h.0, h.1 ++ more, ap (λ (x : List ℕ). x ++ more) h.2, h.3, h.4)

number_begins : (n : ℕ) → n ≤ 12 → BeginsWithDigit (one_or_two n)
number_begins n le = elim (cases_Bool (nat_lt n 10)) [
  | inl e ↦ rw e (let lt : n < 10 = ltb-true n 10 e in (48 + n, [], refl, omega arith, omega arith))
  | inr e ↦ rw e (48 + n / 10, (48 + n % 10) ∷ [], refl, omega arith, omega arith)
]

short_begins : (a : Abbreviation) (shown : ℕ) → BeginsWithDigit (local_line_without_year a shown)
unfolding local_line_without_year
short_begins a shown =
    let t = local_time shown in
    begins_on _ (one_or_two t.day) (begins_on _ (codes " ") (begins_on _ (month_name t.month) (begins_on _ (codes " ") (begins_on _ (weekday_name (shown / 1440)) (begins_on _ (codes " ")
    (begins_on _ (letters_of a) (begins_on _ (codes " ") (begins_on _ (half_day t.hour) (begins_on (one_or_two (clock_hour t.hour)) (two t.minute (codes " ")) (number_begins (clock_hour t.hour) (hour_range t.hour)))))))))))

pub local_line : (z : LocalZone) (m : ℕ) → IsOneLine (local_line_of z m)
unfolding local_line_of
local_line z m = text_line (abbreviation_at z m) (shown_at (abbreviation_at z m) m)

pub local_whole : (z : LocalZone) (m : ℕ) → line_of (local_line_of z m) ≡ local_line_of z m
unfolding local_line_of
local_whole z m = text_whole (abbreviation_at z m) (shown_at (abbreviation_at z m) m)

pub local_begins : (z : LocalZone) (m : ℕ) → BeginsWithDigit (local_line_of z m)
unfolding local_line_of local_text
local_begins z m = begins_on _ (32 ∷ four_digits (local_time (shown_at (abbreviation_at z m) m)).year) (short_begins (abbreviation_at z m) (shown_at (abbreviation_at z m) m))

pub local_reads : (z : LocalZone) (m : ℕ) → m < 52596000 → parse_local_line (local_line_of z m) ≡ Some m
unfolding parse_local_line
local_reads z m lt = rw (reads_back z m lt) refl
