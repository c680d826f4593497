-- What the words of a written line say.
use Rattle.std.proofs.Common.{◌≡◌, ℕ, zero, suc, ◌+◌, ◌*◌, ◌/◌, ◌%◌, ◌<◌, ◌≤◌, ◌==◌, ◌&&◌, nat_le, nat_lt, inl, inr, true, false, cond, List, [], ◌∷◌, ◌++◌, Some, get_or, refl, sym, ap, arith, codes}
use Rattle.std.specs.List.{list_any}
use Rattle.std.proofs.lemmas.Bool.{cases_lt, lt-ltb, le-ltb}
use Rattle.std.proofs.lemmas.Bool.Decides.{nat_tests}
use Rattle.desk_clock.specs.declared.abbreviations.Abbreviation.{Abbreviation}
use Rattle.desk_clock.specs.declared.abbreviations.Abbreviation.TheVariants.{Ast, Est, Edt, Cst, Cdt, Mst, Mdt, Pst, Pdt, Akst, Akdt, Hst, Utc, Gmt}
use Rattle.desk_clock.specs.Abbreviations.{letters_of}
use Rattle.desk_clock.specs.LocalText.{one_or_two, clock_hour, half_day}
use Rattle.hazard_types.specs.Calendar.{two}
use Rattle.hazard_types.specs.Digits.{four_digits}
use Rattle.desk_clock.specs.LocalWords.{digit, parse_number, parse_half_day, time_of, parse_time_of_day, parse_year, are_letters}
use Rattle.desk_clock.specs.Names.{month_names, weekday_names, abbreviations, parse_abbreviation, find_name}
use Rattle.desk_clock.specs.Words.{begins_with}
use Rattle.hazard_types.specs.Characters.{is_blank}

digit_of : (k : ℕ) → k ≤ 9 → digit (48 + k) ≡ Some k
digit_of k h = grind (arith, nat_tests)

number_one : (k : ℕ) → k ≤ 9 → parse_number ((48 + k) ∷ []) ≡ Some k
unfolding parse_number
number_one k h = digit_of k h

number_two : (n tens ones : ℕ) → tens ≤ 9 → ones ≤ 9 → n ≡ 10 * tens + ones → parse_number ((48 + tens) ∷ (48 + ones) ∷ []) ≡ Some n
unfolding parse_number
number_two n tens ones h k e = rw (digit_of tens h, digit_of ones k) (ap (λ (x : ℕ). Some x) (sym e))

am : parse_half_day (codes "AM") ≡ Some 0
unfolding parse_half_day
am = refl

pm : parse_half_day (codes "PM") ≡ Some 12
unfolding parse_half_day
pm = refl

pub half_begin : ℕ → ℕ
half_begin hour = cond (nat_lt hour 12) 0 12

half_said : (hour : ℕ) → parse_half_day (half_day hour) ≡ Some (half_begin hour)
unfolding half_begin
half_said hour = elim (nat_lt hour 12) as (λ b. parse_half_day (cond b (codes "AM") (codes "PM")) ≡ Some (cond b 0 12)) [ true ↦ am | false ↦ pm ]

time_back : (hour minute : ℕ) → hour < 24 → minute < 60 → time_of (clock_hour hour) minute (half_begin hour) ≡ Some (hour, minute)
unfolding half_begin
time_back hour minute h n =
    let test : (nat_le 1 (clock_hour hour) && nat_le (clock_hour hour) 12 && nat_lt minute 60) ≡ true = grind (arith, nat_tests) in
    let back : clock_hour hour % 12 + cond (nat_lt hour 12) 0 12 ≡ hour = grind (arith, nat_tests) in
    rw test (ap (λ (x : ℕ). Some (x, minute)) back)

clock_range : (hour : ℕ) → (1 ≤ clock_hour hour) × (clock_hour hour ≤ 12)
clock_range hour = (grind (arith, nat_tests), grind (arith, nat_tests))

pub clock_said : (hour minute : ℕ) → hour < 24 → minute < 60 → parse_time_of_day (one_or_two (clock_hour hour) ++ two minute []) (half_day hour) ≡ Some (hour, minute)
unfolding parse_time_of_day
clock_said hour minute h n =
    let range = clock_range hour in
    let minutes = number_two minute (minute / 10) (minute % 10) (omega arith) (omega arith) (omega arith) in
    elim (cases_lt (clock_hour hour) 10) [
      | inl lt ↦ rw (lt-ltb (clock_hour hour) 10 lt, number_one (clock_hour hour) (omega arith), minutes, half_said hour) (time_back hour minute h n)
      | inr le ↦ rw (le-ltb (clock_hour hour) 10 le, number_two (clock_hour hour) (clock_hour hour / 10) (clock_hour hour % 10) (omega arith) (omega arith) (omega arith), minutes, half_said hour) (time_back hour minute h n)
    ]

pub day_number_said : (d : ℕ) → d < 100 → parse_number (one_or_two d) ≡ Some d
day_number_said d h =
    elim (cases_lt d 10) [
      | inl lt ↦ rw (lt-ltb d 10 lt) (number_one d (omega arith))
      | inr le ↦ rw (le-ltb d 10 le) (number_two d (d / 10) (d % 10) (omega arith) (omega arith) (omega arith))
    ]

pub year_back : (y : ℕ) → y < 10000 → parse_year (four_digits y) ≡ Some y
unfolding parse_year
year_back y h =
    let century = number_two (y / 100) (y / 1000) (y / 100 % 10) (omega arith) (omega arith) (omega arith) in
    let year = number_two (y % 100) (y / 10 % 10) (y % 10) (omega arith) (omega arith) (omega arith) in
    rw (century, year) (ap (λ (x : ℕ). Some x) (omega arith))

pub letters_back : (a : Abbreviation) → parse_abbreviation (letters_of a) ≡ Some a
unfolding abbreviations
letters_back Ast = refl
letters_back Est = refl
letters_back Edt = refl
letters_back Cst = refl
letters_back Cdt = refl
letters_back Mst = refl
letters_back Mdt = refl
letters_back Pst = refl
letters_back Pdt = refl
letters_back Akst = refl
letters_back Akdt = refl
letters_back Hst = refl
letters_back Utc = refl
letters_back Gmt = refl

pub letters_are : (a : Abbreviation) → are_letters (letters_of a) ≡ true
letters_are Ast = refl
letters_are Est = refl
letters_are Edt = refl
letters_are Cst = refl
letters_are Cdt = refl
letters_are Mst = refl
letters_are Mdt = refl
letters_are Pst = refl
letters_are Pdt = refl
letters_are Akst = refl
letters_are Akdt = refl
letters_are Hst = refl
letters_are Utc = refl
letters_are Gmt = refl

pub letters_unbroken : (a : Abbreviation) → list_any is_blank (letters_of a) ≡ false
letters_unbroken Ast = refl
letters_unbroken Est = refl
letters_unbroken Edt = refl
letters_unbroken Cst = refl
letters_unbroken Cdt = refl
letters_unbroken Mst = refl
letters_unbroken Mdt = refl
letters_unbroken Pst = refl
letters_unbroken Pdt = refl
letters_unbroken Akst = refl
letters_unbroken Akdt = refl
letters_unbroken Hst = refl
letters_unbroken Utc = refl
letters_unbroken Gmt = refl

pub letters_begin : (a : Abbreviation) (rest : List ℕ) → begins_with is_blank (letters_of a ++ rest) ≡ false
letters_begin Ast rest = refl
letters_begin Est rest = refl
letters_begin Edt rest = refl
letters_begin Cst rest = refl
letters_begin Cdt rest = refl
letters_begin Mst rest = refl
letters_begin Mdt rest = refl
letters_begin Pst rest = refl
letters_begin Pdt rest = refl
letters_begin Akst rest = refl
letters_begin Akdt rest = refl
letters_begin Hst rest = refl
letters_begin Utc rest = refl
letters_begin Gmt rest = refl

-- the name of a month is found at its place, has no blank, and begins with none
pub record IsName (names : List (List ℕ)) (place : ℕ) : Type 0 where
  pub found : find_name names (get_or names place []) ≡ Some place
  pub unbroken : list_any is_blank (get_or names place []) ≡ false
  pub begins : (rest : List ℕ) → begins_with is_blank (get_or names place [] ++ rest) ≡ false
  pub no_slash : (rest : List ℕ) → begins_with (λ c. c == 47) (get_or names place [] ++ rest) ≡ false

pub month_is : (place : ℕ) → place < 12 → IsName month_names place
unfolding month_names
month_is zero h = record { found = refl; unbroken = refl; begins = λ rest. refl; no_slash = λ rest. refl }
month_is (suc zero) h = record { found = refl; unbroken = refl; begins = λ rest. refl; no_slash = λ rest. refl }
month_is (suc (suc zero)) h = record { found = refl; unbroken = refl; begins = λ rest. refl; no_slash = λ rest. refl }
month_is (suc (suc (suc zero))) h = record { found = refl; unbroken = refl; begins = λ rest. refl; no_slash = λ rest. refl }
month_is (suc (suc (suc (suc zero)))) h = record { found = refl; unbroken = refl; begins = λ rest. refl; no_slash = λ rest. refl }
month_is (suc (suc (suc (suc (suc zero))))) h = record { found = refl; unbroken = refl; begins = λ rest. refl; no_slash = λ rest. refl }
month_is (suc (suc (suc (suc (suc (suc zero)))))) h = record { found = refl; unbroken = refl; begins = λ rest. refl; no_slash = λ rest. refl }
month_is (suc (suc (suc (suc (suc (suc (suc zero))))))) h = record { found = refl; unbroken = refl; begins = λ rest. refl; no_slash = λ rest. refl }
month_is (suc (suc (suc (suc (suc (suc (suc (suc zero)))))))) h = record { found = refl; unbroken = refl; begins = λ rest. refl; no_slash = λ rest. refl }
month_is (suc (suc (suc (suc (suc (suc (suc (suc (suc zero))))))))) h = record { found = refl; unbroken = refl; begins = λ rest. refl; no_slash = λ rest. refl }
month_is (suc (suc (suc (suc (suc (suc (suc (suc (suc (suc zero)))))))))) h = record { found = refl; unbroken = refl; begins = λ rest. refl; no_slash = λ rest. refl }
month_is (suc (suc (suc (suc (suc (suc (suc (suc (suc (suc (suc zero))))))))))) h = record { found = refl; unbroken = refl; begins = λ rest. refl; no_slash = λ rest. refl }
month_is (suc (suc (suc (suc (suc (suc (suc (suc (suc (suc (suc (suc n)))))))))))) h = absurd (omega arith)

pub weekday_is : (place : ℕ) → place < 7 → IsName weekday_names place
unfolding weekday_names
weekday_is zero h = record { found = refl; unbroken = refl; begins = λ rest. refl; no_slash = λ rest. refl }
weekday_is (suc zero) h = record { found = refl; unbroken = refl; begins = λ rest. refl; no_slash = λ rest. refl }
weekday_is (suc (suc zero)) h = record { found = refl; unbroken = refl; begins = λ rest. refl; no_slash = λ rest. refl }
weekday_is (suc (suc (suc zero))) h = record { found = refl; unbroken = refl; begins = λ rest. refl; no_slash = λ rest. refl }
weekday_is (suc (suc (suc (suc zero)))) h = record { found = refl; unbroken = refl; begins = λ rest. refl; no_slash = λ rest. refl }
weekday_is (suc (suc (suc (suc (suc zero))))) h = record { found = refl; unbroken = refl; begins = λ rest. refl; no_slash = λ rest. refl }
weekday_is (suc (suc (suc (suc (suc (suc zero)))))) h = record { found = refl; unbroken = refl; begins = λ rest. refl; no_slash = λ rest. refl }
weekday_is (suc (suc (suc (suc (suc (suc (suc n))))))) h = absurd (omega arith)
