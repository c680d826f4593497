-- jiff's calendar and the calendar of 2000 to 2099 are one.
use Rattle.std.proofs.Common.{◌≡◌, ℕ, zero, suc, ◌+◌, ◌-◌, ◌/◌, ◌%◌, ◌<◌, ◌≤◌, ◌==◌, ◌||◌, List, [], ◌∷◌, sum, take, get_or, cond, nat_lt, pos, ◌≤ℤ◌, inl, inr, refl, sym, ap, ◌∙◌, arith, rules, true, false, Bool}
use Rattle.std.proofs.lemmas.Bool.Decides.{nat_tests}
use Rattle.jiff_core.specs.Calendar.{is_leap_year, days_in_year, days_in_month, days_of_months, day_count, days_from_civil}
use Rattle.jiff_core.specs.Date.{epoch_day}
use Rattle.jiff_core.specs.declared.civil.date.Date.{Date}
use Rattle.jiff_core.proofs.CalendarLemmas.{day_count-next_year, day_count-day_of_year, days_of_months_table, days_from_civil-day_count, days_in_month_bounds}
use Rattle.jiff_core.proofs.DateLemmas.{epoch_day_injective, epoch_day-lt, epoch_day_same, cases_date}
use Rattle.jiff_core.proofs.MarchLemmas.{leap_day}
use Rattle.jiff_core.proofs.SignedLemmas.{signed_arith}
use Rattle.jiff_tz.proofs.OnLiterals.{jiff_tz_rules_on_literals}
use Rattle.hazard_types.specs.declared.calendar.Civil.{Civil}
use Rattle.hazard_types.specs.Calendar.{year_length, days_before_year, month_lengths, days_before_month, IsCivil, minute_of}

first_count : day_count (pos 2000) 1 1 ≡ 4382910
unfolding jiff_tz_rules_on_literals
first_count = refl

same_leap : (y : ℕ) → y < 100 → is_leap_year (pos (2000 + y)) ≡ (y % 4 == 0)
same_leap y h = grind (arith, nat_tests)

same_year_length : (y : ℕ) → y < 100 → days_in_year (pos (2000 + y)) ≡ year_length y
same_year_length y h = ap (λ (b : Bool). cond b 366 365) (same_leap y h)

year_count : (y : ℕ) → y < 100 → day_count (pos (2000 + y)) 1 1 ≡ 4382910 + days_before_year y
year_count zero h = first_count
year_count (suc y) h =
    let next = day_count-next_year (pos (2000 + y)) (pos (2000 + suc y)) (omega (arith, signed_arith)) (omega (arith, signed_arith)) in
    omega (arith, next, year_count y (omega arith), same_year_length y (omega arith))

-- the days of the months before the nth, where February has 28 days and `more`
before_nth : (n more : ℕ) → n < 12 → sum (take n (31 ∷ (28 + more) ∷ 31 ∷ 30 ∷ 31 ∷ 30 ∷ 31 ∷ 31 ∷ 30 ∷ 31 ∷ 30 ∷ 31 ∷ [])) ≡ get_or (0 ∷ 31 ∷ 59 ∷ 90 ∷ 120 ∷ 151 ∷ 181 ∷ 212 ∷ 243 ∷ 273 ∷ 304 ∷ 334 ∷ []) n 0 + cond (nat_lt 1 n) more 0
before_nth zero more h = omega arith
before_nth (suc zero) more h = omega arith
before_nth (suc (suc zero)) more h = omega arith
before_nth (suc (suc (suc zero))) more h = omega arith
before_nth (suc (suc (suc (suc zero)))) more h = omega arith
before_nth (suc (suc (suc (suc (suc zero))))) more h = omega arith
before_nth (suc (suc (suc (suc (suc (suc zero)))))) more h = omega arith
before_nth (suc (suc (suc (suc (suc (suc (suc zero))))))) more h = omega arith
before_nth (suc (suc (suc (suc (suc (suc (suc (suc zero)))))))) more h = omega arith
before_nth (suc (suc (suc (suc (suc (suc (suc (suc (suc zero))))))))) more h = omega arith
before_nth (suc (suc (suc (suc (suc (suc (suc (suc (suc (suc zero)))))))))) more h = omega arith
before_nth (suc (suc (suc (suc (suc (suc (suc (suc (suc (suc (suc zero))))))))))) more h = omega arith
before_nth (suc (suc (suc (suc (suc (suc (suc (suc (suc (suc (suc (suc n)))))))))))) more h = absurd (omega arith)

february : (b : Bool) → cond b 29 28 ≡ 28 + cond b 1 0
february true = refl
february false = refl

same_months : (y m : ℕ) → y < 100 → 1 ≤ m → m ≤ 12 → days_of_months (pos (2000 + y)) (m - 1) ≡ days_before_month y m
unfolding month_lengths
same_months y m below low high =
    let table = days_of_months_table (pos (2000 + y)) (m - 1) (omega arith) in
    let leap : leap_day (pos (2000 + y)) ≡ cond (y % 4 == 0) 1 0 = ap (λ (b : Bool). cond b 1 0) (same_leap y below) in
    rw (february (y % 4 == 0)) (table ∙ ap (λ (k : ℕ). get_or (0 ∷ 31 ∷ 59 ∷ 90 ∷ 120 ∷ 151 ∷ 181 ∷ 212 ∷ 243 ∷ 273 ∷ 304 ∷ 334 ∷ []) (m - 1) 0 + cond (nat_lt 1 (m - 1)) k 0) leap ∙ sym (before_nth (m - 1) (cond (y % 4 == 0) 1 0) (omega arith)))

-- the day number of a date
pub day_number : (c : Civil) → IsCivil c → days_from_civil (pos (2000 + c.year)) c.month c.day ≡ pos (10957 + minute_of c / 1440)
unfolding minute_of
day_number c is =
    let counted = day_count-day_of_year (pos (2000 + c.year)) c.month c.day is.first_day in
    let years = year_count c.year is.year in
    let months = same_months c.year c.month is.year is.first_month is.last_month in
    let number = days_from_civil-day_count (pos (2000 + c.year)) c.month c.day in
    let day : minute_of c / 1440 ≡ days_before_year c.year + days_before_month c.year c.month + (c.day - 1) = omega (arith, is.hour, is.minute) in
    let first = is.first_day in
    let all : day_count (pos (2000 + c.year)) c.month c.day ≡ 4382910 + (minute_of c / 1440) = omega arith in
    omega (arith, signed_arith, number, all)

-- the length of a month, by its number and by its place in the year
abbrev months : Bool → List ℕ
months b = 31 ∷ cond b 29 28 ∷ 31 ∷ 30 ∷ 31 ∷ 30 ∷ 31 ∷ 31 ∷ 30 ∷ 31 ∷ 30 ∷ 31 ∷ []

abbrev month_days : Bool → ℕ → ℕ
month_days b m = cond (m == 2) (cond b 29 28) (cond ((m == 4) || (m == 6) || (m == 9) || (m == 11)) 30 31)

of_month : (b : Bool) (m : ℕ) → 1 ≤ m → m ≤ 12 → month_days b m ≡ get_or (months b) (m - 1) 0
of_month b zero low high = absurd (omega arith)
of_month b (suc zero) low high = refl
of_month b (suc (suc zero)) low high = refl
of_month b (suc (suc (suc zero))) low high = refl
of_month b (suc (suc (suc (suc zero)))) low high = refl
of_month b (suc (suc (suc (suc (suc zero))))) low high = refl
of_month b (suc (suc (suc (suc (suc (suc zero)))))) low high = refl
of_month b (suc (suc (suc (suc (suc (suc (suc zero))))))) low high = refl
of_month b (suc (suc (suc (suc (suc (suc (suc (suc zero)))))))) low high = refl
of_month b (suc (suc (suc (suc (suc (suc (suc (suc (suc zero))))))))) low high = refl
of_month b (suc (suc (suc (suc (suc (suc (suc (suc (suc (suc zero)))))))))) low high = refl
of_month b (suc (suc (suc (suc (suc (suc (suc (suc (suc (suc (suc zero))))))))))) low high = refl
of_month b (suc (suc (suc (suc (suc (suc (suc (suc (suc (suc (suc (suc zero)))))))))))) low high = refl
of_month b (suc (suc (suc (suc (suc (suc (suc (suc (suc (suc (suc (suc (suc m))))))))))))) low high = absurd (omega arith)

pub same_month_length : (y m : ℕ) → y < 100 → 1 ≤ m → m ≤ 12 → days_in_month (pos (2000 + y)) m ≡ get_or (month_lengths y) (m - 1) 0
unfolding month_lengths
same_month_length y m below low high = rw (same_leap y below) (of_month (y % 4 == 0) m low high)

-- a date of the calendar as one of jiff's
jiff_date : (c : Civil) → IsCivil c → Date
jiff_date c is = record {
  year = pos (2000 + c.year);
  month = c.month;
  day = c.day;
  year_in = omega (arith, signed_arith, is.year);
  month_in = (is.first_month, is.last_month);
  day_in = (is.first_day, omega (arith, is.last_day, same_month_length c.year c.month is.year is.first_month is.last_month));
}

-- the last day of 1999
last_of_1999 : Date
last_of_1999 = record { year = pos 1999; month = 12; day = 31; year_in = search rules; month_in = search rules; day_in = search rules }

last_day : epoch_day last_of_1999 ≡ pos 10956
unfolding last_of_1999 jiff_tz_rules_on_literals
last_day = refl

pub date_is : (c : Civil) → IsCivil c → (d : Date) → epoch_day d ≡ pos (10957 + minute_of c / 1440) → (d.year ≡ pos (2000 + c.year)) × (d.month ≡ c.month) × (d.day ≡ c.day)
unfolding jiff_date
date_is c is d e = epoch_day_injective d (jiff_date c is) (e ∙ sym (day_number c is))

pub last_is : (d : Date) → epoch_day d ≡ pos 10956 → (d.year ≡ pos 1999) × (d.month ≡ 12) × (d.day ≡ 31)
unfolding last_of_1999
last_is d e = epoch_day_injective d last_of_1999 (e ∙ sym last_day)

-- a date of 1999 from the last day on is the last day
pub late_1999 : (d : Date) → d.year ≡ pos 1999 → pos 10956 ≤ℤ epoch_day d → (d.month ≡ 12) × (d.day ≡ 31) × (epoch_day d ≡ pos 10956)
unfolding last_of_1999
late_1999 d year late =
    elim (cases_date d last_of_1999) [
      | inl lt ↦ let earlier = epoch_day-lt d last_of_1999 lt in absurd (omega (arith, signed_arith, last_day))
      | inr (inl (inl lt)) ↦ absurd (omega (arith, signed_arith))
      | inr (inl (inr (_, inl lt))) ↦ let m = d.month_in.1 in absurd (omega arith)
      | inr (inl (inr (_, inr (_, lt)))) ↦ let m = d.day_in.1 in let most = days_in_month_bounds d.year d.month in absurd (omega arith)
      | inr (inr same) ↦ (same.1, same.2, epoch_day_same d last_of_1999 same.0 same.1 same.2 ∙ last_day)
    ]

pub last_epoch : (d : Date) → d.year ≡ pos 1999 → d.month ≡ 12 → d.day ≡ 31 → epoch_day d ≡ pos 10956
unfolding last_of_1999
last_epoch d year month day = epoch_day_same d last_of_1999 year month day ∙ last_day
