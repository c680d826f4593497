-- The minutes that a date and time is, by jiff's number of its day.
use Rattle.std.proofs.Common.{◌≡◌, ℕ, ◌+◌, ◌-◌, ◌*◌, ◌/◌, ◌%◌, ◌<◌, ◌≤◌, ◌⊎◌, ◌&&◌, nat_le, inl, inr, Option, Some, None, ℤ, pos, ◌≤ℤ◌, refl, sym, ap, ◌∙◌, arith, Bool, true, false, get_or}
use Rattle.std.proofs.lemmas.Bool.{cases_lt, le-leb, leb-true, and_parts}
use Rattle.std.proofs.lemmas.Option.{cond_some}
use Rattle.std.proofs.lemmas.Bool.Decides.{nat_tests}
use Rattle.jiff_core.specs.Calendar.{days_in_month}
use Rattle.jiff_core.specs.Date.{epoch_day}
use Rattle.jiff_core.specs.declared.civil.date.Date.{Date}
use Rattle.jiff_core.proofs.SignedLemmas.{signed_arith}
use Rattle.hazard_types.specs.declared.calendar.Civil.{Civil}
use Rattle.hazard_types.specs.Calendar.{IsCivil, is_civil, minute_of, month_lengths, days_before_year, days_before_month}
use Rattle.desk_clock.specs.declared.local_times.LocalTime.{LocalTime}
use Rattle.desk_clock.specs.LocalTimes.{in_2000, is_last_of_1999, local_minutes, has_date}
use Rattle.desk_clock.proofs.Calendars.{day_number, same_month_length, late_1999, last_epoch}
use Rattle.hazard_types.proofs.Years.{days_fit}

pub civil_tested : (c : Civil) → IsCivil c → is_civil c ≡ true
unfolding is_civil
civil_tested c h = grind (arith, nat_tests)

pub civil_from_test : (c : Civil) → is_civil c ≡ true → IsCivil c
unfolding is_civil
civil_from_test c h = record { year = grind (arith, nat_tests); first_month = grind (arith, nat_tests); last_month = grind (arith, nat_tests); first_day = grind (arith, nat_tests); last_day = grind (arith, nat_tests); hour = grind (arith, nat_tests); minute = grind (arith, nat_tests) }

split : (b : Bool) → (b ≡ true) ⊎ (b ≡ false)
split true = inl refl
split false = inr refl

pub none_of : (o : Option ℕ) → ((s : ℕ) → o ≡ Some s → ⊥) → o ≡ None
none_of None h = refl
none_of (Some s) h = absurd (h s refl)

-- a date of jiff with these parts
pub record Parts (t : LocalTime) (d : Date) : Type 0 where
  pub year : d.year ≡ pos t.year
  pub month : d.month ≡ t.month
  pub day : d.day ≡ t.day

minute_day : (c : Civil) → IsCivil c → (minute_of c / 1440 ≡ days_before_year c.year + days_before_month c.year c.month + (c.day - 1)) × (minute_of c % 1440 ≡ 60 * c.hour + c.minute)
unfolding minute_of
minute_day c is = let hour = is.hour in let minute = is.minute in (omega arith, omega arith)

pub last_tested : (t : LocalTime) → t.year ≡ 1999 → t.month ≡ 12 → t.day ≡ 31 → t.hour < 24 → t.minute < 60 → is_last_of_1999 t ≡ true
last_tested t y m d h n = grind (arith, nat_tests)

pub not_last : (t : LocalTime) → 2000 ≤ t.year → is_last_of_1999 t ≡ false
not_last t h = grind (arith, nat_tests)

same_length : {y z : ℤ} {m n : ℕ} → y ≡ z → m ≡ n → days_in_month y m ≡ days_in_month z n
same_length p q = λ i. days_in_month (p i) (q i)

civil_parts : (t : LocalTime) (d : Date) → Parts t d → 2000 ≤ t.year → t.year ≤ 2099 → t.hour < 24 → t.minute < 60 → IsCivil (in_2000 t)
civil_parts t d parts low high hour minute =
    let month_in : (1 ≤ t.month) × (t.month ≤ 12) = rw parts.month at d.month_in in
    let year : d.year ≡ pos (2000 + (t.year - 2000)) = parts.year ∙ ap pos (omega arith) in
    let day_in : (1 ≤ t.day) × (t.day ≤ days_in_month (pos (2000 + (t.year - 2000))) t.month) = (omega (arith, d.day_in.0, parts.day), omega (arith, d.day_in.1, parts.day, same_length year parts.month)) in
    record {
      year = omega arith;
      first_month = month_in.0;
      last_month = month_in.1;
      first_day = day_in.0;
      last_day = omega (arith, day_in.1, same_month_length (t.year - 2000) t.month (omega arith) month_in.0 month_in.1);
      hour = hour;
      minute = minute;
    }

epoch_is : (t : LocalTime) (d : Date) → Parts t d → 2000 ≤ t.year → IsCivil (in_2000 t) → epoch_day d ≡ pos (10957 + minute_of (in_2000 t) / 1440)
epoch_is t d parts low is =
    let same : pos t.year ≡ pos (2000 + (t.year - 2000)) = ap pos (omega arith) in
    rw (parts.year, parts.month, parts.day, same) (day_number (in_2000 t) is)

pub from_date : (t : LocalTime) (d : Date) (days : ℕ) → Parts t d → 1999 ≤ t.year → t.year ≤ 2099 → t.hour < 24 → t.minute < 60 → epoch_day d ≡ pos (10956 + days) → (local_minutes t ≡ Some (days * 1440 + t.hour * 60 + t.minute)) × (days < 36526)
unfolding local_minutes
from_date t d days parts low high hour minute e =
    elim (cases_lt t.year 2000) [
      | inl lt ↦
          let year : t.year ≡ 1999 = omega arith in
          let last = late_1999 d (parts.year ∙ ap pos year) (omega (arith, signed_arith)) in
          let none : days ≡ 0 = omega (arith, signed_arith, last.2) in
          (rw (last_tested t year (sym parts.month ∙ last.0) (sym parts.day ∙ last.1) hour minute) (ap (λ (n : ℕ). Some n) (omega arith)), omega arith)
      | inr le ↦
          let is : IsCivil (in_2000 t) = civil_parts t d parts le high hour minute in
          let day = minute_day (in_2000 t) is in
          let same = epoch_is t d parts le is in
          let number : 10956 + days ≡ 10957 + minute_of (in_2000 t) / 1440 = omega (arith, signed_arith, same, e) in
          let test : nat_le 2000 t.year ≡ true = grind (arith, nat_tests) in
          (rw (not_last t le, test, civil_tested (in_2000 t) is) (ap (λ (n : ℕ). Some n) (omega arith)), omega (arith, days_fit (in_2000 t) is))
    ]

all6 : {a b c d e f : Bool} → a ≡ true → b ≡ true → c ≡ true → d ≡ true → e ≡ true → f ≡ true → (a && b && c && d && e && f) ≡ true
all6 p q r s t u = rw (p, q, r, s, t, u) refl

pub has_date_if : (t : LocalTime) → 1999 ≤ t.year → t.year ≤ 2099 → 1 ≤ t.month → t.month ≤ 12 → 1 ≤ t.day → t.day ≤ days_in_month (pos t.year) t.month → has_date t ≡ true
unfolding has_date
has_date_if t a b c d e f = all6 (le-leb _ _ a) (le-leb _ _ b) (le-leb _ _ c) (le-leb _ _ d) (le-leb _ _ e) (le-leb _ _ f)

-- where a clock shows this, there is the date, the time is one of a day, and the date lies from the last day of 1999 on
pub record Shows (t : LocalTime) : Type 0 where
  pub date : has_date t ≡ true
  pub hour : t.hour < 24
  pub minute : t.minute < 60
  pub late : (d : Date) → Parts t d → pos 10956 ≤ℤ epoch_day d

shows_last : (t : LocalTime) → is_last_of_1999 t ≡ true → Shows t
shows_last t last =
    let year : t.year ≡ 1999 = grind (arith, nat_tests) in
    let month : t.month ≡ 12 = grind (arith, nat_tests) in
    let day : t.day ≡ 31 = grind (arith, nat_tests) in
    let december : days_in_month (pos t.year) t.month ≡ 31 = rw (year, month) refl in
    record {
      date = has_date_if t (omega arith) (omega arith) (omega arith) (omega arith) (omega arith) (omega arith);
      hour = grind (arith, nat_tests);
      minute = grind (arith, nat_tests);
      late = λ d parts. let e = last_epoch d (parts.year ∙ ap pos year) (parts.month ∙ month) (parts.day ∙ day) in omega (arith, signed_arith, e);
    }

shows_civil : (t : LocalTime) → 2000 ≤ t.year → IsCivil (in_2000 t) → Shows t
shows_civil t low is =
    let same : pos t.year ≡ pos (2000 + (t.year - 2000)) = ap pos (omega arith) in
    let length : days_in_month (pos t.year) t.month ≡ get_or (month_lengths (t.year - 2000)) (t.month - 1) 0 = same_length {m = t.month} {n = t.month} same refl ∙ same_month_length (t.year - 2000) t.month is.year is.first_month is.last_month in
    record {
      date = has_date_if t (omega arith) (let y = is.year in omega arith) is.first_month is.last_month is.first_day (let most = is.last_day in omega (arith, length, most));
      hour = is.hour;
      minute = is.minute;
      late = λ d parts. let e = epoch_is t d parts low is in omega (arith, signed_arith, e);
    }

pub shown_is : (t : LocalTime) (s : ℕ) → local_minutes t ≡ Some s → Shows t
unfolding local_minutes
shown_is t s h =
    elim (split (is_last_of_1999 t)) [
      | inl last ↦ shows_last t last
      | inr other ↦
          let rest = cond_some _ _ _ (rw other at h) in
          let tests = and_parts (nat_le 2000 t.year) (is_civil (in_2000 t)) rest.0 in
          shows_civil t (leb-true _ _ tests.0) (civil_from_test _ tests.1)
    ]
