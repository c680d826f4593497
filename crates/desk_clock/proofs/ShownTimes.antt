-- The local time of a minute, by jiff's date of its day.
use Rattle.std.proofs.Common.{◌≡◌, ℕ, ◌+◌, ◌-◌, ◌/◌, ◌%◌, ◌<◌, ◌≤◌, ◌⊎◌, inl, inr, pos, nat_abs, refl, sym, ap, ◌∙◌, arith, T, Fits, w16}
use Rattle.std.proofs.lemmas.Bool.{cases_lt, lt-ltb, le-ltb}
use Rattle.std.specs.Int.Signed.{non_neg}
use Rattle.jiff_core.specs.Date.{epoch_day}
use Rattle.jiff_core.specs.declared.civil.date.Date.{Date}
use Rattle.hazard_types.specs.declared.calendar.Civil.{Civil}
use Rattle.hazard_types.specs.Calendar.{IsCivil, minute_of, civil_of}
use Rattle.hazard_types.proofs.Years.{civil_ok, minute_ok, day_at_most}
use Rattle.desk_clock.specs.declared.local_times.LocalTime.{LocalTime}
use Rattle.desk_clock.specs.LocalTimes.{local_time, IsShown}
use Rattle.desk_clock.proofs.Calendars.{date_is, last_is}
use Rattle.desk_clock.proofs.StampTimes.{hour_of, minute_of as minute_part}

-- the date of a day, with a time of day
abbrev pub dated : Date → ℕ → LocalTime
dated d shown = record { year = nat_abs d.year; month = d.month; day = d.day; hour = shown % 1440 / 60; minute = shown % 60 }

same_time : {y m d h n : ℕ} {t : LocalTime} → y ≡ t.year → m ≡ t.month → d ≡ t.day → h ≡ t.hour → n ≡ t.minute → record { year = y; month = m; day = d; hour = h; minute = n } ≡ t
same_time p q r s t = λ i. record { year = p i; month = q i; day = r i; hour = s i; minute = t i }

pub shown_date : (d : Date) (shown : ℕ) → shown < 52597440 → epoch_day d ≡ pos (10956 + shown / 1440) → (dated d shown ≡ local_time shown) × ((pos 1999 ≡ d.year) ⊎ ((c : Civil) × IsCivil c × (d.year ≡ pos (2000 + c.year))))
unfolding local_time
shown_date d shown below e =
    elim (cases_lt shown 1440) [
      | inl lt ↦
          let at : pos (10956 + shown / 1440) ≡ pos 10956 = ap pos (omega arith) in
          let same = last_is d (e ∙ at) in
          rw (lt-ltb shown 1440 lt) (same_time (ap nat_abs same.0) same.1 same.2 (omega arith) refl, inl (sym same.0))
      | inr le ↦
          let c : Civil = civil_of (shown - 1440) in
          let is : IsCivil c = civil_ok (shown - 1440) (omega arith) in
          let m : minute_of c ≡ shown - 1440 = minute_ok (shown - 1440) in
          let at : pos (10956 + shown / 1440) ≡ pos (10957 + minute_of c / 1440) = ap pos (omega arith) in
          let same = date_is c is d (e ∙ at) in
          let hour : shown % 1440 / 60 ≡ c.hour = omega (arith, hour_of (shown - 1440)) in
          let minute : shown % 60 ≡ c.minute = omega (arith, minute_part (shown - 1440)) in
          rw (le-ltb shown 1440 le) (same_time (ap nat_abs same.0) same.1 same.2 hour minute, inr (c, is, same.0))
    ]

pub year_fits : (d : Date) → ((pos 1999 ≡ d.year) ⊎ ((c : Civil) × IsCivil c × (d.year ≡ pos (2000 + c.year)))) → T (non_neg d.year) × Fits w16 (nat_abs d.year)
year_fits d (inl e) = rw (sym e) (tt, omega arith)
year_fits d (inr (c, is, e)) = let small = is.year in rw e (tt, omega arith)

-- what a clock shows is a date and a time of day
pub shown_parts : (shown : ℕ) → shown < 52597440 → IsShown (local_time shown)
unfolding local_time
shown_parts shown below =
    elim (cases_lt shown 1440) [
      | inl lt ↦ rw (lt-ltb shown 1440 lt) (record { year = (omega arith, omega arith); month = (omega arith, omega arith); day = (omega arith, omega arith); time = (omega arith, omega arith) })
      | inr le ↦
          let c : Civil = civil_of (shown - 1440) in
          let is : IsCivil c = civil_ok (shown - 1440) (omega arith) in
          let most : c.day ≤ 31 = day_at_most c is in
          let year = is.year in
          rw (le-ltb shown 1440 le) (record { year = (omega arith, omega arith); month = (is.first_month, is.last_month); day = (is.first_day, most); time = (is.hour, is.minute) })
    ]
