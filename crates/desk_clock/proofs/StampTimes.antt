-- The time of day that a day stamp gives, and the one minute of a day that has it.
use Rattle.std.proofs.Common.{◌≡◌, ℕ, ◌+◌, ◌*◌, ◌/◌, ◌%◌, ◌<◌, ◌≤◌, refl, ap, sym, ◌∙◌, arith}
use Rattle.hazard_types.specs.declared.calendar.DayStamp.{DayStamp}
use Rattle.hazard_types.specs.Calendar.{civil_of}
use Rattle.hazard_types.specs.Days.{day_stamp_of}
use Rattle.hazard_types.proofs.Years.{civil_ok, day_at_most}

pub hour_of : (m : ℕ) → (civil_of m).hour ≡ m % 1440 / 60
unfolding civil_of
hour_of m = refl

pub minute_of : (m : ℕ) → (civil_of m).minute ≡ m % 60
unfolding civil_of
minute_of m = refl

pub time_of : (m : ℕ) (d : DayStamp) → day_stamp_of m ≡ d → m % 1440 ≡ d.hour * 60 + d.minute
time_of m d e =
    let hour : d.hour ≡ m % 1440 / 60 = sym (ap (λ (s : DayStamp). s.hour) e) ∙ hour_of m in
    let minute : d.minute ≡ m % 60 = sym (ap (λ (s : DayStamp). s.minute) e) ∙ minute_of m in
    omega arith

pub in_range : (m : ℕ) (d : DayStamp) → m < 52596000 → day_stamp_of m ≡ d → (d.day ≤ 31) × (d.hour ≤ 23) × (d.minute ≤ 59)
in_range m d below e =
    let day : d.day ≡ (civil_of m).day = sym (ap (λ (s : DayStamp). s.day) e) in
    let hour : d.hour ≡ m % 1440 / 60 = sym (ap (λ (s : DayStamp). s.hour) e) ∙ hour_of m in
    let minute : d.minute ≡ m % 60 = sym (ap (λ (s : DayStamp). s.minute) e) ∙ minute_of m in
    let most : (civil_of m).day ≤ 31 = day_at_most (civil_of m) (civil_ok m below) in
    (omega arith, omega arith, omega arith)

-- the minute of a day that has the stamp
pub on_day : (m day : ℕ) (d : DayStamp) → day_stamp_of m ≡ d → m / 1440 ≡ day → m ≡ day * 1440 + (d.hour * 60 + d.minute)
on_day m day d e at = let time = time_of m d e in omega arith

-- the minute of that time on a day of that number has the stamp
pub has_stamp : (m : ℕ) (d : DayStamp) → (civil_of m).day ≡ d.day → m % 1440 ≡ d.hour * 60 + d.minute → d.minute ≤ 59 → day_stamp_of m ≡ d
has_stamp m d day time small =
    let hour : (civil_of m).hour ≡ d.hour = hour_of m ∙ omega arith in
    let minute : (civil_of m).minute ≡ d.minute = minute_of m ∙ omega arith in
    λ i. record { day = day i; hour = hour i; minute = minute i }

pub time_on_day : (day time : ℕ) → time < 1440 → ((day * 1440 + time) % 1440 ≡ time) × ((day * 1440 + time) / 1440 ≡ day)
time_on_day day time h = (omega arith, omega arith)
