-- What a local clock shows.
use Rattle.std.specs.Prelude.{ℕ, ◌+◌, ◌-◌, ◌*◌, ◌/◌, ◌%◌, ◌<◌, ◌≤◌, nat_lt, nat_le, ◌==◌, ◌&&◌, Bool, Option, Some, None, pos, if◌then◌else◌}
use Rattle.std.specs.Option.{option_and_then}
use Rattle.jiff_core.specs.Calendar.{days_in_month}
use Rattle.hazard_types.specs.declared.calendar.Civil.{Civil}
use Rattle.hazard_types.specs.Calendar.{civil_of, is_civil, minute_of}
use Rattle.desk_clock.specs.declared.abbreviations.Abbreviation.{Abbreviation}
use Rattle.desk_clock.specs.declared.local_times.LocalTime.{LocalTime}
use Rattle.desk_clock.specs.Abbreviations.{hours_behind}

-- the minutes since the beginning of 1999-12-31 on a clock of this abbreviation
abbrev pub shown_at : Abbreviation → ℕ → ℕ
shown_at a m = m + 1440 - 60 * hours_behind a

abbrev pub on_last_day_of_1999 : ℕ → LocalTime
on_last_day_of_1999 shown = record { year = 1999; month = 12; day = 31; hour = shown / 60; minute = shown % 60 }

abbrev pub from_2000 : Civil → LocalTime
from_2000 c = record { year = 2000 + c.year; month = c.month; day = c.day; hour = c.hour; minute = c.minute }

-- the date and time of day that many minutes after the beginning of 1999-12-31
unfoldable pub local_time : ℕ → LocalTime
local_time shown = if nat_lt shown 1440 then on_last_day_of_1999 shown else from_2000 (civil_of (shown - 1440))

-- the parts of a time that a clock shows
pub record IsShown (t : LocalTime) : Type 0 where
  pub year : (1999 ≤ t.year) × (t.year ≤ 2099)
  pub month : (1 ≤ t.month) × (t.month ≤ 12)
  pub day : (1 ≤ t.day) × (t.day ≤ 31)
  pub time : (t.hour < 24) × (t.minute < 60)

-- ---- the other way: which minute a date and time is

abbrev pub in_2000 : LocalTime → Civil
in_2000 t = record { year = t.year - 2000; month = t.month; day = t.day; hour = t.hour; minute = t.minute }

abbrev pub is_last_of_1999 : LocalTime → Bool
is_last_of_1999 t = (t.year == 1999) && (t.month == 12) && (t.day == 31) && nat_lt t.hour 24 && nat_lt t.minute 60

-- the minutes since the beginning of 1999-12-31 at which a clock shows this
unfoldable pub local_minutes : LocalTime → Option ℕ
local_minutes t =
    if is_last_of_1999 t then Some (60 * t.hour + t.minute)
    else if nat_le 2000 t.year && is_civil (in_2000 t) then Some (1440 + minute_of (in_2000 t))
    else None

abbrev pub minute_behind : ℕ → ℕ → Option ℕ
minute_behind hours shown = if nat_le 1440 (shown + 60 * hours) && nat_lt (shown + 60 * hours) 52597440 then Some (shown + 60 * hours - 1440) else None

-- the minute in which a clock of this abbreviation shows this
unfoldable pub minute_shown : Abbreviation → LocalTime → Option ℕ
minute_shown a t = option_and_then (minute_behind (hours_behind a)) (local_minutes t)

-- the calendar has the date, in a year from 1999 to 2099
unfoldable pub has_date : LocalTime → Bool
has_date t = nat_le 1999 t.year && nat_le t.year 2099 && nat_le 1 t.month && nat_le t.month 12 && nat_le 1 t.day && nat_le t.day (days_in_month (pos t.year) t.month)
