-- Whether a day stamp is near a minute, as a test.
use Rattle.std.specs.Prelude.{ℕ, zero, suc, ◌+◌, ◌-◌, ◌==◌, ◌&&◌, ◌||◌, min, Bool, false}
use Rattle.hazard_types.specs.Days.{day_stamp_of}
use Rattle.hazard_types.specs.declared.calendar.DayStamp.{DayStamp}

abbrev pub are_same : DayStamp → DayStamp → Bool
are_same d e = (d.day == e.day) && ((d.hour == e.hour) && (d.minute == e.minute))

-- one of as many minutes from this one on has the day stamp
unfoldable pub is_among : ℕ → ℕ → DayStamp → Bool
is_among m zero d = false
is_among m (suc k) d = are_same (day_stamp_of m) d || is_among (m + 1) k d

-- one of the minutes within 720 of the issue has it
unfoldable pub is_near : ℕ → DayStamp → Bool
is_near issue d = is_among (issue - 720) (min (issue + 721) 52596000 - (issue - 720)) d
