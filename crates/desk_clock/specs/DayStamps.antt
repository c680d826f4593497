-- The minutes that have a day stamp.
use Rattle.std.specs.Prelude.{◌≡◌, ◌≢◌, ◌+◌, ◌<◌, ◌≤◌, ℕ}
use Rattle.hazard_types.specs.declared.calendar.DayStamp.{DayStamp}
use Rattle.hazard_types.specs.Days.{day_stamp_of}

-- m is the first minute at or after the issue with this day, hour and minute
pub record IsFirst (issue : ℕ) (d : DayStamp) (m : ℕ) : Type 0 where
  pub stamp : day_stamp_of m ≡ d
  pub in_range : m < 52596000
  pub later : issue ≤ m
  pub first : (k : ℕ) → issue ≤ k → k < m → day_stamp_of k ≢ d

-- some minute within 720 of the issue, either side, has the day stamp
abbrev pub IsNear : ℕ → DayStamp → Type 0
IsNear issue d = (m : ℕ) × (m < 52596000) × (issue ≤ m + 720) × (m ≤ issue + 720) × (day_stamp_of m ≡ d)
