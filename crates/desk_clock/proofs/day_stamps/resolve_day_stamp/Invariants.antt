use Rattle.std.proofs.Common.{◌≢◌, ℕ, ◌<◌, ◌≤◌, ◌/◌}
use Rattle.hazard_types.specs.Days.{day_stamp_of}
use Rattle.desk_clock.proofs.day_stamps.resolve_day_stamp.Given as goal

-- no minute of an earlier day has the stamp
abbrev pub invariant-loop-day : goal.invariant-loop-day
invariant-loop-day l = (m : ℕ) → l.issue ≤ m → m / 1440 < l.day → day_stamp_of m ≢ l.d
