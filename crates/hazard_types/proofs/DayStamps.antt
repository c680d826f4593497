-- The day stamps of minutes have the form of day stamps.
use Rattle.std.proofs.Common.{◌≡◌, ◌<◌, ◌≤◌, ℕ, true, nat_le, refl, arith}
use Rattle.std.proofs.lemmas.Bool.Decides.{nat_tests}
use Rattle.hazard_types.specs.Calendar.{IsCivil, civil_of}
use Rattle.hazard_types.specs.Days.{day_stamp_of}
use Rattle.hazard_types.specs.Digits.{is_day_stamp}
use Rattle.hazard_types.proofs.Years.{day_at_most, civil_ok}

test_le : (a b : ℕ) → a ≤ b → nat_le a b ≡ true
test_le a b h = grind (arith, nat_tests)

day_by : (m : ℕ) → IsCivil (civil_of m) → is_day_stamp (day_stamp_of m) ≡ true
day_by m c =
    rw (test_le 1 (civil_of m).day c.first_day, test_le (civil_of m).day 31 (day_at_most (civil_of m) c), test_le (civil_of m).hour 23 (omega (arith, c.hour)), test_le (civil_of m).minute 59 (omega (arith, c.minute))) refl

-- the day stamp of a minute is one
pub day_is : (m : ℕ) → m < 52596000 → is_day_stamp (day_stamp_of m) ≡ true
day_is m lt = day_by m (civil_ok m lt)
