-- The text of a local line.
use Rattle.std.specs.Prelude.{ℕ, ◌+◌, ◌/◌, ◌%◌, ◌==◌, nat_lt, List, [], ◌∷◌, ◌++◌, codes, if◌then◌else◌}
use Rattle.hazard_types.specs.Calendar.{two}
use Rattle.hazard_types.specs.Digits.{four_digits}
use Rattle.hazard_types.specs.declared.codes.LocalZone.{LocalZone}
use Rattle.desk_clock.specs.declared.abbreviations.Abbreviation.{Abbreviation}
use Rattle.desk_clock.specs.Abbreviations.{letters_of}
use Rattle.desk_clock.specs.LocalTimes.{local_time, shown_at}
use Rattle.desk_clock.specs.Names.{month_name, weekday_name}
use Rattle.desk_clock.specs.Zones.{abbreviation_at}

-- a number below 100 without leading zero
abbrev pub one_or_two : ℕ → List ℕ
one_or_two n = if nat_lt n 10 then (48 + n) ∷ [] else (48 + n / 10) ∷ (48 + n % 10) ∷ []

-- the hour on a clock of twelve hours: midnight and noon are 12
abbrev pub clock_hour : ℕ → ℕ
clock_hour hour = if hour % 12 == 0 then 12 else hour % 12

abbrev pub half_day : ℕ → List ℕ
half_day hour = if nat_lt hour 12 then codes "AM" else codes "PM"

-- hour and minute, half of the day, abbreviation, weekday, month and day, of what the clock shows
unfoldable pub local_line_without_year : Abbreviation → ℕ → List ℕ
local_line_without_year a shown =
    let t = local_time shown in
    one_or_two (clock_hour t.hour) ++ two t.minute (codes " ") ++ half_day t.hour ++ codes " " ++ letters_of a ++ codes " "
    ++ weekday_name (shown / 1440) ++ codes " " ++ month_name t.month ++ codes " " ++ one_or_two t.day

-- the same with the year
unfoldable pub line_of : Abbreviation → ℕ → List ℕ
line_of a shown = local_line_without_year a shown ++ (32 ∷ four_digits (local_time shown).year)

-- by the abbreviation's clock in that minute
unfoldable pub local_short_of : LocalZone → ℕ → List ℕ
local_short_of z m = let a = abbreviation_at z m in local_line_without_year a (shown_at a m)

unfoldable pub local_line_of : LocalZone → ℕ → List ℕ
local_line_of z m = let a = abbreviation_at z m in line_of a (shown_at a m)
