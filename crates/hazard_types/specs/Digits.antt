-- Numbers and day stamps in digits.
use Rattle.std.specs.Prelude.{ℕ, ◌+◌, ◌-◌, ◌*◌, ◌/◌, ◌%◌, ◌==◌, ◌&&◌, Bool, nat_le, nat_lt, List, [], ◌∷◌, ◌++◌, length, slice_index, Option, Some, None, if◌then◌else◌, decimal}
use Rattle.hazard_types.specs.Calendar.{is_digit}
use Rattle.hazard_types.specs.declared.calendar.DayStamp.{DayStamp}

-- the digits of a number below 100
abbrev pub two_digits : ℕ → List ℕ
two_digits n = (48 + n / 10) ∷ (48 + n % 10) ∷ []

-- the digits of a number below 1,000
abbrev pub three_digits : ℕ → List ℕ
three_digits n = (48 + n / 100) ∷ (48 + n / 10 % 10) ∷ (48 + n % 10) ∷ []

-- the digits of a number below 10,000
abbrev pub four_digits : ℕ → List ℕ
four_digits n = (48 + n / 1000) ∷ (48 + n / 100 % 10) ∷ (48 + n / 10 % 10) ∷ (48 + n % 10) ∷ []

-- four digits, or as many as the number has
unfoldable pub wide : ℕ → List ℕ
wide n = if nat_lt n 10000 then four_digits n else decimal n

-- a day of 1 to 31, an hour below 24 and a minute below 60
abbrev pub is_day_stamp : DayStamp → Bool
is_day_stamp d = nat_le 1 d.day && nat_le d.day 31 && nat_le d.hour 23 && nat_le d.minute 59

-- the six digits of a day stamp
abbrev pub day_text : DayStamp → List ℕ
day_text d = two_digits d.day ++ two_digits d.hour ++ two_digits d.minute

-- the number that two digits at an index are
abbrev pub two_at : List ℕ → ℕ → ℕ
two_at text i = 10 * (slice_index text i - 48) + (slice_index text (i + 1) - 48)

-- six bytes, each a digit
abbrev pub six_digits : List ℕ → Bool
six_digits text =
    (length text == 6) && is_digit (slice_index text 0) && is_digit (slice_index text 1)
    && is_digit (slice_index text 2) && is_digit (slice_index text 3)
    && is_digit (slice_index text 4) && is_digit (slice_index text 5)

-- the day, the hour and the minute that six digits are
abbrev pub day_stamp_at : List ℕ → DayStamp
day_stamp_at text = record { day = two_at text 0; hour = two_at text 2; minute = two_at text 4 }

-- the day stamp of a text, if it is one
unfoldable pub parse_day_stamp : List ℕ → Option DayStamp
parse_day_stamp text =
    if six_digits text && is_day_stamp (day_stamp_at text) then Some (day_stamp_at text) else None
