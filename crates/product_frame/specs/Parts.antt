-- What single lines say.
use Rattle.std.specs.Prelude.{ℕ, ◌+◌, ◌==◌, ◌&&◌, ◌||◌, Bool, false, nat_le, List, [], ◌∷◌, length, slice_index, slice_range, drop, Option, Some, None, Result, Ok, Err, if◌then◌else◌, option_map}
use Rattle.std.specs.List.{list_all}
use Rattle.desk_clock.specs.LocalForm.{read_of}
use Rattle.desk_clock.specs.declared.reading.LocalFault.{LocalFault}
use Rattle.hazard_types.specs.Calendar.{is_digit}
use Rattle.hazard_types.specs.Characters.{is_name_byte, is_blank}
use Rattle.hazard_types.specs.Places.{is_capital}
use Rattle.hazard_types.specs.declared.calendar.DayStamp.{DayStamp}
use Rattle.hazard_types.specs.Digits.{parse_day_stamp}
use Rattle.product_frame.specs.declared.frame.Heading.{Heading}

-- four capital letters and two digits
abbrev pub is_ttaaii : List ℕ → Bool
is_ttaaii b = is_capital (slice_index b 0) && is_capital (slice_index b 1) && is_capital (slice_index b 2) && is_capital (slice_index b 3) && is_digit (slice_index b 4) && is_digit (slice_index b 5)

abbrev pub has_office : List ℕ → Bool
has_office b = is_name_byte (slice_index b 7) && is_name_byte (slice_index b 8) && is_name_byte (slice_index b 9) && is_name_byte (slice_index b 10)

abbrev pub is_bbb : List ℕ → ℕ → Bool
is_bbb b i = is_capital (slice_index b i) && is_capital (slice_index b (i + 1)) && is_capital (slice_index b (i + 2))

abbrev pub three_from : List ℕ → List ℕ
three_from b = slice_index b 19 ∷ slice_index b 20 ∷ slice_index b 21 ∷ []

abbrev pub heading_with : List ℕ → Option (List ℕ) → DayStamp → Heading
heading_with b bbb d = record { ttaaii = slice_index b 0 ∷ slice_index b 1 ∷ slice_index b 2 ∷ slice_index b 3 ∷ slice_index b 4 ∷ slice_index b 5 ∷ []; office = slice_index b 7 ∷ slice_index b 8 ∷ slice_index b 9 ∷ slice_index b 10 ∷ []; day = d; bbb = bbb }

-- what stands before the day stamp
abbrev pub is_front : List ℕ → Bool
is_front line = is_ttaaii line && is_blank (slice_index line 6) && has_office line && is_blank (slice_index line 11)

-- as many bytes as stand before the day stamp, and of that form
abbrev pub may_be_heading : List ℕ → Bool
may_be_heading rest = nat_le 12 (length rest) && is_front rest

-- WWUS41 KLWX 031530
unfoldable pub heading_by : List ℕ → Option (List ℕ) → Option Heading
heading_by line bbb = if is_front line then option_map (heading_with line bbb) (parse_day_stamp (slice_range line 12 18)) else None

-- and optionally a blank and three letters
unfoldable pub heading_of : List ℕ → Option Heading
heading_of line =
    if length line == 18 then heading_by line None
    else (if length line == 22 then (if is_blank (slice_index line 18) && is_bbb line 19 then heading_by line (Some (three_from line)) else None) else None)

-- three capital letters and one to three of A to Z and 0 to 9
abbrev pub is_identifier : List ℕ → Bool
is_identifier line = nat_le 4 (length line) && nat_le (length line) 6 && is_bbb line 0 && list_all is_name_byte (drop 3 line)

-- a line that begins a segment: MDZ003- or MDZ003>
abbrev pub begins : List ℕ → Bool
begins line = nat_le 7 (length line) && is_capital (slice_index line 0) && is_capital (slice_index line 1) && ((slice_index line 2 == 67) || (slice_index line 2 == 90))
    && is_digit (slice_index line 3) && is_digit (slice_index line 4) && is_digit (slice_index line 5) && ((slice_index line 6 == 45) || (slice_index line 6 == 62))

abbrev pub has_slash : List ℕ → Bool
has_slash line = nat_le 1 (length line) && (slice_index line 0 == 47)

abbrev pub is_end : List ℕ → Bool
is_end line = (length line == 2) && (slice_index line 0 == 36) && (slice_index line 1 == 36)

-- the first byte is this one
abbrev pub begins_by : ℕ → List ℕ → Bool
begins_by c [] = false
begins_by c (d ∷ bytes) = d == c

-- the first byte is a digit
abbrev pub begins_by_digit : List ℕ → Bool
begins_by_digit [] = false
begins_by_digit (c ∷ bytes) = is_digit c

-- the minute that was read, if one was
abbrev pub minute_read : Result ℕ LocalFault → Option ℕ
minute_read (Ok m) = Some m
minute_read (Err f) = None

-- the minute that a line reads as, if it is a local line
unfoldable pub parse_local_line : List ℕ → Option ℕ
parse_local_line line = minute_read (read_of line)
