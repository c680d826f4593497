-- What the words of a local line say.
use Rattle.std.specs.Prelude.{ℕ, ◌+◌, ◌-◌, ◌*◌, ◌%◌, ◌==◌, ◌&&◌, nat_le, nat_lt, Bool, length, List, take, drop, slice_index, Option, Some, None, option_map, codes, is_some, if◌then◌else◌}
use Rattle.std.specs.List.{list_all}
use Rattle.std.specs.Option.{option_and_then}
use Rattle.std.specs.Char.{is_ascii_alphabetic, is_ascii_digit}
use Rattle.desk_clock.specs.declared.reading.Written.{Written}
use Rattle.desk_clock.specs.Names.{same_letters, find_name, month_names, weekday_names, parse_abbreviation}

abbrev pub digit : ℕ → Option ℕ
digit c = if is_ascii_digit c then Some (c - 48) else None

abbrev pub tens_and_ones : Option ℕ → Option ℕ → Option ℕ
tens_and_ones tens ones = option_and_then (λ t. option_map (λ o. 10 * t + o) ones) tens

-- the number that one or two digits spell
unfoldable pub parse_number : List ℕ → Option ℕ
parse_number word =
    if length word == 1 then digit (slice_index word 0)
    else if length word == 2 then tens_and_ones (digit (slice_index word 0)) (digit (slice_index word 1))
    else None

-- AM is the first half of the day, PM the second, which begins at hour 12
unfoldable pub parse_half_day : List ℕ → Option ℕ
parse_half_day word = if same_letters word (codes "AM") then Some 0 else if same_letters word (codes "PM") then Some 12 else None

abbrev pub time_of : ℕ → ℕ → ℕ → Option (ℕ × ℕ)
time_of hour minute half = if nat_le 1 hour && nat_le hour 12 && nat_lt minute 60 then Some (hour % 12 + half, minute) else None

-- the hour, one or two digits, then two digits of the minute; and the half of the day
unfoldable pub parse_time_of_day : List ℕ → List ℕ → Option (ℕ × ℕ)
parse_time_of_day clock half =
    option_and_then (λ hour. option_and_then (λ minute. option_and_then (λ h. time_of hour minute h) (parse_half_day half)) (parse_number (drop (length clock - 2) clock))) (parse_number (take (length clock - 2) clock))

-- a year of four digits
unfoldable pub parse_year : List ℕ → Option ℕ
parse_year word =
    if length word == 4 then option_and_then (λ century. option_map (λ year. 100 * century + year) (parse_number (drop 2 word))) (parse_number (take 2 word)) else None

abbrev pub are_letters : List ℕ → Bool
are_letters word = nat_le 1 (length word) && list_all is_ascii_alphabetic word

abbrev pub dated : List ℕ → ℕ → ℕ → ℕ → ℕ × ℕ → Written
dated letters month day year time =
    record { abbreviation = parse_abbreviation letters; time = record { year = year; month = month + 1; day = day; hour = time.0; minute = time.1 } }

unfoldable pub parse_date : List ℕ → List ℕ → List ℕ → List ℕ → ℕ × ℕ → Option Written
parse_date letters month day year time =
    option_and_then (λ m. option_and_then (λ d. option_map (λ y. dated letters m d y time) (parse_year year)) (parse_number day)) (find_name month_names month)

-- what seven words say: hour and minute, half of the day, abbreviation, weekday, month, day, year
unfoldable pub parse_words : List ℕ → List ℕ → List ℕ → List ℕ → List ℕ → List ℕ → List ℕ → Option Written
parse_words clock half letters weekday month day year =
    if are_letters letters && is_some (find_name weekday_names weekday)
    then option_and_then (λ time. parse_date letters month day year time) (parse_time_of_day clock half)
    else None
