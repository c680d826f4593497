-- Local lines as they are read.
use Rattle.std.specs.Prelude.{◌≡◌, ℕ, ◌<◌, ◌≤◌, ◌⊎◌, ◌==◌, false, pos, List, Option, Some, None, Result, Ok, Err, if◌then◌else◌}
use Rattle.jiff_core.specs.Calendar.{IsCivilDate}
use Rattle.desk_clock.specs.declared.abbreviations.Abbreviation.{Abbreviation}
use Rattle.desk_clock.specs.declared.local_times.LocalTime.{LocalTime}
use Rattle.desk_clock.specs.declared.reading.Written.{Written}
use Rattle.desk_clock.specs.declared.reading.LocalFault.{LocalFault}
use Rattle.desk_clock.specs.declared.reading.LocalFault.TheVariants.{NoLocalTime, UnknownAbbreviation}
use Rattle.desk_clock.specs.LocalTimes.{local_time, shown_at, minute_shown, has_date}
use Rattle.desk_clock.specs.Words.{IsWord, IsAside, first_word, after_word, after_aside, begins_with}
use Rattle.desk_clock.specs.LocalWords.{parse_words}

-- The form: seven words parted by blanks, and between the third and the fourth at most one part between slashes.
pub record IsForm (b : List ℕ) (w : Written) : Type 0 where
  pub clock : List ℕ
  pub half : List ℕ
  pub letters : List ℕ
  pub weekday : List ℕ
  pub month : List ℕ
  pub day : List ℕ
  pub year : List ℕ
  pub from_half : List ℕ
  pub from_letters : List ℕ
  pub from_aside : List ℕ
  pub from_weekday : List ℕ
  pub from_month : List ℕ
  pub from_day : List ℕ
  pub first : IsWord clock b from_half
  pub second : IsWord half from_half from_letters
  pub third : IsWord letters from_letters from_aside
  pub aside : ((begins_with (λ c. c == 47) from_aside ≡ false) × (from_aside ≡ from_weekday)) ⊎ IsAside from_aside from_weekday
  pub fourth : IsWord weekday from_weekday from_month
  pub fifth : IsWord month from_month from_day
  pub sixth : IsWord day from_day year
  pub says : parse_words clock half letters weekday month day year ≡ Some w

-- the line is of that form, and by its abbreviation the clock shows its date and time in minute m
pub record ReadsAs (b : List ℕ) (m : ℕ) : Type 0 where
  pub written : Written
  pub form : IsForm b written
  pub abbreviation : Abbreviation
  pub named : written.abbreviation ≡ Some abbreviation
  pub in_range : m < 52596000
  pub shown : local_time (shown_at abbreviation m) ≡ written.time

-- the calendar has the date, in a year from 1999 to 2099
abbrev pub HasDate : LocalTime → Type 0
HasDate t = (1999 ≤ t.year) × (t.year ≤ 2099) × IsCivilDate (pos t.year) t.month t.day

-- all but the abbreviation is right
pub record LacksAbbreviation (b : List ℕ) : Type 0 where
  pub written : Written
  pub form : IsForm b written
  pub unnamed : written.abbreviation ≡ None
  pub date : HasDate written.time

-- ---- the same, as a function

-- what a line says, by its words
unfoldable pub written_in : List ℕ → Option Written
written_in b =
    let half = after_word b in
    let letters = after_word half in
    let weekday = after_aside (after_word letters) in
    let month = after_word weekday in
    let day = after_word month in
    parse_words (first_word b) (first_word half) (first_word letters) (first_word weekday) (first_word month) (first_word day) (after_word day)

abbrev pub or_no_time : Option ℕ → Result ℕ LocalFault
or_no_time None = Err NoLocalTime
or_no_time (Some m) = Ok m

abbrev pub minute_by : Option Abbreviation → LocalTime → Result ℕ LocalFault
minute_by (Some a) t = or_no_time (minute_shown a t)
minute_by None t = if has_date t then Err UnknownAbbreviation else Err NoLocalTime

-- the minute in which the abbreviation's clock shows the date and time
unfoldable pub minute_of : Written → Result ℕ LocalFault
minute_of w = minute_by w.abbreviation w.time

abbrev pub of_written : Option Written → Result ℕ LocalFault
of_written None = Err NoLocalTime
of_written (Some w) = minute_of w

-- the minute that a local line reads as, or why there is none
unfoldable pub read_of : List ℕ → Result ℕ LocalFault
read_of b = of_written (written_in b)
