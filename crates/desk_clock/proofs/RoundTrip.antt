-- A written line has the form, and its words say the minute.
use Rattle.std.proofs.Common.{◌≡◌, ℕ, ◌+◌, ◌-◌, ◌*◌, ◌/◌, ◌%◌, ◌<◌, ◌≤◌, ◌&&◌, nat_le, nat_lt, inl, inr, true, false, cond, List, [], ◌∷◌, ◌++◌, Some, Ok, refl, ap, arith, codes, append_assoc}
use Rattle.std.specs.List.{list_any}
use Rattle.std.proofs.lemmas.Bool.{cases_lt, lt-ltb, le-ltb, le-leb}
use Rattle.std.proofs.lemmas.Bool.Decides.{nat_tests}
use Rattle.hazard_types.specs.declared.calendar.Civil.{Civil}
use Rattle.hazard_types.specs.declared.codes.LocalZone.{LocalZone}
use Rattle.hazard_types.specs.Calendar.{IsCivil, minute_of as minute_of_civil, civil_of}
use Rattle.hazard_types.proofs.Years.{civil_ok, minute_ok}
use Rattle.desk_clock.specs.declared.abbreviations.Abbreviation.{Abbreviation}
use Rattle.desk_clock.specs.declared.abbreviations.Abbreviation.TheVariants.{Ast, Est, Edt, Cst, Cdt, Mst, Mdt, Pst, Pdt, Akst, Akdt, Hst, Utc, Gmt}
use Rattle.desk_clock.specs.declared.local_times.LocalTime.{LocalTime}
use Rattle.desk_clock.specs.declared.reading.Written.{Written}
use Rattle.desk_clock.specs.Abbreviations.{letters_of, hours_behind}
use Rattle.desk_clock.specs.LocalForm.{IsForm, minute_of, read_of}
use Rattle.desk_clock.specs.LocalText.{one_or_two, clock_hour, half_day, local_line_without_year, line_of, local_line_of}
use Rattle.hazard_types.specs.Calendar.{two}
use Rattle.hazard_types.specs.Digits.{four_digits}
use Rattle.desk_clock.specs.LocalTimes.{local_time, shown_at, local_minutes, minute_shown, minute_behind, in_2000, from_2000, on_last_day_of_1999, IsShown}
use Rattle.desk_clock.specs.LocalWords.{parse_words, parse_date}
use Rattle.desk_clock.specs.Names.{month_name, weekday_name}
use Rattle.desk_clock.specs.Words.{begins_with, IsWord}
use Rattle.hazard_types.specs.Characters.{is_blank}
use Rattle.desk_clock.specs.Zones.{abbreviation_at}
use Rattle.desk_clock.proofs.Forms.{form_says}
use Rattle.desk_clock.proofs.ShownDates.{civil_tested, last_tested, not_last}
use Rattle.desk_clock.proofs.ShownTimes.{shown_parts}
use Rattle.desk_clock.proofs.WrittenWords.{clock_said, day_number_said, year_back, letters_back, letters_are, letters_unbroken, letters_begin, month_is, weekday_is}

abbrev blank : List ℕ
blank = 32 ∷ []

word : (w rest : List ℕ) → list_any is_blank w ≡ false → begins_with is_blank rest ≡ false → IsWord w (w ++ (blank ++ rest)) rest
word w rest unbroken onward = record { gap = blank; text = refl; unbroken = unbroken; parted = λ e. cc; blanks = refl; onward = onward }

regroup : (hour half letters weekday month day year : List ℕ) (p q : ℕ) →
    ((((((((((hour ++ (p ∷ q ∷ 32 ∷ [])) ++ half) ++ blank) ++ letters) ++ blank) ++ weekday) ++ blank) ++ month) ++ blank) ++ day) ++ (32 ∷ year)
    ≡ (hour ++ (p ∷ q ∷ [])) ++ (blank ++ (half ++ (blank ++ (letters ++ (blank ++ (weekday ++ (blank ++ (month ++ (blank ++ (day ++ (blank ++ year)))))))))))
regroup hour half letters weekday month day year p q = simp append_assoc

digit_no_blank : (k : ℕ) → is_blank (48 + k) ≡ false
digit_no_blank k = grind (arith, nat_tests)

number_unbroken : (n : ℕ) → list_any is_blank (one_or_two n) ≡ false
number_unbroken n =
    elim (cases_lt n 10) [
      | inl lt ↦ rw (lt-ltb n 10 lt, digit_no_blank n) refl
      | inr le ↦ rw (le-ltb n 10 le, digit_no_blank (n / 10), digit_no_blank (n % 10)) refl
    ]

number_begins : (n : ℕ) (rest : List ℕ) → begins_with is_blank (one_or_two n ++ rest) ≡ false
number_begins n rest =
    elim (cases_lt n 10) [
      | inl lt ↦ rw (lt-ltb n 10 lt) (digit_no_blank n)
      | inr le ↦ rw (le-ltb n 10 le) (digit_no_blank (n / 10))
    ]

clock_unbroken : (n minute : ℕ) → list_any is_blank (one_or_two n ++ two minute []) ≡ false
clock_unbroken n minute =
    elim (cases_lt n 10) [
      | inl lt ↦ rw (lt-ltb n 10 lt, digit_no_blank n, digit_no_blank (minute / 10), digit_no_blank (minute % 10)) refl
      | inr le ↦ rw (le-ltb n 10 le, digit_no_blank (n / 10), digit_no_blank (n % 10), digit_no_blank (minute / 10), digit_no_blank (minute % 10)) refl
    ]

half_unbroken : (hour : ℕ) → list_any is_blank (half_day hour) ≡ false
half_unbroken hour = elim (nat_lt hour 12) as (λ b. list_any is_blank (cond b (codes "AM") (codes "PM")) ≡ false) [ true ↦ refl | false ↦ refl ]

half_begins : (hour : ℕ) (rest : List ℕ) → begins_with is_blank (half_day hour ++ rest) ≡ false
half_begins hour rest = elim (nat_lt hour 12) as (λ b. begins_with is_blank (cond b (codes "AM") (codes "PM") ++ rest) ≡ false) [ true ↦ refl | false ↦ refl ]

abbrev said : Abbreviation → LocalTime → Written
said a t = record { abbreviation = Some a; time = t }

-- the words of the line say the abbreviation and the time
words_back : (a : Abbreviation) (day : ℕ) (t : LocalTime) → IsShown t →
    parse_words (one_or_two (clock_hour t.hour) ++ two t.minute []) (half_day t.hour) (letters_of a) (weekday_name day) (month_name t.month) (one_or_two t.day) (four_digits t.year) ≡ Some (said a t)
unfolding parse_words parse_date
words_back a day t is =
    let weekday = (weekday_is ((day + 4) % 7) (omega arith)).found in
    let months = is.month in
    let days = is.day in
    let years = is.year in
    let month = (month_is (t.month - 1) (omega arith)).found in
    let number : t.month - 1 + 1 ≡ t.month = omega arith in
    let clock = clock_said t.hour t.minute is.time.0 is.time.1 in
    rw (letters_are a, weekday, clock, month, day_number_said t.day (omega arith), year_back t.year (omega arith), letters_back a)
    (λ i. Some (record { abbreviation = Some a; time = record { year = t.year; month = number i; day = t.day; hour = t.hour; minute = t.minute } }))

form_of : (a : Abbreviation) (shown : ℕ) → IsShown (local_time shown) → IsForm (line_of a shown) (said a (local_time shown))
unfolding line_of local_line_without_year
form_of a shown is =
    let t = local_time shown in
    let clock : List ℕ = one_or_two (clock_hour t.hour) ++ two t.minute [] in
    let half : List ℕ = half_day t.hour in
    let weekday : List ℕ = weekday_name (shown / 1440) in
    let month : List ℕ = month_name t.month in
    let day : List ℕ = one_or_two t.day in
    let year : List ℕ = four_digits t.year in
    let from_day : List ℕ = day ++ (blank ++ year) in
    let from_month : List ℕ = month ++ (blank ++ from_day) in
    let from_weekday : List ℕ = weekday ++ (blank ++ from_month) in
    let from_letters : List ℕ = letters_of a ++ (blank ++ from_weekday) in
    let from_half : List ℕ = half ++ (blank ++ from_letters) in
    let months = is.month in
    let weekday_facts = weekday_is ((shown / 1440 + 4) % 7) (omega arith) in
    let month_facts = month_is (t.month - 1) (omega arith) in
    let first : IsWord clock (clock ++ (blank ++ from_half)) from_half = word clock from_half (clock_unbroken (clock_hour t.hour) t.minute) (half_begins t.hour (blank ++ from_letters)) in
    record {
      clock = clock;
      half = half;
      letters = letters_of a;
      weekday = weekday;
      month = month;
      day = day;
      year = year;
      from_half = from_half;
      from_letters = from_letters;
      from_aside = from_weekday;
      from_weekday = from_weekday;
      from_month = from_month;
      from_day = from_day;
      first = rw (regroup (one_or_two (clock_hour t.hour)) half (letters_of a) weekday month day year (48 + t.minute / 10) (48 + t.minute % 10)) first;
      second = word half from_letters (half_unbroken t.hour) (letters_begin a (blank ++ from_weekday));
      third = word (letters_of a) from_weekday (letters_unbroken a) (weekday_facts.begins (blank ++ from_month));
      aside = inl (weekday_facts.no_slash (blank ++ from_month), refl);
      fourth = word weekday from_month weekday_facts.unbroken (month_facts.begins (blank ++ from_day));
      fifth = word month from_day month_facts.unbroken (number_begins t.day (blank ++ year));
      sixth = word day year (number_unbroken t.day) (digit_no_blank (t.year / 1000));
      says = words_back a (shown / 1440) t is;
    }

-- what a clock shows is shown in that minute alone
pub shown_back : (shown : ℕ) → shown < 52597440 → local_minutes (local_time shown) ≡ Some shown
unfolding local_time local_minutes
shown_back shown below =
    elim (cases_lt shown 1440) [
      | inl lt ↦ rw (lt-ltb shown 1440 lt, last_tested (on_last_day_of_1999 shown) refl refl refl (omega arith) (omega arith)) (ap (λ (n : ℕ). Some n) (omega arith))
      | inr le ↦
          let c : Civil = civil_of (shown - 1440) in
          let is : IsCivil c = civil_ok (shown - 1440) (omega arith) in
          let year : 2000 + c.year - 2000 ≡ c.year = omega arith in
          let same : in_2000 (from_2000 c) ≡ c = λ i. record { year = year i; month = c.month; day = c.day; hour = c.hour; minute = c.minute } in
          let minute : minute_of_civil c ≡ shown - 1440 = minute_ok (shown - 1440) in
          rw (le-ltb shown 1440 le, not_last (from_2000 c) (omega arith), le-leb 2000 (2000 + c.year) (omega arith), same, civil_tested c is, minute) (ap (λ (n : ℕ). Some n) (omega arith))
    ]

pub most_behind : (a : Abbreviation) → hours_behind a ≤ 10
most_behind Ast = omega arith
most_behind Est = omega arith
most_behind Edt = omega arith
most_behind Cst = omega arith
most_behind Cdt = omega arith
most_behind Mst = omega arith
most_behind Mdt = omega arith
most_behind Pst = omega arith
most_behind Pdt = omega arith
most_behind Akst = omega arith
most_behind Akdt = omega arith
most_behind Hst = omega arith
most_behind Utc = omega arith
most_behind Gmt = omega arith

behind_back : (hours m : ℕ) → hours ≤ 10 → m < 52596000 → minute_behind hours (m + 1440 - 60 * hours) ≡ Some m
behind_back hours m h below =
    let test : (nat_le 1440 (m + 1440 - 60 * hours + 60 * hours) && nat_lt (m + 1440 - 60 * hours + 60 * hours) 52597440) ≡ true = grind (arith, nat_tests) in
    rw test (ap (λ (n : ℕ). Some n) (omega arith))

pub minute_back : (a : Abbreviation) (m : ℕ) → m < 52596000 → minute_shown a (local_time (shown_at a m)) ≡ Some m
unfolding minute_shown
minute_back a m below = let most = most_behind a in rw (shown_back (shown_at a m) (omega arith)) (behind_back (hours_behind a) m most below)

line_back : (a : Abbreviation) (m : ℕ) → m < 52596000 → read_of (line_of a (shown_at a m)) ≡ Ok m
unfolding read_of minute_of
line_back a m below =
    let is : IsShown (local_time (shown_at a m)) = shown_parts (shown_at a m) (omega arith) in
    rw (form_says (line_of a (shown_at a m)) (said a (local_time (shown_at a m))) (form_of a (shown_at a m) is), minute_back a m below) refl

pub reads_back : (z : LocalZone) (m : ℕ) → m < 52596000 → read_of (local_line_of z m) ≡ Ok m
unfolding local_line_of
reads_back z m below = line_back (abbreviation_at z m) m below
