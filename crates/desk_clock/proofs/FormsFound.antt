-- What is read has the form, and the minute that it says.
use Rattle.std.proofs.Common.{◌≡◌, ◌≢◌, ℕ, ◌+◌, ◌-◌, ◌*◌, ◌/◌, ◌%◌, ◌<◌, ◌≤◌, ◌&&◌, nat_le, nat_lt, inl, inr, Bool, true, false, cond, List, [], Option, Some, None, Result, Ok, Err, refl, sym, ap, ◌∙◌, arith}
use Rattle.std.specs.Option.{option_and_then}
use Rattle.std.proofs.lemmas.Bool.{lt-ltb, le-ltb, and_parts, leb-true, ltb-true}
use Rattle.std.proofs.lemmas.Bool.Decides.{nat_tests}
use Rattle.std.proofs.lemmas.Option.{cond_some, option_and_then_some}
use Rattle.jiff_core.proofs.SignedLemmas.{signed_arith}
use Rattle.hazard_types.specs.Calendar.{IsCivil, is_civil, minute_of as minute_of_civil}
use Rattle.hazard_types.proofs.Years.{civil_found}
use Rattle.desk_clock.specs.declared.abbreviations.Abbreviation.{Abbreviation}
use Rattle.desk_clock.specs.declared.local_times.LocalTime.{LocalTime}
use Rattle.desk_clock.specs.declared.reading.Written.{Written}
use Rattle.desk_clock.specs.declared.reading.LocalFault.{LocalFault}
use Rattle.desk_clock.specs.declared.reading.LocalFault.TheVariants.{NoLocalTime, UnknownAbbreviation}
use Rattle.desk_clock.specs.Abbreviations.{hours_behind}
use Rattle.desk_clock.specs.LocalForm.{IsForm, ReadsAs, LacksAbbreviation, HasDate, written_in, of_written, minute_of, minute_by, or_no_time, read_of}
use Rattle.desk_clock.specs.LocalTimes.{local_time, shown_at, local_minutes, minute_shown, minute_behind, in_2000, is_last_of_1999, has_date}
use Rattle.desk_clock.specs.LocalWords.{parse_words, parse_date, parse_year, parse_time_of_day, parse_number, are_letters}
use Rattle.desk_clock.specs.Names.{find_name, month_names, weekday_names}
use Rattle.std.specs.Option.{is_some}
use Rattle.desk_clock.specs.Words.{first_word, after_word, after_aside}
use Rattle.desk_clock.proofs.Cutting.{split, is_word, some_before, some_aside, is_aside}
use Rattle.desk_clock.proofs.Forms.{form_says}
use Rattle.desk_clock.proofs.RoundTrip.{minute_back, most_behind}
use Rattle.desk_clock.proofs.ShownDates.{civil_from_test, has_date_if}

module _ {A B : Type 0} where
  always_none : (f : A → Option B) (o : Option A) → ((x : A) → f x ≡ None) → option_and_then f o ≡ None
  always_none f None h = refl
  always_none f (Some x) h = h x

module _ {A : Type 0} where
  guarded : (b : Bool) (o : Option A) → o ≡ None → cond b o None ≡ None
  guarded true o h = h
  guarded false o h = refl

no_year : (letters month day : List ℕ) (time : ℕ × ℕ) → parse_date letters month day [] time ≡ None
unfolding parse_date parse_year
no_year letters month day time = always_none {A = ℕ} _ (find_name month_names month) (λ m. always_none {A = ℕ} _ (parse_number day) (λ d. refl))

no_words : (clock half letters weekday month day : List ℕ) → parse_words clock half letters weekday month day [] ≡ None
unfolding parse_words
no_words clock half letters weekday month day = guarded (are_letters letters && is_some (find_name weekday_names weekday)) _ (always_none {A = ℕ × ℕ} _ (parse_time_of_day clock half) (λ time. no_year letters month day time))

year_there : (clock half letters weekday month day year : List ℕ) (w : Written) → parse_words clock half letters weekday month day year ≡ Some w → year ≢ []
year_there clock half letters weekday month day year w h e =
    let none : parse_words clock half letters weekday month day year ≡ None = rw e (no_words clock half letters weekday month day) in
    let clash : Some w ≡ None = sym h ∙ none in
    cc

pub form_found : (b : List ℕ) (w : Written) → written_in b ≡ Some w → IsForm b w
unfolding written_in
form_found b w h =
    let half : List ℕ = after_word b in
    let letters : List ℕ = after_word half in
    let aside : List ℕ = after_word letters in
    let weekday : List ℕ = after_aside aside in
    let month : List ℕ = after_word weekday in
    let day : List ℕ = after_word month in
    let year : List ℕ = after_word day in
    let some_year : year ≢ [] = year_there (first_word b) (first_word half) (first_word letters) (first_word weekday) (first_word month) (first_word day) year w h in
    let some_day : day ≢ [] = some_before day some_year in
    let some_month : month ≢ [] = some_before month some_day in
    let some_weekday : weekday ≢ [] = some_before weekday some_month in
    let some_aside_part : aside ≢ [] = some_aside aside some_weekday in
    let some_letters : letters ≢ [] = some_before letters some_aside_part in
    let some_half : half ≢ [] = some_before half some_letters in
    record {
      clock = first_word b;
      half = first_word half;
      letters = first_word letters;
      weekday = first_word weekday;
      month = first_word month;
      day = first_word day;
      year = year;
      from_half = half;
      from_letters = letters;
      from_aside = aside;
      from_weekday = weekday;
      from_month = month;
      from_day = day;
      first = is_word b some_half;
      second = is_word half some_letters;
      third = is_word letters some_aside_part;
      aside = is_aside aside some_weekday;
      fourth = is_word weekday some_month;
      fifth = is_word month some_day;
      sixth = is_word day some_year;
      says = h;
    }

last_time : (t : LocalTime) (s : ℕ) → is_last_of_1999 t ≡ true → 60 * t.hour + t.minute ≡ s → local_time s ≡ t
unfolding local_time
last_time t s last e =
    let year : 1999 ≡ t.year = grind (arith, nat_tests) in
    let month : 12 ≡ t.month = grind (arith, nat_tests) in
    let day : 31 ≡ t.day = grind (arith, nat_tests) in
    let small : (t.hour < 24) × (t.minute < 60) = (grind (arith, nat_tests), grind (arith, nat_tests)) in
    let hour : s / 60 ≡ t.hour = omega arith in
    let minute : s % 60 ≡ t.minute = omega arith in
    rw (lt-ltb s 1440 (omega arith)) (λ i. record { year = year i; month = month i; day = day i; hour = hour i; minute = minute i })

civil_time : (t : LocalTime) (s : ℕ) → 2000 ≤ t.year → IsCivil (in_2000 t) → 1440 + minute_of_civil (in_2000 t) ≡ s → local_time s ≡ t
unfolding local_time
civil_time t s low is e =
    let rest : s - 1440 ≡ minute_of_civil (in_2000 t) = omega arith in
    let year : 2000 + (t.year - 2000) ≡ t.year = omega arith in
    rw (le-ltb s 1440 (omega arith), rest, civil_found (in_2000 t) is) (λ i. record { year = year i; month = t.month; day = t.day; hour = t.hour; minute = t.minute })

local_of : (t : LocalTime) (s : ℕ) → local_minutes t ≡ Some s → local_time s ≡ t
unfolding local_minutes
local_of t s h =
    elim (split (is_last_of_1999 t)) [
      | inl last ↦ let same : Some (60 * t.hour + t.minute) ≡ Some s = rw last at h in last_time t s last (cc)
      | inr other ↦
          let rest = cond_some _ _ _ (rw other at h) in
          let tests = and_parts (nat_le 2000 t.year) (is_civil (in_2000 t)) rest.0 in
          civil_time t s (leb-true _ _ tests.0) (civil_from_test _ tests.1) rest.1
    ]

abbrev Shown : Abbreviation → LocalTime → ℕ → Type 0
Shown a t m = (m < 52596000) × (local_time (shown_at a m) ≡ t)

behind_is : (hours s m : ℕ) → hours ≤ 10 → minute_behind hours s ≡ Some m → (m < 52596000) × (m + 1440 - 60 * hours ≡ s)
behind_is hours s m most h =
    let found = cond_some _ _ _ h in
    let tests = and_parts (nat_le 1440 (s + 60 * hours)) (nat_lt (s + 60 * hours) 52597440) found.0 in
    let low = leb-true _ _ tests.0 in
    let high = ltb-true _ _ tests.1 in
    let same = found.1 in
    (omega arith, omega arith)

shown_in : (a : Abbreviation) (t : LocalTime) (m : ℕ) → minute_shown a t ≡ Some m → Shown a t m
unfolding minute_shown
shown_in a t m h = option_and_then_some (minute_behind (hours_behind a)) (local_minutes t) m h (λ s e found.
    let at = behind_is (hours_behind a) s m (most_behind a) found in
    (at.0, ap local_time at.1 ∙ local_of t s e))

from_option : (o : Option ℕ) (m : ℕ) → or_no_time o ≡ Ok m → o ≡ Some m
from_option None m h = cc
from_option (Some n) m h = let same : ◌≡◌ {A = Result ℕ LocalFault} (Ok n) (Ok m) = h in cc

no_minute : (b : Bool) (m : ℕ) → ◌≡◌ {A = Result ℕ LocalFault} (cond b (Err UnknownAbbreviation) (Err NoLocalTime)) (Ok m) → ⊥
no_minute true m h = cc
no_minute false m h = cc

by_abbreviation : (b : List ℕ) (w : Written) (m : ℕ) (o : Option Abbreviation) → IsForm b w → w.abbreviation ≡ o → minute_by o w.time ≡ Ok m → ReadsAs b m
by_abbreviation b w m None form named h = absurd (no_minute (has_date w.time) m h)
by_abbreviation b w m (Some a) form named h =
    let at = shown_in a w.time m (from_option (minute_shown a w.time) m h) in
    record { written = w; form = form; abbreviation = a; named = named; in_range = at.0; shown = at.1 }

by_written : (b : List ℕ) (m : ℕ) (o : Option Written) → written_in b ≡ o → of_written o ≡ Ok m → ReadsAs b m
unfolding minute_of
by_written b m None says h = cc
by_written b m (Some w) says h = by_abbreviation b w m w.abbreviation (form_found b w says) refl h

pub reads : (b : List ℕ) (m : ℕ) → read_of b ≡ Ok m → ReadsAs b m
unfolding read_of
reads b m h = by_written b m (written_in b) refl h

pub only_reads : (b : List ℕ) (m : ℕ) → ReadsAs b m → read_of b ≡ Ok m
unfolding read_of minute_of
only_reads b m r = rw (form_says b r.written r.form, r.named, sym r.shown, minute_back r.abbreviation m r.in_range) refl

date_there : (t : LocalTime) → has_date t ≡ true → HasDate t
unfolding has_date
date_there t h =
    let f = and_parts _ _ h in let e = and_parts _ _ f.0 in let d = and_parts _ _ e.0 in let c = and_parts _ _ d.0 in let b = and_parts _ _ c.0 in
    let year = leb-true _ _ b.0 in let most = leb-true _ _ b.1 in
    (year, most, ((omega (arith, signed_arith), omega (arith, signed_arith)), (leb-true _ _ c.1, leb-true _ _ d.1), (leb-true _ _ e.1, leb-true _ _ f.1)))

never : {X : Type 0} (o : Option ℕ) → or_no_time o ≡ Err UnknownAbbreviation → X
never None h = cc
never (Some m) h = cc

lacks_by : (b : List ℕ) (w : Written) (o : Option Abbreviation) → IsForm b w → w.abbreviation ≡ o → minute_by o w.time ≡ Err UnknownAbbreviation → LacksAbbreviation b
lacks_by b w None form unnamed h =
    elim (split (has_date w.time)) [
      | inl has ↦ record { written = w; form = form; unnamed = unnamed; date = date_there w.time has }
      | inr not_there ↦ let clash : ◌≡◌ {A = Result ℕ LocalFault} (Err NoLocalTime) (Err UnknownAbbreviation) = rw not_there at h in cc
    ]
lacks_by b w (Some a) form named h = never (minute_shown a w.time) h

lacks_from : (b : List ℕ) (o : Option Written) → written_in b ≡ o → of_written o ≡ Err UnknownAbbreviation → LacksAbbreviation b
unfolding minute_of
lacks_from b None says h = cc
lacks_from b (Some w) says h = lacks_by b w w.abbreviation (form_found b w says) refl h

pub lacks : (b : List ℕ) → read_of b ≡ Err UnknownAbbreviation → LacksAbbreviation b
unfolding read_of
lacks b h = lacks_from b (written_in b) refl h

pub only_lacks : (b : List ℕ) → LacksAbbreviation b → read_of b ≡ Err UnknownAbbreviation
unfolding read_of minute_of
only_lacks b l =
    let d = l.date in
    rw (form_says b l.written l.form, l.unnamed, has_date_if l.written.time d.0 d.1 d.2.1.0 d.2.1.1 d.2.2.0 d.2.2.1) refl
