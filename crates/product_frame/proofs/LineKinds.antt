-- What a line is not: a heading, a line that begins a segment, a local line.
use Rattle.std.proofs.Common.{◌≡◌, ℕ, zero, suc, ◌-◌, ◌≤◌, ◌==◌, ◌&&◌, ◌||◌, Bool, true, false, List, [], ◌∷◌, length, take, get_or, refl, arith, inl, inr, None}
use Rattle.std.specs.Prelude.{slice_index, nat_le, is_some}
use Rattle.std.specs.List.{AllByRecursion, position_or_len}
use Rattle.std.proofs.lemmas.Bool.{cases_Bool, and_left, lt-leb, ne_eqb}
use Rattle.hazard_types.specs.Calendar.{is_digit}
use Rattle.hazard_types.specs.Places.{is_capital}
use Rattle.desk_clock.specs.LocalForm.{written_in, read_of}
use Rattle.desk_clock.specs.Words.{first_word}
use Rattle.hazard_types.specs.Characters.{is_blank as is_word_blank}
use Rattle.desk_clock.specs.LocalWords.{parse_number, parse_time_of_day, parse_words, are_letters}
use Rattle.desk_clock.specs.Names.{find_name, weekday_names}
use Rattle.hazard_types.specs.Characters.{is_blank}
use Rattle.product_frame.specs.Text.{line_of}
use Rattle.product_frame.specs.Parts.{is_ttaaii, has_office, is_bbb, is_front, heading_by, heading_of, begins, parse_local_line}
use Rattle.product_frame.specs.LineRules.{HasNoDigit}
use Rattle.product_frame.proofs.Runs.{all_line}

fifth_of_six : (a b c d e f : Bool) → e ≡ false → (a && b && c && d && e && f) ≡ false
fifth_of_six false b c d e f h = refl
fifth_of_six true false c d e f h = refl
fifth_of_six true true false d e f h = refl
fifth_of_six true true true false e f h = refl
fifth_of_six true true true true e f h = rw h refl

first_of_four : (a b c d : Bool) → a ≡ false → (a && b && c && d) ≡ false
first_of_four a b c d h = rw h refl

second_of_four : (a b c d : Bool) → b ≡ false → (a && b && c && d) ≡ false
second_of_four false b c d h = refl
second_of_four true b c d h = rw h refl

fifth_of_eight : (n a b k d e f s : Bool) → d ≡ false → (n && a && b && k && d && e && f && s) ≡ false
fifth_of_eight false a b k d e f s h = refl
fifth_of_eight true false b k d e f s h = refl
fifth_of_eight true true false k d e f s h = refl
fifth_of_eight true true true false d e f s h = refl
fifth_of_eight true true true true d e f s h = rw h refl

second_of_eight : (n a b k d e f s : Bool) → a ≡ false → (n && a && b && k && d && e && f && s) ≡ false
second_of_eight false a b k d e f s h = refl
second_of_eight true a b k d e f s h = rw h refl

pub all_at : (P : ℕ → Bool) → P 0 ≡ false → (t : List ℕ) (k : ℕ) → AllByRecursion (λ c. P c ≡ false) t → P (get_or t k 0) ≡ false
all_at P z [] k h = z
all_at P z (c ∷ t) zero h = h.0
all_at P z (c ∷ t) (suc k) h = all_at P z t k h.1

pub digit_at : (t : List ℕ) (k : ℕ) → HasNoDigit t → is_digit (slice_index t k) ≡ false
digit_at t k h = all_at is_digit refl t k h

pub blank_at : (t : List ℕ) (k : ℕ) → AllByRecursion (λ c. is_blank c ≡ false) t → is_blank (slice_index t k) ≡ false
blank_at t k h = all_at is_blank refl t k h

pub digit_no_capital : (c : ℕ) → c ≤ 57 → is_capital c ≡ false
digit_no_capital c h = and_left _ _ (lt-leb 65 c (omega arith))

pub no_front : (line : List ℕ) → is_front line ≡ false → heading_of line ≡ None
unfolding heading_of heading_by
no_front line h = elim (cases_Bool (length line == 18)) [
  | inl a ↦ rw (a, h) refl
  | inr a ↦ rw a (elim (cases_Bool (length line == 22)) [
    | inl b ↦ rw b (elim (cases_Bool (is_blank (slice_index line 18) && is_bbb line 19)) [ inl c ↦ rw (c, h) refl | inr c ↦ rw c refl ])
    | inr b ↦ rw b refl
  ])
]

capital_first : (line : List ℕ) → is_capital (slice_index line 0) ≡ false → is_ttaaii line ≡ false
capital_first line h = rw h refl

pub no_heading_first : (line : List ℕ) → is_capital (slice_index line 0) ≡ false → heading_of line ≡ None
no_heading_first line h = no_front line (first_of_four _ (is_blank (slice_index line 6)) (has_office line) (is_blank (slice_index line 11)) (capital_first line h))

no_heading_digit : (line : List ℕ) → is_digit (slice_index line 4) ≡ false → heading_of line ≡ None
no_heading_digit line h =
    let t : is_ttaaii line ≡ false = fifth_of_six (is_capital (slice_index line 0)) (is_capital (slice_index line 1)) (is_capital (slice_index line 2)) (is_capital (slice_index line 3)) (is_digit (slice_index line 4)) (is_digit (slice_index line 5)) h in
    no_front line (first_of_four _ (is_blank (slice_index line 6)) (has_office line) (is_blank (slice_index line 11)) t)

no_heading_blank : (line : List ℕ) → is_blank (slice_index line 6) ≡ false → heading_of line ≡ None
no_heading_blank line h = no_front line (second_of_four (is_ttaaii line) (is_blank (slice_index line 6)) (has_office line) (is_blank (slice_index line 11)) h)

pub no_heading_length : (line : List ℕ) → length line ≤ 17 → heading_of line ≡ None
unfolding heading_of
no_heading_length line h =
    let a : (length line == 18) ≡ false = ne_eqb _ _ (λ (e : length line ≡ 18). omega arith) in
    let b : (length line == 22) ≡ false = ne_eqb _ _ (λ (e : length line ≡ 22). omega arith) in
    rw (a, b) refl

-- ---- a text without blanks

pub no_blank_no_heading : (t : List ℕ) → AllByRecursion (λ c. is_blank c ≡ false) t → heading_of (line_of t) ≡ None
no_blank_no_heading t h = no_heading_blank (line_of t) (blank_at (line_of t) 6 (all_line (λ c. is_blank c ≡ false) t h))

-- ---- a text without digits

pub no_digit_no_heading : (t : List ℕ) → HasNoDigit t → heading_of (line_of t) ≡ None
no_digit_no_heading t h = no_heading_digit (line_of t) (digit_at (line_of t) 4 (all_line (λ c. is_digit c ≡ false) t h))

no_digit_begins : (line : List ℕ) → is_digit (slice_index line 3) ≡ false → begins line ≡ false
no_digit_begins line h = fifth_of_eight (nat_le 7 (length line)) (is_capital (slice_index line 0)) (is_capital (slice_index line 1)) ((slice_index line 2 == 67) || (slice_index line 2 == 90)) (is_digit (slice_index line 3)) (is_digit (slice_index line 4)) (is_digit (slice_index line 5)) ((slice_index line 6 == 45) || (slice_index line 6 == 62)) h

pub no_capital_begins : (line : List ℕ) → is_capital (slice_index line 0) ≡ false → begins line ≡ false
no_capital_begins line h = second_of_eight (nat_le 7 (length line)) (is_capital (slice_index line 0)) (is_capital (slice_index line 1)) ((slice_index line 2 == 67) || (slice_index line 2 == 90)) (is_digit (slice_index line 3)) (is_digit (slice_index line 4)) (is_digit (slice_index line 5)) ((slice_index line 6 == 45) || (slice_index line 6 == 62)) h

pub no_digit_no_segment : (t : List ℕ) → HasNoDigit t → begins (line_of t) ≡ false
no_digit_no_segment t h = no_digit_begins (line_of t) (digit_at (line_of t) 3 (all_line (λ c. is_digit c ≡ false) t h))

pub all_take : (P : ℕ → Type 0) (n : ℕ) (t : List ℕ) → AllByRecursion P t → AllByRecursion P (take n t)
all_take P zero t h = tt
all_take P (suc n) [] h = tt
all_take P (suc n) (c ∷ t) h = (h.0, all_take P n t h.1)

-- a word whose first byte is no digit

first_taken : (n : ℕ) (w : List ℕ) → is_digit (slice_index w 0) ≡ false → is_digit (slice_index (take n w) 0) ≡ false
first_taken zero w h = refl
first_taken (suc n) [] h = h
first_taken (suc n) (c ∷ w) h = h

number_none : (w : List ℕ) → is_digit (slice_index w 0) ≡ false → parse_number w ≡ None
unfolding parse_number
number_none w h =
    elim (cases_Bool (length w == 1)) [
      | inl e ↦ rw (e, h) refl
      | inr e ↦ rw e (elim (cases_Bool (length w == 2)) [ inl f ↦ rw (f, h) refl | inr f ↦ rw f refl ])
    ]

time_none : (clock half : List ℕ) → is_digit (slice_index clock 0) ≡ false → parse_time_of_day clock half ≡ None
unfolding parse_time_of_day
time_none clock half h = rw (number_none (take (length clock - 2) clock) (first_taken (length clock - 2) clock h)) refl

said_none : (clock half letters weekday month day year : List ℕ) → is_digit (slice_index clock 0) ≡ false → parse_words clock half letters weekday month day year ≡ None
unfolding parse_words
said_none clock half letters weekday month day year h =
    elim (cases_Bool (are_letters letters && is_some (find_name weekday_names weekday))) [ inl e ↦ rw (e, time_none clock half h) refl | inr e ↦ rw e refl ]

written_none : (b : List ℕ) → is_digit (slice_index b 0) ≡ false → written_in b ≡ None
unfolding written_in
written_none b h = said_none (first_word b) _ _ _ _ _ _ (first_taken (position_or_len is_word_blank b) b h)

pub no_local_first : (b : List ℕ) → is_digit (slice_index b 0) ≡ false → parse_local_line b ≡ None
unfolding parse_local_line read_of
no_local_first b h = rw (written_none b h) refl

pub no_digit_no_local : (t : List ℕ) → HasNoDigit t → parse_local_line (line_of t) ≡ None
no_digit_no_local t h = no_local_first (line_of t) (digit_at (line_of t) 0 (all_line (λ c. is_digit c ≡ false) t h))
