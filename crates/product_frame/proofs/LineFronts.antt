-- What the first bytes of a text tell of its first line.
use Rattle.std.proofs.Common.{◌≡◌, ℕ, zero, suc, ◌<◌, ◌≤◌, ◌==◌, ◌&&◌, Bool, true, false, List, [], ◌∷◌, length, get_or, None, refl, ap, sym, ◌∙◌, arith, inl, inr}
use Rattle.std.specs.Prelude.{slice_index, nat_le}
use Rattle.std.proofs.lemmas.Bool.{cases_Bool, cases_lt, eqb-true, le-leb, lt-leb}
use Rattle.hazard_types.specs.Calendar.{is_digit}
use Rattle.product_frame.specs.Text.{line_of, before, is_left_out}
use Rattle.product_frame.specs.Parts.{is_front, may_be_heading, heading_of, begins, begins_by, begins_by_digit, has_slash, is_end, parse_local_line}
use Rattle.product_frame.proofs.LineKinds.{no_front, no_heading_length, no_local_first}

-- ---- the bytes of a line are the first bytes of the text

before_at : (c : ℕ) (line : List ℕ) (k : ℕ) → suc k < length (before c line) → (k < length line) × (get_or (before c line) (suc k) 0 ≡ get_or line k 0)
before_at c [] k lt = elim (cases_Bool (is_left_out c)) [
  | inl e ↦ let size : length (before c []) ≡ 0 = rw e refl in absurd (omega arith)
  | inr e ↦ let size : length (before c []) ≡ 1 = rw e refl in absurd (omega arith)
]
before_at c (d ∷ line) k lt = (omega arith, refl)

before_first : (c : ℕ) (line : List ℕ) → 0 < length (before c line) → get_or (before c line) 0 0 ≡ c
before_first c [] lt = elim (cases_Bool (is_left_out c)) [
  | inl e ↦ let size : length (before c []) ≡ 0 = rw e refl in absurd (omega arith)
  | inr e ↦ rw e refl
]
before_first c (d ∷ line) lt = refl

abbrev Agree : List ℕ → List ℕ → Type 0
Agree line t = (k : ℕ) → k < length line → (k < length t) × (get_or line k 0 ≡ get_or t k 0)

agree_on : (c : ℕ) (t line : List ℕ) → Agree line t → Agree (before c line) (c ∷ t)
agree_on c t line ih zero lt = (omega arith, before_first c line lt)
agree_on c t line ih (suc k) lt =
    let b = before_at c line k lt in
    let deeper = ih k b.0 in
    let inside : k < length t = deeper.0 in
    (omega arith, b.1 ∙ deeper.1)

agree_more : (c : ℕ) (t : List ℕ) → Agree (line_of t) t → Agree (line_of (c ∷ t)) (c ∷ t)
agree_more c t ih = elim (cases_Bool (c == 10)) [
  | inl e ↦ rw e (λ k lt. absurd (omega arith))
  | inr e ↦ rw e (agree_on c t (line_of t) ih)
]

agree : (t : List ℕ) (k : ℕ) → k < length (line_of t) → (k < length t) × (get_or (line_of t) k 0 ≡ get_or t k 0)
agree [] k lt = absurd (omega arith)
agree (c ∷ t) k lt = agree_more c t (agree t) k lt

pub byte_at : (t : List ℕ) (k : ℕ) → k < length (line_of t) → get_or (line_of t) k 0 ≡ get_or t k 0
byte_at t k lt = (agree t k lt).1

longer : (t : List ℕ) (n : ℕ) → suc n ≤ length (line_of t) → nat_le (suc n) (length t) ≡ true
longer t n le = let there : n < length t = (agree t n (omega arith)).0 in le-leb (suc n) (length t) (omega arith)

-- ---- a heading line

-- a line and its text have the same byte there
abbrev Same : List ℕ → ℕ → Type 0
Same t k = get_or (line_of t) k 0 ≡ get_or t k 0

-- the first seven bytes of a line are those of its text
first_seven : (t : List ℕ) → 7 ≤ length (line_of t) → Same t 0 × Same t 1 × Same t 2 × Same t 3 × Same t 4 × Same t 5 × Same t 6
first_seven t le = (byte_at t 0 (omega arith), byte_at t 1 (omega arith), byte_at t 2 (omega arith), byte_at t 3 (omega arith), byte_at t 4 (omega arith), byte_at t 5 (omega arith), byte_at t 6 (omega arith))

same_front : (t : List ℕ) → 12 ≤ length (line_of t) → is_front (line_of t) ≡ is_front t
same_front t le =
    let f = first_seven t (omega arith) in
    rw (f.0, f.1, f.2, f.3, f.4, f.5, f.6, byte_at t 7 (omega arith), byte_at t 8 (omega arith), byte_at t 9 (omega arith), byte_at t 10 (omega arith), byte_at t 11 (omega arith)) refl

pub no_heading : (t : List ℕ) → may_be_heading t ≡ false → heading_of (line_of t) ≡ None
no_heading t h = elim (cases_lt (length (line_of t)) 18) [
  | inl short ↦ no_heading_length (line_of t) (omega arith)
  | inr long ↦ no_front (line_of t) (same_front t (omega arith) ∙ sym (ap (λ (b : Bool). b && is_front t) (longer t 11 (omega arith))) ∙ h)
]

-- ---- a line that begins a segment

same_begin : (t : List ℕ) → 7 ≤ length (line_of t) → begins (line_of t) ≡ begins t
same_begin t le =
    let f = first_seven t le in
    rw (le-leb 7 (length (line_of t)) le, longer t 6 le, f.0, f.1, f.2, f.3, f.4, f.5, f.6) refl

pub no_begin : (t : List ℕ) → begins t ≡ false → begins (line_of t) ≡ false
no_begin t h = elim (cases_lt (length (line_of t)) 7) [
  | inl short ↦ rw (lt-leb 7 (length (line_of t)) short) refl
  | inr long ↦ same_begin t long ∙ h
]

-- ---- a line by its first byte

pub no_end : (t : List ℕ) → begins_by 36 t ≡ false → is_end (line_of t) ≡ false
no_end [] h = refl
no_end (c ∷ t) h = elim (cases_Bool (length (line_of (c ∷ t)) == 2)) [
  | inl e ↦ let size : length (line_of (c ∷ t)) ≡ 2 = eqb-true _ _ e in rw (e, byte_at (c ∷ t) 0 (omega arith), h) refl
  | inr e ↦ rw e refl
]

full : (n : ℕ) → nat_le 1 (suc n) ≡ true
full n = le-leb 1 (suc n) (omega arith)

no_slash_line : (line : List ℕ) (c : ℕ) → (c == 47) ≡ false → (0 < length line → get_or line 0 0 ≡ c) → has_slash line ≡ false
no_slash_line [] c h first = refl
no_slash_line (d ∷ line) c h first = let e : d ≡ c = first (omega arith) in rw (full (length line), e, h) refl

slash_first : (t : List ℕ) → has_slash (47 ∷ t) ≡ true
slash_first t = rw (full (length t)) refl

slash_kept : (line : List ℕ) → has_slash (before 47 line) ≡ true
slash_kept [] = refl
slash_kept (d ∷ line) = slash_first (d ∷ line)

pub same_slash : (t : List ℕ) → has_slash (line_of t) ≡ has_slash t
same_slash [] = refl
same_slash (c ∷ t) = elim (cases_Bool (c == 47)) [
  | inl e ↦ rw (eqb-true c 47 e) (slash_kept (line_of t) ∙ sym (slash_first t))
  | inr e ↦ no_slash_line (line_of (c ∷ t)) c e (byte_at (c ∷ t) 0) ∙ sym (no_slash_line (c ∷ t) c e (λ lt. refl))
]

-- ---- a local line

no_digit_line : (line : List ℕ) (c : ℕ) → is_digit c ≡ false → (0 < length line → get_or line 0 0 ≡ c) → is_digit (slice_index line 0) ≡ false
no_digit_line [] c h first = refl
no_digit_line (d ∷ line) c h first = let e : d ≡ c = first (omega arith) in rw e h

pub no_local : (t : List ℕ) → begins_by_digit t ≡ false → parse_local_line (line_of t) ≡ None
no_local [] h = no_local_first [] refl
no_local (c ∷ t) h = no_local_first (line_of (c ∷ t)) (no_digit_line (line_of (c ∷ t)) c h (byte_at (c ∷ t) 0))
