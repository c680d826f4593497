-- Where the first line of a text ends, and what it is without its end.
use Rattle.std.proofs.Common.{◌≡◌, ℕ, zero, suc, ◌+◌, ◌-◌, ◌<◌, ◌≤◌, ◌==◌, true, false, List, [], ◌∷◌, length, take, drop, get_or, add-one, Option, Some, None, option_map, refl, ap, sym, ◌∙◌, arith, append_assoc, append-nil, drop-drop, ◌++◌, inl, inr}
use Rattle.std.specs.List.{list_any}
use Rattle.std.proofs.lemmas.Bool.{cases_Bool}
use Rattle.memchr.specs.Find.{IsFirstByte, is_byte}
use Rattle.product_frame.specs.Text.{starts_from, line_of, before, is_left_out, trimmed, line_end, next_start}

-- the first LF is where the first line ends
pub first_is_end : (bytes : List ℕ) (r : Option ℕ) → IsFirstByte (is_byte 10) bytes r → r ≡ line_end bytes
first_is_end [] None h = refl
first_is_end [] (Some k) h = let high : k < 0 = h.0.high in absurd (omega arith)
first_is_end (c ∷ bytes) None h = elim (cases_Bool (c == 10)) [
  | inl e ↦ absurd (h 0 (omega arith) (omega arith) e)
  | inr e ↦ rw e (ap (option_map suc) (first_is_end bytes None (λ k low high p. h (suc k) (omega arith) (omega arith) p)))
]
first_is_end (c ∷ bytes) (Some zero) h = rw h.1 refl
first_is_end (c ∷ bytes) (Some (suc k)) h = elim (cases_Bool (c == 10)) [
  | inl e ↦ absurd (h.0.before 0 (omega arith) (omega arith) e)
  | inr e ↦
      let high : suc k < suc (length bytes) = h.0.high in
      rw e (ap (option_map suc) (first_is_end bytes (Some k) (record { low = omega arith; high = omega arith; before = λ j low below p. h.0.before (suc j) (omega arith) (omega arith) p }, h.1)))
]

-- what stands before its end
abbrev pub upto : List ℕ → Option ℕ → List ℕ
upto bytes None = bytes
upto bytes (Some k) = take k bytes

upto_more : (c : ℕ) (bytes : List ℕ) (end : Option ℕ) → upto (c ∷ bytes) (option_map suc end) ≡ c ∷ upto bytes end
upto_more c bytes None = refl
upto_more c bytes (Some k) = refl

pub line_is : (bytes : List ℕ) → line_of bytes ≡ trimmed (upto bytes (line_end bytes))
line_is [] = refl
line_is (c ∷ bytes) = elim (cases_Bool (c == 10)) [
  | inl e ↦ rw e refl
  | inr e ↦ rw e (ap (before c) (line_is bytes) ∙ ap trimmed (sym (upto_more c bytes (line_end bytes))))
]

-- ---- where lines begin, one behind another

abbrev pub begun_at : ℕ → List ℕ → Option ℕ → List ℕ
begun_at at bytes None = []
begun_at at bytes (Some end) = (at + end + 1) ∷ starts_from (at + end + 1) (drop (end + 1) bytes)

begun_more : (at c : ℕ) (bytes : List ℕ) (end : Option ℕ) → begun_at (at + 1) bytes end ≡ begun_at at (c ∷ bytes) (option_map suc end)
begun_more at c bytes None = refl
begun_more at c bytes (Some k) =
    let place : at + 1 + k + 1 ≡ at + suc k + 1 = omega arith in
    let size : suc k + 1 ≡ suc (k + 1) = omega arith in
    ap (λ (n : ℕ). n ∷ starts_from n (drop (k + 1) bytes)) place ∙ ap (λ (n : ℕ). (at + suc k + 1) ∷ starts_from (at + suc k + 1) (drop n (c ∷ bytes))) (sym size)

begun_are : (at : ℕ) (bytes : List ℕ) → starts_from at bytes ≡ begun_at at bytes (line_end bytes)
begun_are at [] = refl
begun_are at (c ∷ bytes) = elim (cases_Bool (c == 10)) [
  | inl e ↦ rw e (let same : at + 0 + 1 ≡ at + 1 = omega arith in rw same refl)
  | inr e ↦ rw e (begun_are (at + 1) bytes ∙ begun_more at c bytes (line_end bytes))
]

-- the next line that begins, and those behind it
abbrev pub from_next : List ℕ → Option ℕ → List ℕ
from_next bytes None = []
from_next bytes (Some next) = next ∷ starts_from next (drop next bytes)

from_begun : (at : ℕ) (bytes : List ℕ) (end : Option ℕ) → begun_at at (drop at bytes) end ≡ from_next bytes (option_map (λ end. at + end + 1) end)
from_begun at bytes None = refl
from_begun at bytes (Some end) =
    let place : at + (end + 1) ≡ at + end + 1 = omega arith in
    ap (λ (xs : List ℕ). (at + end + 1) ∷ starts_from (at + end + 1) xs) (drop-drop (end + 1) at bytes ∙ ap (λ (n : ℕ). drop n bytes) place)

pub starts_are : (bytes : List ℕ) (at : ℕ) → starts_from at (drop at bytes) ≡ from_next bytes (next_start bytes at)
starts_are bytes at = begun_are at (drop at bytes) ∙ from_begun at bytes (line_end (drop at bytes))

pub next_added : (bytes list new whole : List ℕ) (at next : ℕ) → Some next ≡ next_start bytes at → new ≡ list ++ next ∷ [] → list ++ starts_from at (drop at bytes) ≡ whole → new ++ starts_from next (drop next bytes) ≡ whole
next_added bytes list new whole at next e is h =
    let behind = starts_from next (drop next bytes) in
    let more : starts_from at (drop at bytes) ≡ next ∷ behind = starts_are bytes at ∙ ap (from_next bytes) (sym e) in
    ap (λ (xs : List ℕ). xs ++ behind) is ∙ append_assoc list (next ∷ []) behind ∙ ap (λ (xs : List ℕ). list ++ xs) (sym more) ∙ h

pub all_added : (bytes list whole : List ℕ) (at : ℕ) → None ≡ next_start bytes at → list ++ starts_from at (drop at bytes) ≡ whole → list ≡ whole
all_added bytes list whole at e h = sym (append-nil list) ∙ ap (λ (xs : List ℕ). list ++ xs) (sym (starts_are bytes at ∙ ap (from_next bytes) (sym e))) ∙ h

-- ---- a line is trimmed from its end on

onto_some : (c : ℕ) (cs : List ℕ) (n : ℕ) → 0 < length cs → before c (take (n + 1) cs) ≡ c ∷ take (n + 1) cs
onto_some c (d ∷ cs) n lt = rw add-one refl
onto_some c [] n lt = absurd (omega arith)

kept_front : (line : List ℕ) (last : ℕ) → last < length line → is_left_out (get_or line last 0) ≡ false → trimmed (drop (last + 1) line) ≡ [] → trimmed line ≡ take (last + 1) line
kept_front [] last lt e h = absurd (omega arith)
kept_front (c ∷ line) zero lt e h = rw (h, e) refl
kept_front (c ∷ line) (suc last) lt e h =
    let size : suc last + 1 ≡ suc (last + 1) = omega arith in
    let behind : trimmed (drop (last + 1) line) ≡ [] = ap (λ (n : ℕ). trimmed (drop n (c ∷ line))) (sym size) ∙ h in
    rw size (ap (before c) (kept_front line last (omega arith) e behind) ∙ onto_some c line last (omega arith))

pub kept_to : (line : List ℕ) (n : ℕ) → 0 < n → n ≤ length line → is_left_out (get_or line (n - 1) 0) ≡ false → trimmed (drop n line) ≡ [] → trimmed line ≡ take (n - 1 + 1) line
kept_to line n lt le e h = let same : n - 1 + 1 ≡ n = omega arith in kept_front line (n - 1) (omega arith) e (ap (λ (k : ℕ). trimmed (drop k line)) same ∙ h)

-- ---- no LF stands before the end of a line

abbrev pub EndTold : List ℕ → Option ℕ → Type 0
EndTold bytes None = list_any (λ c. c == 10) bytes ≡ false
EndTold bytes (Some k) = (list_any (λ c. c == 10) (take k bytes) ≡ false) × (k < length bytes) × ((get_or bytes k 0 == 10) ≡ true)

told_more : (c : ℕ) (bytes : List ℕ) → (c == 10) ≡ false → (end : Option ℕ) → EndTold bytes end → EndTold (c ∷ bytes) (option_map suc end)
told_more c bytes e None h = rw (e, h) refl
told_more c bytes e (Some k) h = let inside : k < length bytes = h.1 in (rw (e, h.0) refl, omega arith, h.2)

pub end_told : (bytes : List ℕ) → EndTold bytes (line_end bytes)
end_told [] = refl
end_told (c ∷ bytes) = elim (cases_Bool (c == 10)) [
  | inl e ↦ rw e (refl, omega arith, e)
  | inr e ↦ rw e (told_more c bytes e (line_end bytes) (end_told bytes))
]
