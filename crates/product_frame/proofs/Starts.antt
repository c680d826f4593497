-- The lines of a text stand behind one another.
use Rattle.std.proofs.Common.{◌≡◌, ℕ, zero, suc, ◌+◌, ◌≤◌, ◌==◌, List, [], ◌∷◌, length, take, drop, refl, ap, sym, ◌∙◌, arith, inl, inr, drop-drop}
use Rattle.std.proofs.lemmas.Bool.{cases_Bool}
use Rattle.product_frame.specs.Text.{starts_from, line_end_count}
use Rattle.product_frame.proofs.Runs.{as_many_ends}

-- behind each of these places begin the lines of the text from there on
abbrev pub AreStarts : List ℕ → List ℕ → Type 0
AreStarts bytes [] = Unit {0}
AreStarts bytes (s ∷ lines) = (lines ≡ starts_from s (drop s bytes)) × AreStarts bytes lines

starts_stand : (bytes rest : List ℕ) (at : ℕ) → drop at bytes ≡ rest → AreStarts bytes (starts_from at rest)
starts_stand bytes [] at h = tt
starts_stand bytes (c ∷ rest) at h =
    let next : drop (at + 1) bytes ≡ rest = sym (drop-drop 1 at bytes) ∙ ap (drop 1) h in
    elim (cases_Bool (c == 10)) [
      | inl e ↦ rw e (ap (starts_from (at + 1)) (sym next), starts_stand bytes rest (at + 1) next)
      | inr e ↦ rw e (starts_stand bytes rest (at + 1) next)
    ]

some_starts : (bytes lines : List ℕ) (n : ℕ) → AreStarts bytes lines → AreStarts bytes (drop n lines)
some_starts bytes lines zero h = h
some_starts bytes [] (suc n) h = tt
some_starts bytes (s ∷ lines) (suc n) h = some_starts bytes lines n h.1

-- the lines behind so many lines of a product
pub later_starts : (bytes : List ℕ) (n : ℕ) → AreStarts bytes (drop n (starts_from 0 bytes))
later_starts bytes n = some_starts bytes (starts_from 0 bytes) n (starts_stand bytes bytes 0 refl)

fewer_ends : (bytes : List ℕ) (n : ℕ) → line_end_count (take n bytes) ≤ line_end_count bytes
fewer_ends bytes zero = omega arith
fewer_ends [] (suc n) = omega arith
fewer_ends (c ∷ bytes) (suc n) =
    let fewer : line_end_count (take n bytes) ≤ line_end_count bytes = fewer_ends bytes n in
    elim (cases_Bool (c == 10)) [
      | inl e ↦ rw e (omega (arith, fewer))
      | inr e ↦ rw e fewer
    ]

-- a front of what stands from a line on ends no more lines than there are behind it
pub ends_fit : (bytes lines : List ℕ) (s n : ℕ) → lines ≡ starts_from s (drop s bytes) → line_end_count (take n (drop s bytes)) ≤ length lines
ends_fit bytes lines s n h =
    let size : length lines ≡ line_end_count (drop s bytes) = ap length h ∙ as_many_ends (drop s bytes) s in
    omega (arith, fewer_ends (drop s bytes) n)
