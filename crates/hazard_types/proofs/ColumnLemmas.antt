-- The columns of a text, laid one behind another.
use Rattle.std.proofs.Common.{◌≡◌, ◌∙◌, ℕ, zero, suc, ◌+◌, ◌-◌, ◌==◌, ◌&&◌, List, [], ◌∷◌, ◌++◌, length, drop, get_or, refl, sym, ap, subst, arith, length-append, cond, inl, inr}
use Rattle.std.specs.Prelude.{Bool, Option, None, Some, true, slice_index, bytes_eq}
use Rattle.std.specs.List.{slice_range}
use Rattle.std.proofs.lemmas.Bool.{cases_Bool, and_parts, and_from, eqb-true, eq-eqb}
use Rattle.std.proofs.lemmas.List.{drop_more, drop-drop}
use Rattle.std.proofs.lemmas.List.Folds.{drop_split}
use Rattle.std.proofs.lemmas.Option.{none-some, cond_some}
use Rattle.std.proofs.lemmas.Slice.Eq.{bytes_eq-Decides}
use Rattle.std.proofs.Math.ListN.{drop_of_length-le}
use Rattle.std.proofs.Math.Seq.{take-append_seam, drop-append_seam}

-- a column: its width, its bytes, and the byte behind it
abbrev pub Column : Type 0
Column = ℕ × List ℕ × ℕ

-- the text of columns, one behind another
abbrev pub text_of : List Column → List ℕ
text_of [] = []
text_of (c ∷ cs) = c.1 ++ c.2 ∷ text_of cs

-- how many bytes they take with the bytes behind them
abbrev pub widths : List Column → ℕ
widths [] = 0
widths (c ∷ cs) = c.0 + 1 + widths cs

-- each of them is as wide as it says
abbrev pub AreWide : List Column → Type 0
AreWide [] = Unit {0}
AreWide (c ∷ cs) = (length c.1 ≡ c.0) × AreWide cs

-- they stand in the text, from this place on
abbrev pub Stand : List ℕ → ℕ → List Column → Type 0
Stand bytes i [] = Unit {0}
Stand bytes i (c ∷ cs) = (slice_range bytes i (i + c.0) ≡ c.1) × (slice_index bytes (i + c.0) ≡ c.2) × Stand bytes (i + c.0 + 1) cs

-- what stands in a text up to its end is the rest of it
pub laid : (bytes : List ℕ) (i : ℕ) (cs : List Column) → length bytes ≡ i + widths cs → Stand bytes i cs → drop i bytes ≡ text_of cs
laid bytes i [] size s = drop_of_length-le bytes (omega (arith, size))
laid bytes i (c ∷ cs) size s =
    let later : drop (i + c.0 + 1) bytes ≡ text_of cs = laid bytes (i + c.0 + 1) cs (omega (arith, size)) s.2 in
    let byte : drop (i + c.0) bytes ≡ c.2 ∷ text_of cs = drop_more bytes (i + c.0) 0 (omega (arith, size)) ∙ (λ k. s.1 k ∷ later k) in
    drop_split bytes i (i + c.0) (omega arith) ∙ (λ k. s.0 k ++ byte k)

-- the byte at a place and what follows it, where the rest is known
byte_next : (bytes rest : List ℕ) (i c : ℕ) → drop i bytes ≡ c ∷ rest → (slice_index bytes i ≡ c) × (drop (suc i) bytes ≡ rest)
byte_next [] rest zero c h = absurd (cc)
byte_next [] rest (suc i) c h = absurd (cc)
byte_next (b ∷ bytes) rest zero c h = (ap (λ (t : List ℕ). get_or t 0 0) h, ap (drop 1) h)
byte_next (b ∷ bytes) rest (suc i) c h = byte_next bytes rest i c h

-- the same of a part of this width
part_next : (bytes part rest : List ℕ) (i w : ℕ) → drop i bytes ≡ part ++ rest → length part ≡ w → (slice_range bytes i (i + w) ≡ part) × (drop (i + w) bytes ≡ rest)
part_next bytes part rest i w h wide =
    let size : i + w - i ≡ length part = omega (arith, wide) in
    let end : i + w ≡ i + length part = omega (arith, wide) in
    let slice : slice_range bytes i (i + w) ≡ part = rw (size, h) (take-append_seam part rest) in
    (slice, rw end (sym (drop-drop (length part) i bytes) ∙ ap (drop (length part)) h ∙ drop-append_seam part rest))

-- columns that are the rest of a text stand in it
pub stand : (bytes : List ℕ) (i : ℕ) (cs : List Column) → AreWide cs → drop i bytes ≡ text_of cs → Stand bytes i cs
stand bytes i [] wide h = tt
stand bytes i (c ∷ cs) wide h =
    let part = part_next bytes c.1 (c.2 ∷ text_of cs) i c.0 h wide.0 in
    let byte = byte_next bytes (text_of cs) (i + c.0) c.2 part.1 in
    let one : suc (i + c.0) ≡ i + c.0 + 1 = omega arith in
    (part.0, byte.0, stand bytes (i + c.0 + 1) cs wide.1 (subst (λ (k : ℕ). drop k bytes ≡ text_of cs) one byte.1))

-- the text is as long as they take
pub size_of : (cs : List Column) → AreWide cs → length (text_of cs) ≡ widths cs
size_of [] wide = refl
size_of (c ∷ cs) wide =
    let later = size_of cs wide.1 in
    omega (arith, length-append c.1 (c.2 ∷ text_of cs), wide.0, later)

-- ---- what is read

-- a text that is taken if it passes a test
pub tested : (test : List ℕ → Bool) (text x : List ℕ) → cond (test text) (Some text) None ≡ Some x → (text ≡ x) × (test x ≡ true)
tested test text x h = let found = cond_some _ _ _ h in (found.1, subst (λ (t : List ℕ). test t ≡ true) found.1 found.0)

-- values that are found in a text of this size with these bytes between its columns
pub checked : {T : Type 0} (n : ℕ) (b bytes form : List ℕ) (r : Option T) (v : T) → cond ((length b == n) && bytes_eq bytes form) r None ≡ Some v → (length b ≡ n) × (bytes ≡ form) × (r ≡ Some v)
checked n b bytes form r v h = elim (cases_Bool ((length b == n) && bytes_eq bytes form)) [
  | inl t ↦ let p = and_parts (length b == n) _ t in (eqb-true _ _ p.0, (bytes_eq-Decides _ _).0 p.1, rw t at h)
  | inr f ↦ absurd (none-some v (rw f at h))
]

-- in such a text they are found
pub passes : {T : Type 0} (n : ℕ) (b bytes form : List ℕ) (r : Option T) → length b ≡ n → bytes ≡ form → cond ((length b == n) && bytes_eq bytes form) r None ≡ r
passes n b bytes form r size same = rw (and_from _ _ (eq-eqb _ _ size) ((bytes_eq-Decides _ _).1 same)) refl
