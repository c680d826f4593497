-- Spans laid end to end are the text from the first heading on.
use Rattle.std.proofs.Common.{◌≡◌, ℕ, ◌+◌, ◌≤◌, ◌==◌, List, [], ◌∷◌, ◌++◌, length, take, drop, refl, ap, sym, ◌∙◌, arith, append-nil, length-drop, inl, inr}
use Rattle.std.specs.Prelude.{is_some}
use Rattle.std.specs.List.{slice_range}
use Rattle.std.proofs.lemmas.Bool.{cases_Bool}
use Rattle.std.proofs.lemmas.List.Folds.{drop_split}
use Rattle.std.proofs.Math.Seq.{take-length}
use Rattle.product_frame.specs.Text.{starts, starts_from}
use Rattle.product_frame.specs.Parts.{heading_of}
use Rattle.product_frame.specs.Frames.{line_at}
use Rattle.product_frame.specs.Splitting.{headings_in, spans_to, spans_of, laid, from_first}

-- each place is at least the one before it
abbrev pub Rises : ℕ → List ℕ → Type 0
Rises low [] = Unit {0}
Rises low (s ∷ places) = (low ≤ s) × Rises s places

lower : (low high : ℕ) (places : List ℕ) → low ≤ high → Rises high places → Rises low places
lower low high [] le r = tt
lower low high (s ∷ places) le r = let far : high ≤ s = r.0 in (omega arith, r.1)

starts_rise : (at : ℕ) (bytes : List ℕ) → Rises at (starts_from at bytes)
starts_rise at [] = tt
starts_rise at (c ∷ bytes) =
    elim (cases_Bool (c == 10)) [
      | inl e ↦ rw e (omega arith, starts_rise (at + 1) bytes)
      | inr e ↦ rw e (lower at (at + 1) (starts_from (at + 1) bytes) (omega arith) (starts_rise (at + 1) bytes))
    ]

headings_rise : (bytes : List ℕ) (low : ℕ) (places : List ℕ) → Rises low places → Rises low (headings_in bytes places)
headings_rise bytes low [] r = tt
headings_rise bytes low (s ∷ places) r =
    elim (cases_Bool (is_some (heading_of (line_at bytes s)))) [
      | inl e ↦ rw e (r.0, headings_rise bytes s places r.1)
      | inr e ↦ rw e (headings_rise bytes low places (lower low s places r.0 r.1))
    ]

laid_from : (bytes : List ℕ) (s : ℕ) (places : List ℕ) → Rises s places → laid bytes (spans_to (length bytes) (s ∷ places)) ≡ drop s bytes
laid_from bytes s [] r = append-nil (slice_range bytes s (length bytes)) ∙ ap (λ (n : ℕ). take n (drop s bytes)) (sym (length-drop s bytes)) ∙ take-length (drop s bytes)
laid_from bytes s (t ∷ places) r = ap (λ (x : List ℕ). slice_range bytes s t ++ x) (laid_from bytes t places r.1) ∙ sym (drop_split bytes s t r.0)

laid_all : (bytes places : List ℕ) → Rises 0 places → laid bytes (spans_to (length bytes) places) ≡ from_first bytes places
laid_all bytes [] r = refl
laid_all bytes (s ∷ places) r = laid_from bytes s places r.1

pub laid_end_to_end : (bytes : List ℕ) → laid bytes (spans_of bytes) ≡ from_first bytes (headings_in bytes (starts bytes))
unfolding spans_of
laid_end_to_end bytes = laid_all bytes (headings_in bytes (starts bytes)) (headings_rise bytes 0 (starts bytes) (omega arith, starts_rise 0 bytes))
