-- A chunk of bytes, fed byte by byte.
use Rattle.std.proofs.Common.{ℕ, ◌≡◌, ◌≢◌, ◌<◌, ◌+◌, ◌==◌, List, [], ◌∷◌, ◌++◌, length, get_or, drop, refl, ap, sym, ◌∙◌, append_assoc, append-nil, Option, false, inl, inr}
use Rattle.std.proofs.lemmas.Bool.Decides.{eqb_tells}
use Rattle.std.proofs.lemmas.List.{drop_more}
use Rattle.byte_streams.specs.Flows.{Adds, Outflow}
use Rattle.byte_streams.proofs.Pieces.{adds_both}
use Rattle.program_ends.specs.declared.reading.Stop.{Stop}
use Rattle.program_ends.specs.Lines.{Pending, pending_of, lines_from, rest_from, without_return, fit}
use Rattle.program_ends.specs.Runs.{Answered}
use Rattle.program_ends.specs.Steps.{Feeds, Halts, HaltsAt, Replies}
use Rattle.program_ends.proofs.Answering.{adds_none, answered_append, answered_one, halts_after, halts_next}

-- i bytes of a chunk were fed, and this has come of a line: the lines that ended in them are answered, and the others are those of what is left
pub record Fed {A : Type 0} (answers : A → Option (List ℕ) → List ℕ → A → Type 0) (a z : A) (begun chunk : List ℕ) (i : ℕ) (line : List ℕ) (before after : Outflow) : Type 0 where
  pub done : List (List ℕ)
  pub written : List ℕ
  pub adds : Adds before.taken after.taken written
  pub answered : Answered answers a done written z
  pub lines : lines_from begun chunk ≡ done ++ lines_from line (drop i chunk)
  pub rest : rest_from begun chunk ≡ rest_from line (drop i chunk)

eqb_no : (a b : ℕ) → a ≢ b → (a == b) ≡ false
eqb_no a b ne = elim (eqb_tells a b) [ inl h ↦ absurd (ne h.1) | inr h ↦ h.0 ]

module _ {A : Type 0} (answers : A → Option (List ℕ) → List ℕ → A → Type 0) (lacks : A → Option (List ℕ) → A → Type 0) (a : A) (begun chunk : List ℕ) (before : Outflow) where
  pub fed_none : Fed answers a a begun chunk 0 begun before before
  fed_none = record { done = []; written = []; adds = adds_none before.taken; answered = (refl, refl); lines = refl; rest = refl }

  module _ (z : A) (i : ℕ) (line : List ℕ) (mid : Outflow) where
    left_end : i < length chunk → get_or chunk i 0 ≡ 10 → drop i chunk ≡ 10 ∷ drop (i + 1) chunk
    left_end lt byte = drop_more chunk i 0 lt ∙ ap (λ (c : ℕ). c ∷ drop (i + 1) chunk) byte

    pub fed_end : Fed answers a z begun chunk i line before mid → i < length chunk → get_or chunk i 0 ≡ 10 → (y : A) (new : Outflow) → Replies answers z y (fit (without_return line)) mid new → Fed answers a y begun chunk (i + 1) [] before new
    fed_end fed lt byte y new told =
        let left = left_end lt byte in
        let ended = without_return line in
        record {
          done = fed.done ++ ended ∷ [];
          written = fed.written ++ told.text;
          adds = adds_both _ _ _ _ _ _ fed.adds told.adds refl;
          answered = answered_append answers lacks a z y fed.done (ended ∷ []) fed.written told.text fed.answered (answered_one answers lacks z y ended told.text told.answered);
          lines = fed.lines ∙ ap (λ (l : List ℕ). fed.done ++ lines_from line l) left ∙ sym (append_assoc fed.done (ended ∷ []) (lines_from [] (drop (i + 1) chunk)));
          rest = fed.rest ∙ ap (λ (l : List ℕ). rest_from line l) left;
        }

    pub fed_byte : Fed answers a z begun chunk i line before mid → i < length chunk → get_or chunk i 0 ≢ 10 → Fed answers a z begun chunk (i + 1) (line ++ get_or chunk i 0 ∷ []) before mid
    fed_byte fed lt byte =
        let left : drop i chunk ≡ get_or chunk i 0 ∷ drop (i + 1) chunk = drop_more chunk i 0 lt in
        let no_end : (get_or chunk i 0 == 10) ≡ false = eqb_no _ _ byte in
        record {
          done = fed.done;
          written = fed.written;
          adds = fed.adds;
          answered = fed.answered;
          lines = fed.lines ∙ rw (left, no_end) refl;
          rest = fed.rest ∙ rw (left, no_end) refl;
        }

    -- the next line was not answered
    pub fed_halts : Fed answers a z begun chunk i line before mid → i < length chunk → get_or chunk i 0 ≡ 10 → (y : A) (new : Outflow) (why : Stop) → HaltsAt answers lacks z y (fit (without_return line)) mid new why → Halts answers lacks a y (lines_from begun chunk) before new why
    fed_halts fed lt byte y new why at =
        let more = lines_from [] (drop (i + 1) chunk) in
        let lines : lines_from begun chunk ≡ fed.done ++ without_return line ∷ more = fed.lines ∙ ap (λ (l : List ℕ). fed.done ++ lines_from line l) (left_end lt byte) in
        rw lines (halts_after answers lacks a z y fed.done (without_return line ∷ more) fed.written before mid new why fed.answered fed.adds (halts_next answers lacks z y (without_return line) more mid new why at at.reasons))

    -- the whole chunk was fed
    pub fed_all : Fed answers a z begun chunk i line before mid → drop i chunk ≡ [] → (kept : Pending) → kept ≡ pending_of line → Feeds answers a z begun chunk kept before mid
    fed_all fed none kept is =
        let lines : lines_from begun chunk ≡ fed.done = fed.lines ∙ ap (λ (l : List ℕ). fed.done ++ lines_from line l) none ∙ append-nil fed.done in
        record {
          written = fed.written;
          adds = fed.adds;
          answered = rw lines fed.answered;
          rest = is ∙ ap pending_of (sym (fed.rest ∙ ap (λ (l : List ℕ). rest_from line l) none));
        }
