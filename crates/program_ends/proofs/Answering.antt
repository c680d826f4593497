-- Lines that are answered one after another.
use Rattle.std.proofs.Common.{ℕ, ◌≡◌, ◌⊎◌, inl, inr, List, [], ◌∷◌, ◌++◌, refl, ap, sym, ◌∙◌, subst, append_assoc, append-nil, Option, None, Some}
use Rattle.byte_streams.specs.Flows.{Adds, Outflow}
use Rattle.byte_streams.proofs.Pieces.{adds_both}
use Rattle.program_ends.specs.declared.reading.Stop.{Stop}
use Rattle.program_ends.specs.declared.reading.Stop.TheVariants as stop
use Rattle.program_ends.specs.Lines.{fit}
use Rattle.program_ends.specs.Runs.{Answered, Breaks, LacksNext}
use Rattle.program_ends.specs.Steps.{Halts, HaltsAt}

pub adds_none : (taken : Option (List ℕ)) → Adds taken taken []
adds_none None = refl
adds_none (Some t) = ap (λ (l : List ℕ). Some l) (sym (append-nil t))

module _ {A : Type 0} (answers : A → Option (List ℕ) → List ℕ → A → Type 0) (lacks : A → Option (List ℕ) → A → Type 0) where
  pub answered_append : (a b c : A) (xs ys : List (List ℕ)) (v w : List ℕ) → Answered answers a xs v b → Answered answers b ys w c → Answered answers a (xs ++ ys) (v ++ w) c
  answered_append a b c [] ys v w p q = rw p.0 (subst (λ (s : A). Answered answers s ys w c) p.1 q)
  answered_append a b c (x ∷ xs) ys v w p q = (p.0, p.1, p.2 ++ w, p.3, ap (λ (t : List ℕ). t ++ w) p.4 ∙ append_assoc p.0 p.2 w, answered_append p.1 b c xs ys p.2 w p.5 q)

  pub answered_one : (a b : A) (line text : List ℕ) → answers a (fit line) text b → Answered answers a (line ∷ []) text b
  answered_one a b line text h = (text, b, [], h, sym (append-nil text), (refl, refl))

  -- behind lines whose texts were written whole
  pub breaks_after : (a b z : A) (xs ys : List (List ℕ)) (v told written : List ℕ) → Answered answers a xs v b → Breaks answers b z ys told written → Breaks answers a z (xs ++ ys) (v ++ told) (v ++ written)
  breaks_after a b z xs ys v told written p breaks = record {
    before = xs ++ breaks.before;
    line = breaks.line;
    state = breaks.state;
    whole = v ++ breaks.whole;
    text = breaks.text;
    front = breaks.front;
    lines_are = ap (λ (l : List (List ℕ)). xs ++ l) breaks.lines_are ∙ sym (append_assoc xs breaks.before (breaks.line ∷ []));
    answered = answered_append a b breaks.state xs breaks.before v breaks.whole p breaks.answered;
    last = breaks.last;
    told_is = ap (λ (t : List ℕ). v ++ t) breaks.told_is ∙ sym (append_assoc v breaks.whole breaks.text);
    begins = breaks.begins;
    written_is = ap (λ (t : List ℕ). v ++ t) breaks.written_is ∙ sym (append_assoc v breaks.whole breaks.front);
  }

  unfoldable pub halts_after : (a b z : A) (xs ys : List (List ℕ)) (v : List ℕ) (before mid after : Outflow) (why : Stop) → Answered answers a xs v b → Adds before.taken mid.taken v → Halts answers lacks b z ys mid after why → Halts answers lacks a z (xs ++ ys) before after why
  halts_after a b z xs ys v before mid after why p adds halts = record {
    done = xs ++ halts.done;
    others = halts.others;
    told = v ++ halts.told;
    last = halts.last;
    written = v ++ halts.written;
    first = ap (λ (l : List (List ℕ)). xs ++ l) halts.first ∙ sym (append_assoc xs halts.done halts.others);
    answered = answered_append a b halts.last xs halts.done v halts.told p halts.answered;
    adds = adds_both _ _ _ _ _ _ adds halts.adds refl;
    begins = (halts.begins.0, ap (λ (t : List ℕ). v ++ t) halts.begins.1 ∙ sym (append_assoc v halts.written halts.begins.0));
    no_memory = λ e. let was = halts.no_memory e in (ap (λ (t : List ℕ). v ++ t) was.0, was.1);
    write_fault = λ e. let was = halts.write_fault e in (was.0, breaks_after a b z xs halts.done v halts.told halts.written p was.1);
    reasons = halts.reasons;
  }

  -- the next of more lines
  pub lacks_within : (last : A) (others ys : List (List ℕ)) (z : A) → LacksNext lacks last others z → LacksNext lacks last (others ++ ys) z
  lacks_within last others ys z (line, more, is, at) = (line, more ++ ys, ap (λ (l : List (List ℕ)). l ++ ys) is, at)

  unfoldable pub halts_within : (a z : A) (xs ys all : List (List ℕ)) (before after : Outflow) (why : Stop) → all ≡ xs ++ ys → Halts answers lacks a z xs before after why → Halts answers lacks a z all before after why
  halts_within a z xs ys all before after why is halts = record {
    done = halts.done;
    others = halts.others ++ ys;
    told = halts.told;
    last = halts.last;
    written = halts.written;
    first = is ∙ ap (λ (l : List (List ℕ)). l ++ ys) halts.first ∙ append_assoc halts.done halts.others ys;
    answered = halts.answered;
    adds = halts.adds;
    begins = halts.begins;
    no_memory = λ e. let was = halts.no_memory e in (was.0, lacks_within halts.last halts.others ys z was.1);
    write_fault = halts.write_fault;
    reasons = halts.reasons;
  }

  -- at the next of the lines
  unfoldable pub halts_next : (a z : A) (line : List ℕ) (more : List (List ℕ)) (before after : Outflow) (why : Stop) → HaltsAt answers lacks a z (fit line) before after why → ((why ≡ stop.OutOfMemory) ⊎ (why ≡ stop.Write)) → Halts answers lacks a z (line ∷ more) before after why
  halts_next a z line more before after why at (inl memory) =
      let was = at.no_memory memory in
      record {
        done = [];
        others = line ∷ more;
        told = [];
        last = a;
        written = [];
        first = refl;
        answered = (refl, refl);
        adds = rw was.0 (adds_none before.taken);
        begins = ([], refl);
        no_memory = λ _. (refl, (line, more, refl, was.1));
        write_fault = λ e. absurd (cc);
        reasons = inl memory;
      }
  halts_next a z line more before after why at (inr write) =
      let was = at.write_fault write in
      record {
        done = line ∷ [];
        others = more;
        told = was.0;
        last = z;
        written = was.2.front;
        first = refl;
        answered = answered_one a z line was.0 was.1;
        adds = was.2.adds;
        begins = was.2.begins;
        no_memory = λ e. absurd (cc);
        write_fault = λ _. (
          refl,
          record {
            before = [];
            line = line;
            state = a;
            whole = [];
            text = was.0;
            front = was.2.front;
            lines_are = refl;
            answered = (refl, refl);
            last = was.1;
            told_is = refl;
            begins = was.2.begins;
            written_is = refl;
          },
        );
        reasons = inr write;
      }
