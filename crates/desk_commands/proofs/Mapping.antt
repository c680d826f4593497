-- A run over lines told over what states show, where memory never lacks for an answer.
use Rattle.std.proofs.Common.{ℕ, ◌≡◌, inl, inr, List, [], ◌∷◌, Option, ap, ◌∙◌}
use Rattle.byte_streams.specs.Flows.{Outflow, Streams}
use Rattle.program_ends.proofs.Mapping.{ends_at_last}
use Rattle.program_ends.specs.Runs.{Answered, Breaks, IsBroken, IsLinesRun, IsUnbegun}

-- what no answer changes
module _ {A N : Type 0} (name : A → N) (under : A → Option (List ℕ) → List ℕ → A → Type 0) (keeps : (x : A) (line : Option (List ℕ)) (text : List ℕ) (y : A) → under x line text y → name y ≡ name x)
    (never : A → Option (List ℕ) → A → Type 0) (no : (x : A) (line : Option (List ℕ)) (y : A) → never x line y → ⊥) where
  same_name : (a z : A) (lines : List (List ℕ)) (told : List ℕ) → Answered under a lines told z → name z ≡ name a
  same_name a z [] told h = ap name h.1
  same_name a z (line ∷ lines) told h = same_name h.1 z lines h.2 h.5 ∙ keeps a _ h.0 h.1 h.3

  pub last_name : (limit : ℕ) (a z : A) (before after : Streams) (status : ℕ) → IsLinesRun under never limit a z before after status → name z ≡ name a
  last_name limit a z before after status run =
      ap name (ends_at_last under never no limit a z before.input.left after.input.left run.end run.told run.run) ∙ same_name a run.run.last run.run.lines run.told run.run.answered

module _ {A B : Type 0} (f : A → B) (under : A → Option (List ℕ) → List ℕ → A → Type 0) (answers : B → Option (List ℕ) → List ℕ → B → Type 0)
    (says : (x : A) (line : Option (List ℕ)) (text : List ℕ) (y : A) → under x line text y → answers (f x) line text (f y))
    (never : A → Option (List ℕ) → A → Type 0) (no : (x : A) (line : Option (List ℕ)) (y : A) → never x line y → ⊥) where
  answered : (a z : A) (lines : List (List ℕ)) (told : List ℕ) → Answered under a lines told z → Answered answers (f a) lines told (f z)
  answered a z [] told h = (h.0, ap f h.1)
  answered a z (line ∷ lines) told h = (h.0, f h.1, h.2, says a _ h.0 h.1 h.3, h.4, answered h.1 z lines h.2 h.5)

  unbegun : (a z : A) (left left' : Option (List ℕ)) (read : List ℕ) (lines : List (List ℕ)) → IsUnbegun a z left left' read lines → IsUnbegun (f a) (f z) left left' read lines
  unbegun a z left left' read lines h = record { none = h.none; unread = h.unread; unanswered = h.unanswered; same = ap f h.same }

  breaks : (a z : A) (lines : List (List ℕ)) (told written : List ℕ) → Breaks under a z lines told written → Breaks answers (f a) (f z) lines told written
  breaks a z lines told written h = record {
    before = h.before;
    line = h.line;
    state = f h.state;
    whole = h.whole;
    text = h.text;
    front = h.front;
    lines_are = h.lines_are;
    answered = answered a h.state h.before h.whole h.answered;
    last = says h.state _ h.text z h.last;
    told_is = h.told_is;
    begins = h.begins;
    written_is = h.written_is;
  }

  broken : (a z : A) (lines : List (List ℕ)) (told : List ℕ) (before after : Outflow) → IsBroken under a z lines told before after → IsBroken answers (f a) (f z) lines told before after
  broken a z lines told before after h = record {
    written = h.written;
    fault = h.fault;
    breaks = breaks a z lines told h.written h.breaks;
    begins = h.begins;
    once = h.once;
    adds = h.adds;
  }

  pub shown : (limit : ℕ) (a z : A) (before after : Streams) (status : ℕ)
      → IsLinesRun under never limit a z before after status
      → IsLinesRun answers (λ (s : B) (line : Option (List ℕ)) (y : B). ⊥) limit (f a) (f z) before after status
  shown limit a z before after status run = record {
    end = run.end;
    told = run.told;
    run = record {
      read = run.run.read;
      lines = run.run.lines;
      others = run.run.others;
      last = f run.run.last;
      takes = run.run.takes;
      within = run.run.within;
      first = run.run.first;
      answered = answered a run.run.last run.run.lines run.told run.run.answered;
      ended = run.run.ended;
      read_fault = run.run.read_fault;
      too_long = run.run.too_long;
      state = λ e. ap f (run.run.state e);
      whole = run.run.whole;
      no_memory = λ e. elim (run.run.no_memory e) [
        | inl none ↦ inl (unbegun a z before.input.left after.input.left run.run.read run.run.lines none)
        | inr next ↦ absurd (no run.run.last _ z next.3)
      ];
      next = λ e. elim (run.run.next e) [
        | inl none ↦ inl (unbegun a z before.input.left after.input.left run.run.read run.run.lines none)
        | inr more ↦ inr more
      ];
      reasons = run.run.reasons;
    };
    telling = run.telling;
    broken = λ e. broken a z run.run.lines run.told before.output after.output (run.broken e);
    rose = run.rose;
    steady = run.steady;
    read_fault = run.read_fault;
    write_fault = run.write_fault;
    no_memory = run.no_memory;
    complete = run.complete;
  }
