-- A run of the training office, by the office and the minute alone.
use Rattle.std.proofs.Common.{ℕ, ◌≡◌, inl, inr, List, [], ◌∷◌, refl, ap, sym, ◌∙◌, subst, Option, None, Some, arith}
use Rattle.std.proofs.lemmas.List.{take_all}
use Rattle.byte_streams.specs.Flows.{Inflow, Outflow, Streams, Takes, streams}
use Rattle.office_core.specs.Agreement.{ReadsAsTheBoard}
use Rattle.office_core.specs.State.{State}
use Rattle.program_ends.specs.Ends.{Telling}
use Rattle.program_ends.specs.Lines.{ended_lines, fit}
use Rattle.program_ends.specs.Runs.{Answered, Breaks, IsBroken, IsLinesRun, IsUnbegun, LacksNext}
use Rattle.program_ends.specs.declared.ends.End.TheVariants.{OutOfMemory}
use Rattle.desk_program.specs.Runs.{IsDryRun}
use Rattle.desk_program.specs.Training.{AnswersLine, Lacks, LacksLine, Replies, Trained, first_training}
use Rattle.desk_program.specs.declared.words.Dry.{Dry}
use Rattle.desk_program.proofs.OneAnswer.{HasOneAnswer, answered_once}

-- the lines are answered by the states, and the texts of the last one read as its board
told_states : (at : ℕ) (d after : Trained) (lines : List (List ℕ)) (told : List ℕ) → d.at ≡ at → ReadsAsTheBoard d.state → Answered Replies d lines told after
    → Answered (AnswersLine at) d.state lines told after.state × ReadsAsTheBoard after.state
told_states at d after [] told e reads h =
    let same : after.state ≡ d.state = ap (λ (t : Trained). t.state) h.1 in
    ((h.0, same), subst ReadsAsTheBoard (sym same) reads)
told_states at d after (line ∷ lines) told e reads h =
    let next = h.1 in
    let reply = h.3 in
    let answered : AnswersLine at d.state (fit line) h.0 next.state = subst (λ (n : ℕ). AnswersLine n d.state (fit line) h.0 next.state) e reply.answered in
    let rest = told_states at next after lines h.2 (reply.same ∙ e) reply.reads h.5 in
    ((h.0, next.state, h.2, answered, h.4, rest.0), rest.1)

lacking : (last z : Trained) (others : List (List ℕ)) → LacksNext Lacks last others z → LacksNext LacksLine last.state others z.state
lacking last z others (line, more, is, same) = (line, more, is, ap (λ (t : Trained). t.state) same)

unbegun_states : (a z : Trained) (left left' : Option (List ℕ)) (read : List ℕ) (lines : List (List ℕ)) (s : State) → a.state ≡ s → IsUnbegun a z left left' read lines → IsUnbegun s z.state left left' read lines
unbegun_states a z left left' read lines s is h = record { none = h.none; unread = h.unread; unanswered = h.unanswered; same = ap (λ (t : Trained). t.state) h.same ∙ is }

same_at : (d after : Trained) (lines : List (List ℕ)) (told : List ℕ) → Answered Replies d lines told after → after.at ≡ d.at
same_at d after [] told h = ap (λ (t : Trained). t.at) h.1
same_at d after (line ∷ lines) told h = same_at h.1 after lines h.2 h.5 ∙ h.3.same

-- where a write failed
breaks_states : (at : ℕ) (d after : Trained) (lines : List (List ℕ)) (told written : List ℕ) (s : State) → d.at ≡ at → d.state ≡ s → ReadsAsTheBoard d.state → Breaks Replies d after lines told written → Breaks (AnswersLine at) s after.state lines told written
breaks_states at d after lines told written s e is reads h =
    let front = told_states at d h.state h.before h.whole e reads h.answered in
    let same = same_at d h.state h.before h.whole h.answered in
    record {
      before = h.before;
      line = h.line;
      state = h.state.state;
      whole = h.whole;
      text = h.text;
      front = h.front;
      lines_are = h.lines_are;
      answered = subst (λ (x : State). Answered (AnswersLine at) x h.before h.whole h.state.state) is front.0;
      last = subst (λ (n : ℕ). AnswersLine n h.state.state (fit h.line) h.text after.state) (same ∙ e) h.last.answered;
      told_is = h.told_is;
      begins = h.begins;
      written_is = h.written_is;
    }

broken_states : (at : ℕ) (d after : Trained) (lines : List (List ℕ)) (told : List ℕ) (old new : Outflow) (s : State) → d.at ≡ at → d.state ≡ s → ReadsAsTheBoard d.state
    → IsBroken Replies d after lines told old new → IsBroken (AnswersLine at) s after.state lines told old new
broken_states at d after lines told old new s e is reads h = record {
  written = h.written;
  fault = h.fault;
  breaks = breaks_states at d after lines told h.written s e is reads h.breaks;
  begins = h.begins;
  once = h.once;
  adds = h.adds;
}

pub dry_run : HasOneAnswer → (dry : Dry) (limit : ℕ) (desk after : Trained) (old new : Streams) (status : ℕ)
    → desk ≡ record { state = first_training dry.office; at = dry.minute } → ReadsAsTheBoard (first_training dry.office)
    → IsLinesRun Replies Lacks limit desk after old new status → IsDryRun dry limit old new status
dry_run law dry limit desk after old new status is first run =
    let at : desk.at ≡ dry.minute = ap (λ (t : Trained). t.at) is in
    let state : desk.state ≡ first_training dry.office = ap (λ (t : Trained). t.state) is in
    let told = told_states dry.minute desk run.run.last run.run.lines run.told at (subst ReadsAsTheBoard (sym state) first) run.run.answered in
    let told_of = subst (λ (s : State). Answered (AnswersLine dry.minute) s run.run.lines run.told run.run.last.state) state told.0 in
    record {
      office = after.state;
      run = record {
        end = run.end;
        told = run.told;
        run = record {
          read = run.run.read;
          lines = run.run.lines;
          others = run.run.others;
          last = run.run.last.state;
          takes = run.run.takes;
          within = run.run.within;
          first = run.run.first;
          answered = told_of;
          whole = run.run.whole;
          ended = run.run.ended;
          read_fault = run.run.read_fault;
          too_long = run.run.too_long;
          state = λ e. ap (λ (t : Trained). t.state) (run.run.state e);
          no_memory = λ e. elim (run.run.no_memory e) [
            | inl none ↦ inl (unbegun_states desk after old.input.left new.input.left run.run.read run.run.lines (first_training dry.office) state none)
            | inr next ↦ inr (lacking run.run.last after run.run.others next)
          ];
          next = λ e. elim (run.run.next e) [
            | inl none ↦ inl (unbegun_states desk after old.input.left new.input.left run.run.read run.run.lines (first_training dry.office) state none)
            | inr more ↦ inr more
          ];
          reasons = run.run.reasons;
        };
        telling = run.telling;
        broken = λ e. broken_states dry.minute desk after run.run.lines run.told old.output new.output (first_training dry.office) at state (subst ReadsAsTheBoard (sym state) first) (run.broken e);
        rose = run.rose;
        steady = run.steady;
        read_fault = run.read_fault;
        write_fault = run.write_fault;
        no_memory = run.no_memory;
        complete = run.complete;
      };
      only = λ other last g. answered_once law dry.minute (first_training dry.office) run.run.lines other run.told last run.run.last.state g told_of;
      read_back = told.1;
    }

takes_none : (left : Option (List ℕ)) → Takes left left []
takes_none None = refl
takes_none (Some bytes) = refl

-- memory lacked for the office, and no line was read
pub unbegun : (dry : Dry) (limit : ℕ) (input : Inflow) (old new : Outflow) (status : ℕ)
    → ReadsAsTheBoard (first_training dry.office) → Telling [] old new (Some OutOfMemory) status → IsDryRun dry limit (streams input old) (streams input new) status
unbegun dry limit input old new status first telling =
    record {
      office = first_training dry.office;
      run = record {
        end = Some OutOfMemory;
        told = [];
        run = record {
          read = [];
          lines = [];
          others = [] ∷ [];
          last = first_training dry.office;
          takes = takes_none input.left;
          within = omega arith;
          first = refl;
          answered = (refl, refl);
          whole = inr ([], ap ended_lines (take_all limit [] (omega arith)));
          ended = λ e. absurd (cc);
          read_fault = λ e. absurd (cc);
          too_long = λ e. absurd (cc);
          state = λ e. refl;
          no_memory = λ e. inl (record { none = refl; unread = refl; unanswered = refl; same = refl });
          next = λ e. inl (record { none = refl; unread = refl; unanswered = refl; same = refl });
          reasons = inr (inr (inr (inr refl)));
        };
        telling = telling;
        broken = λ e. absurd (cc);
        rose = λ e. absurd (cc);
        steady = λ e. refl;
        read_fault = λ e.
            let own = telling.told.others (λ q. omega (arith, e, q)) in
            absurd (omega (arith, e, own.0));
        write_fault = λ e. (telling.told.cut e).0;
        no_memory = λ e. (refl, (telling.told.others (λ q. omega (arith, e, q))).1);
        complete = λ no_read no_write. inr (inl (telling.told.others (λ e. no_write (telling.told.cut e).0)).0);
      };
      only = λ other last g. g;
      read_back = first;
    }
