-- What one call makes of a link: it goes on, or it ends.
use Rattle.std.proofs.Common.{ℕ, ◌≡◌, ◌≤◌, inl, inr, Bool, true, List, [], ◌++◌, drop, refl, ap, sym, ◌∙◌, subst, arith, Option, None, Some}
use Rattle.std.proofs.lemmas.Bool.{false≢true}
use Rattle.byte_streams.specs.Flows.{Inflow, Outflow}
use Rattle.desk_links.specs.Links.{LinkState}
use Rattle.desk_traits.specs.Faults.{Rose}
use Rattle.byte_streams.specs.Flows.{Adds, Takes}
use Rattle.office_types.specs.declared.refusal.Refusal.{Refusal}
use Rattle.warn_http.specs.Calls.{Called, IsCall, IsRefused, LiesIn}
use Rattle.warn_http.specs.declared.read.Call.{Call}
use Rattle.warn_http.specs.declared.read.Call.TheVariants.{Post, Look}
use Rattle.warn_serve.specs.Answers.{refused_answer}
use Rattle.warn_serve.specs.Links.{EndsSo, HasCount, HasEnded, HasFailed, IsLater}
use Rattle.warn_serve.specs.Steps.{IsUnwritten, Sends, ServesNext, StopsSo, WritesAlone}
use Rattle.warn_serve.specs.declared.links.LinkEnd.{LinkEnd}
use Rattle.warn_serve.specs.declared.links.LinkEnd.TheVariants.{Closed, Cut, Spent, LinkFault, OutOfMemory}
use Rattle.warn_serve.proofs.Going.{adds_none}

-- a body that lies in a call lies in the bytes of which it is a front
pub lies_in : (used size : ℕ) (call : Call) → used ≤ size → LiesIn used call → LiesIn size call
lies_in used size (Post span) within lies = (lies.0, (let l = lies.1 in omega arith))
lies_in used size (Look query) within lies = tt

taken_kept : (old new : LinkState) → IsUnwritten old new → new.output.taken ≡ old.output.taken
taken_kept old new a = ap (λ (o : Outflow). o.taken) a.output

writes_kept : (old new : LinkState) → IsUnwritten old new → new.output.faults ≡ old.output.faults
writes_kept old new a = ap (λ (o : Outflow). o.faults) a.output

left_kept : (old new : LinkState) (written : List ℕ) → WritesAlone old new written → new.input.left ≡ old.input.left
left_kept old new written b = ap (λ (i : Inflow). i.left) b.input

reads_kept : (old new : LinkState) (written : List ℕ) → WritesAlone old new written → new.input.faults ≡ old.input.faults
reads_kept old new written b = ap (λ (i : Inflow). i.faults) b.input

taken_alone : (old mid new : LinkState) (written : List ℕ) → IsUnwritten old mid → WritesAlone mid new written → Adds old.output.taken new.output.taken written
taken_alone old mid new written a b = subst (λ (t : Option (List ℕ)). Adds t new.output.taken written) (taken_kept old mid a) b.adds

left_alone : (old mid new : LinkState) (read written : List ℕ) → Takes old.input.left mid.input.left read → WritesAlone mid new written → Takes old.input.left new.input.left read
left_alone old mid new read written t b = subst (λ (l : Option (List ℕ)). Takes old.input.left l read) (sym (left_kept mid new written b)) t

later_alone : (old mid new : LinkState) (written : List ℕ) → IsUnwritten old mid → WritesAlone mid new written → IsLater old new
later_alone old mid new written a b = record {
  came = b.came ∙ a.came;
  reads = (let r = a.later in let s = reads_kept mid new written b in omega arith);
  writes = (let w = writes_kept old mid a in let l = b.later in omega arith);
}

failed_alone : (old mid new : LinkState) → IsUnwritten old mid → HasFailed mid new → HasFailed old new
failed_alone old mid new a failed = let r = a.later in let w = writes_kept old mid a in omega arith

-- a read failed
pub failed_read : (old new : LinkState) → IsUnwritten old new → Rose old.input.faults new.input.faults → HasFailed old new
failed_read old new a rose = let w = writes_kept old new a in omega arith

-- a write failed
pub failed_write : (old new : LinkState) → new.input ≡ old.input → Rose old.output.faults new.output.faults → HasFailed old new
failed_write old new kept rose = let reads = ap (λ (i : Inflow). i.faults) kept in omega arith

-- what is never lost may be lost as well
pub sends_anyway : (may : Type 0) (old new : LinkState) (answer : List ℕ) (last : Bool) (result : Option LinkEnd) → Sends ⊥ old new answer last result → Sends may old new answer last result
sends_anyway may old new answer last None sent = sent
sends_anyway may old new answer last (Some Closed) sent = sent
sends_anyway may old new answer last (Some Cut) sent = absurd sent
sends_anyway may old new answer last (Some Spent) sent = absurd sent
sends_anyway may old new answer last (Some LinkFault) sent = sent
sends_anyway may old new answer last (Some OutOfMemory) sent = absurd sent.0

module _ {P : Type 0} (answers lost : Called → P → P → List ℕ → Type 0) where
  -- the link ended, and nothing more was judged or written
  pub ends_at : (old new : LinkState) (pass : P) (held inbox read : List ℕ) (end : LinkEnd)
      → inbox ≡ held ++ read → Takes old.input.left new.input.left read → IsUnwritten old new → HasCount end 0
      → EndsSo answers lost (HasEnded new) (HasFailed old new) inbox pass pass [] end → StopsSo answers lost old new pass pass held end
  ends_at old new pass held inbox read end stands takes quiet early ends = record {
    read = read;
    takes = takes;
    tail = [];
    adds = subst (λ (t : Option (List ℕ)). Adds t new.output.taken []) (taken_kept old new quiet) (adds_none new.output.taken);
    early = early;
    ends = subst (λ (b : List ℕ). EndsSo answers lost (HasEnded new) (HasFailed old new) b pass pass [] end) stands ends;
    later = record { came = quiet.came; reads = quiet.later; writes = (let w = writes_kept old new quiet in omega arith) };
  }

  -- an answer was sent to a call
  pub call_sent : (may : Type 0) (old mid new : LinkState) (pass pass' : P) (held inbox held' read : List ℕ) (c : Called) (answer : List ℕ) (result : Option LinkEnd)
      → inbox ≡ held ++ read → Takes old.input.left mid.input.left read → IsUnwritten old mid → mid.input.faults ≡ old.input.faults
      → IsCall inbox c → answers c pass pass' answer → (may → lost c pass pass' answer) → held' ≡ drop c.used inbox
      → Sends may mid new answer c.last result → ServesNext answers lost old new pass pass' held held' result
  call_sent may old mid new pass pass' held inbox held' read c answer None stands takes quiet steady call judged loses behind sent = record {
    read = read;
    takes = left_alone old mid new read answer takes sent.1;
    answer = answer;
    one = record { called = c; stands = subst (λ (b : List ℕ). IsCall b c) stands call; judged = judged };
    stays_open = sent.0;
    adds = taken_alone old mid new answer quiet sent.1;
    behind = behind ∙ ap (drop c.used) stands;
    steady = record { came = sent.1.came ∙ quiet.came; reads = reads_kept mid new answer sent.1 ∙ steady; writes = sent.2 ∙ writes_kept old mid quiet };
  }
  call_sent may old mid new pass pass' held inbox held' read c answer (Some Closed) stands takes quiet steady call judged loses behind sent = record {
    read = read;
    takes = left_alone old mid new read answer takes sent.1;
    tail = answer;
    adds = taken_alone old mid new answer quiet sent.1;
    early = omega arith;
    ends = inr (inl (record { last_call = record { called = c; stands = subst (λ (b : List ℕ). IsCall b c) stands call; judged = judged }; closes = sent.0 }));
    later = later_alone old mid new answer quiet sent.1;
  }
  call_sent may old mid new pass pass' held inbox held' read c answer (Some Cut) stands takes quiet steady call judged loses behind sent = absurd sent
  call_sent may old mid new pass pass' held inbox held' read c answer (Some Spent) stands takes quiet steady call judged loses behind sent = absurd sent
  call_sent may old mid new pass pass' held inbox held' read c answer (Some LinkFault) stands takes quiet steady call judged loses behind sent = record {
    read = read;
    takes = left_alone old mid new read sent.1 takes sent.3;
    tail = sent.1;
    adds = taken_alone old mid new sent.1 quiet sent.3;
    early = omega arith;
    ends = (failed_alone old mid new quiet sent.0, inr (record { answer = answer; front = sent.2; whose = inl (record { called = c; stands = subst (λ (b : List ℕ). IsCall b c) stands call; judged = judged }) }));
    later = later_alone old mid new sent.1 quiet sent.3;
  }
  call_sent may old mid new pass pass' held inbox held' read c answer (Some OutOfMemory) stands takes quiet steady call judged loses behind sent = record {
    read = read;
    takes = left_alone old mid new read [] takes sent.1;
    tail = [];
    adds = taken_alone old mid new [] quiet sent.1;
    early = omega arith;
    ends = inr (record { answer = answer; next_call = record { called = c; stands = subst (λ (b : List ℕ). IsCall b c) stands call; judged = loses sent.0 }; unwritten = refl });
    later = later_alone old mid new [] quiet sent.1;
  }

  -- a refusal was sent
  pub refusal_sent : (may : Type 0) (old mid new : LinkState) (pass : P) (held inbox held' read : List ℕ) (broken : Refusal) (result : Option LinkEnd)
      → inbox ≡ held ++ read → Takes old.input.left mid.input.left read → IsUnwritten old mid → IsRefused inbox broken
      → Sends may mid new (refused_answer broken true) true result → ServesNext answers lost old new pass pass held held' result
  refusal_sent may old mid new pass held inbox held' read broken None stands takes quiet refused sent = absurd (false≢true (sym sent.0))
  refusal_sent may old mid new pass held inbox held' read broken (Some Closed) stands takes quiet refused sent = record {
    read = read;
    takes = left_alone old mid new read (refused_answer broken true) takes sent.1;
    tail = refused_answer broken true;
    adds = taken_alone old mid new (refused_answer broken true) quiet sent.1;
    early = omega arith;
    ends = inr (inr (record { broken = broken; refused = subst (λ (b : List ℕ). IsRefused b broken) stands refused; told = refl; unused = refl }));
    later = later_alone old mid new (refused_answer broken true) quiet sent.1;
  }
  refusal_sent may old mid new pass held inbox held' read broken (Some Cut) stands takes quiet refused sent = absurd sent
  refusal_sent may old mid new pass held inbox held' read broken (Some Spent) stands takes quiet refused sent = absurd sent
  refusal_sent may old mid new pass held inbox held' read broken (Some LinkFault) stands takes quiet refused sent = record {
    read = read;
    takes = left_alone old mid new read sent.1 takes sent.3;
    tail = sent.1;
    adds = taken_alone old mid new sent.1 quiet sent.3;
    early = omega arith;
    ends = (failed_alone old mid new quiet sent.0, inr (record { answer = refused_answer broken true; front = sent.2; whose = inr (broken, subst (λ (b : List ℕ). IsRefused b broken) stands refused, refl, refl) }));
    later = later_alone old mid new sent.1 quiet sent.3;
  }
  refusal_sent may old mid new pass held inbox held' read broken (Some OutOfMemory) stands takes quiet refused sent = record {
    read = read;
    takes = left_alone old mid new read [] takes sent.1;
    tail = [];
    adds = taken_alone old mid new [] quiet sent.1;
    early = omega arith;
    ends = inl (record { unused = refl; unwritten = refl });
    later = later_alone old mid new [] quiet sent.1;
  }
