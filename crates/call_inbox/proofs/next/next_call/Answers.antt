use Rattle.std.proofs.Common.{List, ℕ, sym, subst}
use Rattle.std.specs.Prelude.{⊤}
use Rattle.desk_traits.specs.Faults.{Rose}
use Rattle.warn_http.specs.Calls.{HasNoWholeCall}
use Rattle.call_inbox.specs.Next.{Tells}
use Rattle.call_inbox.proofs.Steps.{tells_more}
use Rattle.call_inbox.proofs.next.next_call.Goals as goal

pub returns-in-Some-clause-next : goal.returns-in-Some-clause-next
returns-in-Some-clause-next g c =
    let next = c.in-Some.next in
    tells_more c.loop-next.inbox _ _ _ _ next (λ none. absurd none) (λ none. absurd none)
    (subst (λ (b : List ℕ). Tells b ⊥ ⊥ next) c.as_slice.ensures c.in-Some.ensures.some)

pub returns-in-Ok-eq0-clause-next : goal.returns-in-Ok-eq0-clause-next
returns-in-Ok-eq0-clause-next g c =
    let next = c.next_at_end.result in
    tells_more c.fill.new.self _ _ _ _ next (λ ended. c.in-Ok-eq0.ensures.end c.in-Ok-eq0.field-0-test) (λ none. absurd none)
    (subst (λ (b : List ℕ). Tells b ⊤ ⊥ next) c.as_slice-in-Ok-eq0.ensures c.next_at_end.ensures)

pub returns-in-Err-clause-next : goal.returns-in-Err-clause-next
returns-in-Err-clause-next g c =
    let state = g.L.Link.state in
    let before = subst HasNoWholeCall c.as_slice.ensures c.in_default.ensures.none in (
      subst (λ (n : ℕ). Rose n (state c.fill.new.link).input.faults) c.loop-next.invariant.steady c.in-Err.ensures.cause.failed,
      subst HasNoWholeCall (sym c.in-Err.ensures.unread) before,
    )
