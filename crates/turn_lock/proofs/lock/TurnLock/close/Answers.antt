use Rattle.std.proofs.Common.{refl, sym, subst, ap, ◌∙◌}
use Rattle.std.specs.Prelude.{IsSome}
use Rattle.turn_lock.specs.Passes.{PassRecord, Closes}
use Rattle.turn_lock.proofs.StepLemmas.{gives_out, gives_value}
use Rattle.turn_lock.proofs.lock.TurnLock.close.Goals as goal

pub unwrap-requires : goal.unwrap-requires
unwrap-requires g c =
    let seat = c.pass.inside.seat in
    let out = gives_out g.row.T.Denot g.row.T-Base.Denot g.row.T-Entry.Denot g.T.Storied.base g.T.Storied.story _ _ c.take-slot.result seat.id seat.me.0
    c.close_with-closed.ensures.values.2 c.take-slot.ensures.value c.pass.invariant.0 (ap (λ p. p.shares) c.pass.view_is ∙ c.requires.shares) seat.table_id c.pass.inside.live in
    subst IsSome (sym out.1) refl

pub returns : goal.returns
returns g c =
    let seat = c.pass.inside.seat in
    let out = gives_value g.row.T.Denot g.row.T-Base.Denot g.row.T-Entry.Denot g.T.Storied.base g.T.Storied.story _ _ c.take-slot.result c.unwrap.result seat.id seat.me.0
    c.close_with-closed.ensures.values.2 c.take-slot.ensures.value c.unwrap.ensures c.pass.invariant.0 (ap (λ p. p.shares) c.pass.view_is ∙ c.requires.shares) seat.table_id c.pass.inside.live in
    subst (λ (p : PassRecord g.row.T-Base.Denot g.row.T-Entry.Denot). Closes p (g.T.Storied.base c.unwrap.result) (g.T.Storied.story c.unwrap.result)) c.pass.view_is out
