use Rattle.std.proofs.Common.{rules, sym, subst, ◌≤◌}
use Rattle.turn_lock.specs.Passes.{PassRecord}
use Rattle.turn_lock.proofs.Parts.{has_base}
use Rattle.turn_lock.proofs.StepLemmas.{splits}
use Rattle.turn_lock.proofs.lock.TurnLock.split.Goals as goal

pub split_seat-seat-requires : goal.split_seat-seat-requires
split_seat-seat-requires g c =
    let two = subst (λ (p : PassRecord g.row.T-Base.Denot g.row.T-Entry.Denot). 2 ≤ p.shares) (sym c.pass.view_is) c.requires.shares in
    (search rules, search rules, splits g.row.T.Denot g.row.T-Base.Denot g.row.T-Entry.Denot g.T.Storied.base g.T.Storied.story _ _ _ (has_base _ c.pass.inside.live) two)
