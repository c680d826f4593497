use Rattle.std.proofs.Common.{rules, ap, ◌∙◌}
use Rattle.turn_lock.specs.Passes.{base_in}
use Rattle.turn_lock.proofs.Parts.{has_base}
use Rattle.turn_lock.proofs.lock.TurnLock.turn.Goals as goal

pub take-value-requires : goal.take-value-requires
take-value-requires g c =
    let live = c.pass.inside.live in
    (search rules, search rules, search rules, (base_in _ live, ap (λ z. z.0.base) c.draw-ticket.ensures.2 ∙ has_base _ live))
