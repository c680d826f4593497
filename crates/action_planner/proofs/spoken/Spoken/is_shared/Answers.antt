-- those at the spot tell whether one is at another place
use Rattle.std.proofs.Common.{◌∙◌, ap}
use Rattle.action_planner.specs.Offences.{is_shared}
use Rattle.action_planner.specs.Placed.{Placed}
use Rattle.action_planner.proofs.spoken.Spoken.is_shared.Goals as goal

pub returns : goal.returns
returns c = c.has_other.ensures ∙ c.intents_on.ensures.others c.p.inside.place ∙ ap (λ (p : Placed). is_shared c.args.self.now p c.args.zone.now) c.p.view_is
