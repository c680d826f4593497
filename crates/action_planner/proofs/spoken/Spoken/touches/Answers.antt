-- the zones that are held are those that are touched
use Rattle.std.proofs.Common.{◌∙◌, ap}
use Rattle.std.specs.List.{list_any}
use Rattle.action_planner.specs.Placed.{touches}
use Rattle.action_planner.proofs.SpokenLemmas.{zone_touched}
use Rattle.action_planner.proofs.spoken.Spoken.touches.Goals as goal

pub returns : goal.returns
returns c =
    c.contains.ensures
    ∙ zone_touched c.args.zone.now c.self.inside.zones.keys c.self.inside.ps.now c.self.invariant.touched
    ∙ ap (list_any (touches c.args.zone.now)) c.self.view_is
