-- with the zones that are left, the spots become those of all zones
use Rattle.std.proofs.Common.{◌≡◌, drop}
use Rattle.action_planner.specs.Spoken.{add_spots}
use Rattle.action_planner.proofs.spoken.add_spots.Given as goal

abbrev pub invariant-loop-zone : goal.invariant-loop-zone
invariant-loop-zone l = add_spots l.spots.entries l.p (drop l.zone-index l.zone-items) ≡ add_spots l.initial.spots.entries l.p l.zone-items
