-- with those that are left, the zones become those with all
use Rattle.std.proofs.Common.{◌≡◌, drop}
use Rattle.action_planner.specs.Spoken.{add_zones}
use Rattle.action_planner.proofs.spoken.add_zones.Given as goal

abbrev pub invariant-loop-zone : goal.invariant-loop-zone
invariant-loop-zone l = add_zones l.held.keys (drop l.zone-index l.zones) ≡ add_zones l.initial.held.keys l.zones
