-- the zones that are left decide as all do
use Rattle.std.proofs.Common.{◌≡◌, drop, find}
use Rattle.action_planner.specs.Fitting.{of_other_kind}
use Rattle.action_planner.proofs.fitting.first_other.Given as goal

abbrev pub invariant-loop-zone : goal.invariant-loop-zone
invariant-loop-zone l = find (of_other_kind l.known) (drop l.zone-index l.zones) ≡ find (of_other_kind l.known) l.zones
