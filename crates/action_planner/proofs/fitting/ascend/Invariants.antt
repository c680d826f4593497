-- the zones that are left decide as all do
use Rattle.std.proofs.Common.{◌≡◌, drop}
use Rattle.action_planner.specs.Fitting.{ascend}
use Rattle.action_planner.proofs.fitting.ascend.Given as goal

abbrev pub invariant-loop-place : goal.invariant-loop-place
invariant-loop-place l = ascend (drop l.place l.zones) ≡ ascend l.zones
