-- the texts that are left decide as all do
use Rattle.std.proofs.Common.{◌≡◌, drop}
use Rattle.action_planner.specs.Corrections.{given_for}
use Rattle.action_planner.proofs.correcting.given_for.Given as goal

abbrev pub invariant-loop-told : goal.invariant-loop-told
invariant-loop-told l = given_for (drop l.told-index l.texts) l.event ≡ given_for l.texts l.event
