-- with the intents that are left, the spots become those of all
use Rattle.std.proofs.Common.{◌≡◌, [], drop}
use Rattle.action_planner.specs.Spoken.{spots_from}
use Rattle.action_planner.proofs.spoken.spots_of.Given as goal

abbrev pub invariant-loop-p : goal.invariant-loop-p
invariant-loop-p l = spots_from l.spots.entries (drop l.p-index l.ps) ≡ spots_from [] l.ps
