-- with the intents that are left, the zones become those of all
use Rattle.std.proofs.Common.{◌≡◌, [], drop}
use Rattle.action_planner.specs.Spoken.{zones_from}
use Rattle.action_planner.proofs.spoken.zones_touched.Given as goal

abbrev pub invariant-loop-p : goal.invariant-loop-p
invariant-loop-p l = zones_from l.zones.keys (drop l.p-index l.ps) ≡ zones_from [] l.ps
