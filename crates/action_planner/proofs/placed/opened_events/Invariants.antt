-- the events so far, and those of what is left, are those of all
use Rattle.std.proofs.Common.{◌≡◌, ◌++◌, drop}
use Rattle.action_planner.specs.Placed.{opened}
use Rattle.action_planner.proofs.placed.opened_events.Given as goal

abbrev pub invariant-loop-p : goal.invariant-loop-p
invariant-loop-p l = l.events.items ++ opened (drop l.p-index l.ps) ≡ opened l.ps
