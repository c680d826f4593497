-- the events are those of the lines from this place on
use Rattle.std.proofs.Common.{◌≡◌, drop}
use Rattle.action_planner.specs.Texts.{events_of}
use Rattle.action_planner.proofs.texts.events_of.Given as goal

abbrev pub invariant-loop-place : goal.invariant-loop-place
invariant-loop-place l = l.events.keys ≡ events_of (drop l.place l.lines)
