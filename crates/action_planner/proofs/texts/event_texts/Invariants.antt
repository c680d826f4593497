-- the texts told so far are those of the events so far
use Rattle.std.proofs.Common.{◌≡◌}
use Rattle.action_planner.specs.Texts.{event_texts}
use Rattle.action_planner.proofs.texts.event_texts.Given as goal

abbrev pub invariant-loop-event : goal.invariant-loop-event
invariant-loop-event l = l.told ≡ event_texts l.ps l.yielded
