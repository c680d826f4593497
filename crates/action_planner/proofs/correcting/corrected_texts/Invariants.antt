-- the texts told so far are those of the events so far
use Rattle.std.proofs.Common.{◌≡◌}
use Rattle.action_planner.specs.Corrections.{corrected_texts}
use Rattle.action_planner.proofs.correcting.corrected_texts.Given as goal

abbrev pub invariant-loop-event : goal.invariant-loop-event
invariant-loop-event l = l.told ≡ corrected_texts l.given l.before l.yielded
