-- the lines so far, and those of the intents that are left, are those of all
use Rattle.std.proofs.Common.{◌≡◌, ◌++◌, drop}
use Rattle.action_planner.specs.Lines.{lines_from}
use Rattle.action_planner.proofs.lines.add_intent_lines.Given as goal

abbrev pub invariant-loop-p : goal.invariant-loop-p
invariant-loop-p l = l.lines ++ lines_from l.sending.rows l.sending.minute l.sending.intents (drop l.p-index l.p-items) ≡ l.initial.lines ++ lines_from l.sending.rows l.sending.minute l.sending.intents l.sending.intents
