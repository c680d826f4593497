-- the lines so far, and those of the zones that are left, are those of all
use Rattle.std.proofs.Common.{◌≡◌, ◌++◌, drop}
use Rattle.action_planner.specs.Lines.{lines_in_zones}
use Rattle.action_planner.proofs.lines.add_lines_of.Given as goal

abbrev pub invariant-loop-zone : goal.invariant-loop-zone
invariant-loop-zone l = l.lines ++ lines_in_zones l.sending.rows l.sending.minute l.sending.intents l.p.event l.p.intent (drop l.zone-index l.zone-items) ≡ l.initial.lines ++ lines_in_zones l.sending.rows l.sending.minute l.sending.intents l.p.event l.p.intent l.zone-items
