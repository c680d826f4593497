-- no more events are opened than are asked for
use Rattle.std.proofs.Common.{◌≤◌}
use Rattle.worked_rows.proofs.board.script.fill.Given as goal

abbrev pub invariant-loop-draft : goal.invariant-loop-draft
invariant-loop-draft l = l.done ≤ l.count
