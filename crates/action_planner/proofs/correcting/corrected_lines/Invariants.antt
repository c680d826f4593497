-- the lines so far, and those of what is left, are those of all
use Rattle.std.proofs.Common.{◌≡◌, ◌++◌, drop}
use Rattle.action_planner.specs.Corrections.{corrected_lines}
use Rattle.action_planner.proofs.correcting.corrected_lines.Given as goal

abbrev pub invariant-loop-line : goal.invariant-loop-line
invariant-loop-line l = l.corrected ++ corrected_lines l.board.rows l.t (drop l.line-index l.lines) ≡ corrected_lines l.board.rows l.t l.lines
