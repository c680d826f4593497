-- what the lines so far leave, and those that are left, is what all leave
use Rattle.std.proofs.Common.{◌≡◌, ◌++◌, List, drop, fold}
use Rattle.hazard_types.specs.declared.line.Line.{Line}
use Rattle.hazard_board.specs.NewClashes.{left_by, lefts}
use Rattle.hazard_board.specs.declared.lines.Left.{Left}
use Rattle.hazard_board.proofs.lines.lefts.Given as goal

abbrev pub invariant-loop-line : goal.invariant-loop-line
invariant-loop-line l = fold (λ (some : List Left) (line : Line). some ++ left_by l.rows.rows l.t line) l.some.items (drop l.line-index l.lines) ≡ lefts l.rows.rows l.t l.lines
