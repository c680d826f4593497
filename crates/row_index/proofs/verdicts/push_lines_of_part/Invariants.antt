-- the lines so far are written
use Rattle.std.proofs.Common.{◌≡◌, ◌++◌, take}
use Rattle.row_index.specs.Verdicts.{said_at}
use Rattle.row_index.proofs.verdicts.push_lines_of_part.Given as goal

abbrev pub invariant-loop-line : goal.invariant-loop-line
invariant-loop-line l = l.out.items ≡ l.fn.out.items ++ said_at (take l.line-index l.line-items) l.zone
