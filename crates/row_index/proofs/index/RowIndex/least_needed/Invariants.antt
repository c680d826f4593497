-- the least so far, with what the lines that are left need, is that of all; the rows are those of the last line's event
use Rattle.std.proofs.Common.{◌≡◌, None, drop}
use Rattle.row_index.specs.Gathering.{least_of}
use Rattle.row_index.specs.Holding.{AreNear}
use Rattle.row_index.proofs.index.RowIndex.least_needed.Given as goal

abbrev pub invariant-loop-line : goal.invariant-loop-line
invariant-loop-line l = record {
  least : least_of l.self l.t l.least (drop l.line-index l.lines) ≡ least_of l.self l.t None l.lines;
  near : AreNear l.self l.near l.rows;
}
