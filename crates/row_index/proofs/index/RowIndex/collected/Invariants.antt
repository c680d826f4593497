-- the runs so far spell the lines so far, with lives that these found; the rows are those of the last line's event
use Rattle.std.proofs.Common.{◌≡◌, ◌++◌, drop}
use Rattle.row_index.specs.Holding.{AreNear}
use Rattle.row_index.specs.Pending.{with_last}
use Rattle.row_index.specs.Verdicts.{expand, AreApart, AreFound}
use Rattle.row_index.proofs.index.RowIndex.collected.Given as goal

abbrev pub invariant-loop-found : goal.invariant-loop-found
invariant-loop-found l = record {
  told : expand (with_last l.runs.items l.last) ++ drop l.found-index l.judged ≡ l.judged;
  found : AreFound l.self (with_last l.runs.items l.last);
  apart : AreApart (with_last l.runs.items l.last);
  near : AreNear l.self l.near l.rows;
}
