-- what the lines that are left add to the rows so far is what all of them leave, and none of these is a second one; the rows are those of the last line's event
use Rattle.std.proofs.Common.{◌≡◌, [], take, drop}
use Rattle.std.specs.Map.{values_of}
use Rattle.event_life.specs.Products.{rows_after_all_but_upgrades}
use Rattle.row_index.specs.Holding.{AreNear}
use Rattle.row_index.specs.Seating.{AreSeated}
use Rattle.row_index.specs.Verdicts.{AreFirst}
use Rattle.row_index.proofs.index.RowIndex.counted_first.Given as goal

abbrev pub invariant-loop-line : goal.invariant-loop-line
invariant-loop-line l = record {
  rows : rows_after_all_but_upgrades l.self l.t (take l.line-index l.lines) (drop l.line-index l.lines) (values_of l.counted.entries) ≡ rows_after_all_but_upgrades l.self l.t [] l.lines [];
  seated : AreSeated l.counted.entries;
  first : AreFirst (take l.line-index l.lines) (drop l.line-index l.lines);
  near : AreNear l.self l.near l.rows;
}
