-- what the lines that are left add to the rows so far is what all of them leave, and the seats so far are those of the lines so far
use Rattle.std.proofs.Common.{◌≡◌, [], take, drop}
use Rattle.std.specs.Map.{values_of}
use Rattle.event_life.specs.Products.{rows_after_all_but_upgrades}
use Rattle.row_index.specs.Risen.{seats_of, IsFree}
use Rattle.row_index.specs.Seating.{AreSeated, key_of_line, speaks}
use Rattle.row_index.specs.Telling.{Tells}
use Rattle.row_index.proofs.index.RowIndex.counted.Given as goal

abbrev pub invariant-loop-line : goal.invariant-loop-line
invariant-loop-line l = record {
  rows : rows_after_all_but_upgrades l.self l.t (take l.line-index l.lines) (drop l.line-index l.lines) (values_of l.counted.entries) ≡ rows_after_all_but_upgrades l.self l.t [] l.lines [];
  seated : AreSeated l.counted.entries;
  free : IsFree l.spoken.last l.spoken.rising.items;
  spoken : Tells speaks key_of_line (seats_of l.spoken.rising.items l.spoken.others.keys) (take l.line-index l.lines);
}
