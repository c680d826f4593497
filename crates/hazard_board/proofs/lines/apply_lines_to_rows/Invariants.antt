-- the lines that are left leave what all of them do, the spots and periods are those of the rows so far, and no memory is lost
use Rattle.std.proofs.Common.{◌≡◌, ◌≤◌, ◌+◌, length, drop}
use Rattle.std.specs.List.Sorted.{IsStrictlySortedBy}
use Rattle.std.specs.Vec.{vec_capacity}
use Rattle.event_life.specs.Products.{by_key}
use Rattle.hazard_board.specs.Periods.{AreCounted}
use Rattle.hazard_board.specs.Spots.{AreSpots}
use Rattle.hazard_board.specs.Taken.{taken_in_turn}
use Rattle.hazard_board.proofs.lines.apply_lines_to_rows.Given as goal

abbrev pub invariant-loop-line : goal.invariant-loop-line
invariant-loop-line l = record {
  turns : taken_in_turn l.t l.rows.rows (drop l.line-index l.lines) ≡ taken_in_turn l.t l.initial.rows.rows l.lines;
  order : IsStrictlySortedBy by_key l.rows.rows;
  spots : AreSpots l.rows.rows l.spots.items;
  spare : l.initial.rows.spare + length l.initial.rows.rows ≤ l.rows.spare + length l.rows.rows;
  capacity : vec_capacity l.initial.spots ≤ vec_capacity l.spots;
  periods : AreCounted l.rows.rows l.periods.items;
  counts : vec_capacity l.initial.periods ≤ vec_capacity l.periods;
}
