-- what was found so far, with what will be, is what is found of all lines, the seats so far are those of the lines so far, the rows are those of the last line's event, and what stands around it is known
use Rattle.std.proofs.Common.{◌≡◌, ◌++◌, take, drop}
use Rattle.event_life.specs.Products.{judged, judged_from}
use Rattle.row_index.specs.Holding.{AreNear}
use Rattle.row_index.specs.Risen.{seats_of, IsFree}
use Rattle.row_index.specs.Seating.{key_of_line, speaks}
use Rattle.row_index.specs.Steps.{IsAsked}
use Rattle.row_index.specs.Telling.{Tells}
use Rattle.row_index.proofs.index.RowIndex.judge.Given as goal

abbrev pub invariant-loop-line : goal.invariant-loop-line
invariant-loop-line l = record {
  found : l.found.items ++ judged_from l.self l.t l.lines (take l.line-index l.lines) (drop l.line-index l.lines) ≡ judged l.self l.t l.lines;
  free : IsFree l.spoken.last l.spoken.rising.items;
  spoken : Tells speaks key_of_line (seats_of l.spoken.rising.items l.spoken.others.keys) (take l.line-index l.lines);
  near : AreNear l.self l.near l.rows;
  asked : IsAsked l.self l.t l.asked;
}
