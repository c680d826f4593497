-- the lines of the parts so far spoke, none of them a second one
use Rattle.std.proofs.Common.{[], take}
use Rattle.row_index.specs.Apart.{Spoke}
use Rattle.row_index.specs.Risen.{seats_of, IsFree}
use Rattle.row_index.specs.Verdicts.{lines_in}
use Rattle.row_index.proofs.apart.none_second.Given as goal

abbrev pub invariant-loop-part : goal.invariant-loop-part
invariant-loop-part l = record {
  first : Spoke [] (seats_of l.spoken.rising.items l.spoken.others.keys) (lines_in (take l.part-index l.parts));
  free : IsFree l.spoken.last l.spoken.rising.items;
}
