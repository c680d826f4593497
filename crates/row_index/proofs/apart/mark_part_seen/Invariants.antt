-- the lines spoke in the zones so far, none of them a second one
use Rattle.std.proofs.Common.{take}
use Rattle.row_index.specs.Apart.{Spoke}
use Rattle.row_index.specs.Risen.{seats_of, IsFree}
use Rattle.row_index.specs.Verdicts.{said_along}
use Rattle.row_index.proofs.apart.mark_part_seen.Given as goal

abbrev pub invariant-loop-zone : goal.invariant-loop-zone
invariant-loop-zone l = record {
  first : Spoke (seats_of l.fn.spoken.rising.items l.fn.spoken.others.keys) (seats_of l.spoken.rising.items l.spoken.others.keys) (said_along l.part.lines (take l.zone-index l.part.zones.now));
  free : IsFree l.spoken.last l.spoken.rising.items;
}
