-- the lines so far spoke, none of them a second one
use Rattle.std.proofs.Common.{take}
use Rattle.row_index.specs.Apart.{Spoke}
use Rattle.row_index.specs.Risen.{seats_of, IsFree}
use Rattle.row_index.specs.Verdicts.{said_at}
use Rattle.row_index.proofs.apart.mark_zone_seen.Given as goal

abbrev pub invariant-loop-line : goal.invariant-loop-line
invariant-loop-line l = record {
  first : Spoke (seats_of l.fn.spoken.rising.items l.fn.spoken.others.keys) (seats_of l.spoken.rising.items l.spoken.others.keys) (said_at (take l.line-index l.lines) l.zone);
  free : IsFree l.spoken.last l.spoken.rising.items;
}
