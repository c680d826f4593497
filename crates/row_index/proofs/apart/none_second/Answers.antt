-- One part more, and all of them.
use Rattle.std.proofs.Common.{[]}
use Rattle.row_index.specs.Risen.{seats_of}
use Rattle.row_index.specs.Verdicts.{said_in}
use Rattle.row_index.proofs.Firsts.{first-spoken, spoke_next, spoke_start}
use Rattle.row_index.proofs.apart.none_second.Goals as goal

pub loop-part-init : goal.loop-part-init
loop-part-init c = record {
  first = spoke_start (seats_of c.new-spoken.result.rising.items c.new-spoken.result.others.keys) c.new-spoken.ensures.none;
  free = c.new-spoken.ensures.free;
}

pub loop-part-preserved : goal.loop-part-preserved
loop-part-preserved c =
    let now = seats_of c.loop-part.spoken.rising.items c.loop-part.spoken.others.keys in
    let next = seats_of c.mark_part_seen.new.spoken.rising.items c.mark_part_seen.new.spoken.others.keys in
    record {
      first = spoke_next said_in c.args.parts.now c.loop-part.part-index c.part-item.result [] now next c.loop-part-test.true c.part-item.is (c.in_ok-first.ensures.first c.if-not-first.false) c.loop-part.invariant.first;
      free = c.in_ok-first.ensures.free;
    }

pub returns : goal.returns
returns c = λ _. first-spoken (seats_of c.loop-part.spoken.rising.items c.loop-part.spoken.others.keys) c.args.parts.now c.loop-part.part-index c.loop-part-test.false c.loop-part.invariant.first
