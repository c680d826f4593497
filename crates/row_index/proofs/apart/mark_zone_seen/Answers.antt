-- One line more.
use Rattle.std.proofs.Common.{Bool, not, ap}
use Rattle.row_index.specs.Risen.{seats_of}
use Rattle.row_index.proofs.Firsts.{spoke_line}
use Rattle.row_index.proofs.apart.mark_zone_seen.Goals as goal

pub loop-line-preserved : goal.loop-line-preserved
loop-line-preserved c =
    let old = seats_of c.args.spoken.now.rising.items c.args.spoken.now.others.keys in
    let now = seats_of c.loop-line.spoken.rising.items c.loop-line.spoken.others.keys in
    let next = seats_of c.mark_seen.new.self.rising.items c.mark_seen.new.self.others.keys in
    record {
      first = spoke_line c.args.lines.now c.loop-line.line-index c.line-item.result c.args.zone.now old now next c.in_ok-second.second (not c.is_routine.result) c.in_zone.result c.loop-line-test.true c.line-item.is c.in_zone.ensures
          (ap (λ (b : Bool). not b) c.is_routine.ensures) c.in_ok-second.ensures.second c.if-second.false c.in_ok-second.ensures.said c.loop-line.invariant.first;
      free = c.in_ok-second.ensures.free;
    }
