-- One seat more.
use Rattle.row_index.proofs.Saying.{join_next}
use Rattle.row_index.proofs.spoken.join.Goals as goal

pub loop-seat-preserved : goal.loop-seat-preserved
loop-seat-preserved c =
    join_next c.args.seats.now c.loop-seat.others.keys c.add_key.new.keys.keys c.args.others.now.keys c.loop-seat.seat-index c.seat-item.result c.loop-seat-test.true c.seat-item.is c.in_ok-add_key.ensures c.loop-seat.invariant
