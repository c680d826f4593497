-- One row more comes behind the others.
use Rattle.row_index.proofs.SharedRows.{put-next}
use Rattle.row_index.proofs.lives.LifeMap.add_all.Goals as goal

pub loop-row-preserved : goal.loop-row-preserved
loop-row-preserved c =
    put-next c.args.rows.now c.loop-row.row-index c.row-item.result c.loop-row.self c.put.new.self c.requires.order c.loop-row-test.true c.row-item.is c.loop-row.invariant c.in_ok-put.ensures
