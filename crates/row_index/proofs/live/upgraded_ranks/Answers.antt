-- One line more.
use Rattle.row_index.proofs.Gathering.{ranks-next}
use Rattle.row_index.proofs.live.upgraded_ranks.Goals as goal

pub loop-line-preserved : goal.loop-line-preserved
loop-line-preserved c =
    ranks-next c.loop-line.ranks.items c.add_rank.new.ranks.items c.args.lines.now c.loop-line.line-index c.line-item.result c.is_upgrade.result c.rank_of.result
    c.loop-line-test.true c.line-item.is c.is_upgrade.ensures c.rank_of.ensures c.in_ok-add_rank.ensures c.loop-line.invariant
