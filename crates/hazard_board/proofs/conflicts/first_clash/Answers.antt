-- Each row comes before those behind it.
use Rattle.hazard_board.proofs.ZoneLemmas.{sorted_at}
use Rattle.hazard_board.proofs.conflicts.first_clash.Goals as goal

pub clash_with-found-requires : goal.clash_with-found-requires
clash_with-found-requires c = sorted_at c.args.rows.now c.loop-place.place c.index-rows-place.result c.requires c.loop-place-test.true c.index-rows-place.is
