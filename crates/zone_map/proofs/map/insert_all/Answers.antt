use Rattle.zone_map.proofs.Searched.{taken_more}
use Rattle.zone_map.proofs.map.insert_all.Goals as goal

pub loop-entry-preserved : goal.loop-entry-preserved
loop-entry-preserved g c = rw (c.in_ok-insert.ensures.entries, c.loop-entry.invariant, c.entry-item.is) (taken_more c.args.list.now c.loop-entry.entry-index c.entry-item.result c.requires.sorted c.loop-entry-test.true)
