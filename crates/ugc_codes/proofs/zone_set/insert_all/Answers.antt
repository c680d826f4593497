use Rattle.ugc_codes.proofs.Risen.{taken_more}
use Rattle.ugc_codes.proofs.zone_set.insert_all.Goals as goal

pub loop-zone-preserved : goal.loop-zone-preserved
loop-zone-preserved c = rw (c.in_ok-insert.ensures.keys, c.loop-zone.invariant, c.zone-item.is) (taken_more c.args.zones.now c.loop-zone.zone-index c.zone-item.result c.requires.sorted c.loop-zone-test.true)
