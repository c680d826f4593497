-- One zone more.
use Rattle.row_index.specs.Verdicts.{expand_at}
use Rattle.row_index.proofs.Spelling.{flat_next}
use Rattle.row_index.proofs.verdicts.Run.add_lines_by_zone.Goals as goal

pub loop-zone-preserved : goal.loop-zone-preserved
loop-zone-preserved c =
    flat_next (expand_at c.args.self.now.verdicts) c.as_slice-zone-items.result.now c.loop-zone.zone-index c.zone-item.result c.args.out.now.items c.loop-zone.out.items c.add_zone.new.out.items
    c.loop-zone-test.true c.zone-item.is c.in_ok-add_zone.ensures c.loop-zone.invariant
