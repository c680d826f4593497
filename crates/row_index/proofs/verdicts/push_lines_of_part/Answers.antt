-- One line more.
use Rattle.hazard_types.specs.declared.line.Line.{Line}
use Rattle.row_index.specs.Runs.{in_zone}
use Rattle.row_index.proofs.Spelling.{map_next}
use Rattle.row_index.proofs.verdicts.push_lines_of_part.Goals as goal

pub loop-line-preserved : goal.loop-line-preserved
loop-line-preserved c =
    map_next (λ (l : Line). in_zone l c.args.zone.now) c.as_slice-line-items.result.now c.loop-line.line-index c.line-item.result c.in_zone.result c.args.out.now.items c.loop-line.out.items c.push.new.self.items
    c.loop-line-test.true c.line-item.is c.in_zone.ensures c.in_ok-push.ensures.items c.loop-line.invariant
