-- One part more.
use Rattle.std.proofs.Common.{[]}
use Rattle.row_index.specs.Verdicts.{said_in}
use Rattle.row_index.proofs.Spelling.{flat_next}
use Rattle.row_index.proofs.verdicts.lines_in.Goals as goal

pub loop-part-preserved : goal.loop-part-preserved
loop-part-preserved c =
    flat_next said_in c.args.parts.now c.loop-part.part-index c.part-item.result [] c.loop-part.out.items c.add_part.new.out.items
    c.loop-part-test.true c.part-item.is c.in_ok-add_part.ensures c.loop-part.invariant
