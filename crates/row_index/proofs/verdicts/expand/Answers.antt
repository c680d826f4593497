-- One run more.
use Rattle.std.proofs.Common.{[]}
use Rattle.row_index.specs.Verdicts.{expand_run}
use Rattle.row_index.proofs.Spelling.{flat_next}
use Rattle.row_index.proofs.verdicts.expand.Goals as goal

pub loop-run-preserved : goal.loop-run-preserved
loop-run-preserved c =
    flat_next expand_run c.args.runs.now c.loop-run.run-index c.run-item.result [] c.loop-run.out.items c.add_lines_by_zone.new.out.items
    c.loop-run-test.true c.run-item.is c.in_ok-add_lines_by_zone.ensures c.loop-run.invariant
