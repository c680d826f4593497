-- One line more.
use Rattle.std.proofs.Common.{◌∙◌}
use Rattle.row_index.specs.Pending.{with_last}
use Rattle.row_index.specs.Verdicts.{expand}
use Rattle.row_index.proofs.Collected.{found_life, told_next}
use Rattle.row_index.proofs.index.RowIndex.collected.Goals as goal

pub loop-found-preserved : goal.loop-found-preserved
loop-found-preserved c =
    let rows = c.args.self.now in
    let judged = c.args.judged.now in
    let item = c.found-item.result in
    let before = c.loop-found.invariant in
    let with_one = c.in_ok-collect.ensures in
    record {
      told = told_next judged c.loop-found.found-index item (expand (with_last c.loop-found.runs.items c.loop-found.last)) (expand (with_last c.collect.new.runs.items c.collect.new.last)) judged c.loop-found-test.true c.found-item.is with_one.told before.told;
      found = with_one.found rows (found_life rows c.rows_near-rows.result item.0 c.life_of-life.result c.rows_near-rows.ensures (c.life_of-life.ensures ∙ c.life_at.ensures)) before.found;
      apart = with_one.apart before.apart;
      near = c.rows_near-rows.ensures;
    }
