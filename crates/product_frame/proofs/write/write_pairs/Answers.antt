use Rattle.std.proofs.Common.{rules, arith}
use Rattle.std.proofs.lemmas.Grind.{common_steps}
use Rattle.product_frame.specs.LineRules.{HasColumns}
use Rattle.product_frame.proofs.Runs.{one_more, all_done}
use Rattle.product_frame.proofs.write.write_pairs.Goals as goal

pub loop-pair-preserved : goal.loop-pair-preserved
loop-pair-preserved c = record {
  whole = first_of (grind (arith, common_steps), search rules);
  columns = one_more HasColumns c.as_slice-pair-items.result.now c.loop-pair.pair-index c.pair-item.result c.loop-pair-test.true c.pair-item.is (search rules) c.loop-pair.invariant.columns;
}

pub returns-clause-columns : goal.returns-clause-columns
returns-clause-columns c = all_done HasColumns c.as_slice-pair-items.result.now c.args.pairs.now c.loop-pair.pair-index c.as_slice-pair-items.ensures c.loop-pair-test.false c.loop-pair.invariant.columns
