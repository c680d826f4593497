use Rattle.std.proofs.Common.{rules, arith, refl}
use Rattle.std.proofs.lemmas.Grind.{common_steps}
use Rattle.product_frame.specs.LineRules.{ReadsBack}
use Rattle.product_frame.proofs.Runs.{one_more, all_done}
use Rattle.product_frame.proofs.write.write_segments.Goals as goal

pub loop-i-preserved : goal.loop-i-preserved
loop-i-preserved c = record {
  whole = first_of (grind (arith, common_steps), search rules);
  back = one_more ReadsBack c.args.segments.now c.loop-i.i c.segment-item.result (search rules) (search rules) (search rules) c.loop-i.invariant.back;
}

pub returns-clause-back : goal.returns-clause-back
returns-clause-back c = all_done ReadsBack c.args.segments.now c.args.segments.now c.loop-i.i refl (search rules) c.loop-i.invariant.back
