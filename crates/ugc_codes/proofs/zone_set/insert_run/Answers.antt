use Rattle.std.proofs.Common.{arith, sym, ◌∙◌, ◌+◌}
use Rattle.ugc_codes.proofs.Adding.{run_steps}
use Rattle.ugc_codes.proofs.zone_set.insert_run.Goals as goal

pub loop-number-preserved : goal.loop-number-preserved
loop-number-preserved c = rw (c.in_ok-insert.ensures.keys, c.with_number.ensures) (sym (run_steps c.loop-number.mixed.keys c.args.first c.loop-number.number (c.args.last + 1) (omega arith)) ∙ c.loop-number.invariant)
