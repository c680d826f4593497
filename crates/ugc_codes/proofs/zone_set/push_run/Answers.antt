use Rattle.std.proofs.Common.{◌+◌, arith}
use Rattle.ugc_codes.proofs.Risen.{rises_first, rises_next}
use Rattle.ugc_codes.proofs.zone_set.push_run.Goals as goal

pub loop-number-init : goal.loop-number-init
loop-number-init c = rw c.number-number.ensures.value (rises_first c.args.rising.now c.args.first (c.args.last + 1) c.requires.sorted c.requires.behind)

pub loop-number-preserved : goal.loop-number-preserved
loop-number-preserved c = rises_next c.args.rising.now c.args.first (c.args.last + 1) c.loop-number.number c.loop-number.rising c.push.new.self (omega arith) c.loop-number.invariant (rw c.with_number.ensures at c.in_ok-push.ensures.ok)
