-- One count is one less, or goes.
use Rattle.std.proofs.Common.{List, arith, subst}
use Rattle.hazard_board.specs.Periods.{IsCountAt}
use Rattle.hazard_board.specs.declared.periods.PeriodCount.{PeriodCount}
use Rattle.hazard_board.proofs.PeriodLemmas.{one_less, one_gone}
use Rattle.hazard_board.proofs.periods.take_off.Goals as goal

pub returns-then-rows-le1-clause-told : goal.returns-then-rows-le1-clause-told
returns-then-rows-le1-clause-told c q =
    let at = subst (λ (xs : List PeriodCount). IsCountAt (record { event = c.args.event.now; period = c.args.period.now; rows = 1 }) xs c.in-Ok.place) c.deref.ensures.value c.in-Ok.ensures.found in
    rw (c.remove.ensures.items) (one_gone (record { event = c.args.event.now; period = c.args.period.now; rows = 1 }) c.args.periods.now.items c.in-Ok.place at c.index.result.now c.index.ensures q c.if-rows-le1.true c.requires.stand.some)

pub returns-else-rows-le1-clause-told : goal.returns-else-rows-le1-clause-told
returns-else-rows-le1-clause-told c q =
    let at = subst (λ (xs : List PeriodCount). IsCountAt (record { event = c.args.event.now; period = c.args.period.now; rows = 1 }) xs c.in-Ok.place) c.deref.ensures.value c.in-Ok.ensures.found in
    one_less (record { event = c.args.event.now; period = c.args.period.now; rows = 1 }) c.args.periods.now.items c.in-Ok.place at c.index.result.now c.index.ensures q (omega (arith, c.if-rows-le1.false))
