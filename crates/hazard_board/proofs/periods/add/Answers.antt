-- One count is one more, or a new one is 1.
use mir.Val.{Fits}
use Rattle.std.proofs.Common.{List, rules, arith, subst, w64}
use Rattle.hazard_board.specs.Periods.{IsCountAt, IsCountGap}
use Rattle.hazard_board.specs.declared.periods.PeriodCount.{PeriodCount}
use Rattle.hazard_board.proofs.PeriodLemmas.{one_more, at_most_all, key_put, no_more_counts}
use Rattle.hazard_board.proofs.periods.add.Goals as goal

pub overflow_add-rows : goal.overflow_add-rows
overflow_add-rows c =
    let at = subst (λ (xs : List PeriodCount). IsCountAt (record { event = c.args.event.now; period = c.args.period.now; rows = 1 }) xs c.in-Ok.place) c.deref.ensures.value c.in-Ok.ensures.found in
    let most = at_most_all (record { event = c.args.event.now; period = c.args.period.now; rows = 1 }) c.args.periods.now.items c.in-Ok.place at c.index.result.now c.index.ensures in
    let fits : Fits w64 c.capacity-limit.result = search rules in
    omega (arith, most, fits, c.requires.room, c.capacity-limit.ensures)

pub unreachable-requires : goal.unreachable-requires
unreachable-requires c =
    let most = no_more_counts c.args.periods.now.items c.requires.stand.some in
    omega (arith, most, c.requires.room, c.in-Err-insert.ensures.full, c.args.periods.now.ok.0)

pub returns-in-Ok-clause-told : goal.returns-in-Ok-clause-told
returns-in-Ok-clause-told c q =
    let at = subst (λ (xs : List PeriodCount). IsCountAt (record { event = c.args.event.now; period = c.args.period.now; rows = 1 }) xs c.in-Ok.place) c.deref.ensures.value c.in-Ok.ensures.found in
    one_more (record { event = c.args.event.now; period = c.args.period.now; rows = 1 }) c.args.periods.now.items c.in-Ok.place at c.index.result.now c.index.ensures q

pub returns-in-Ok-insert-clause-told : goal.returns-in-Ok-insert-clause-told
returns-in-Ok-insert-clause-told c q =
    let gap = subst (λ (xs : List PeriodCount). IsCountGap (record { event = c.args.event.now; period = c.args.period.now; rows = 1 }) xs c.in-Err.place) c.deref.ensures.value c.in-Err.ensures.absent in
    rw (c.in-Ok-insert.ensures.items) (key_put (record { event = c.args.event.now; period = c.args.period.now; rows = 1 }) c.args.periods.now.items c.in-Err.place gap q)
