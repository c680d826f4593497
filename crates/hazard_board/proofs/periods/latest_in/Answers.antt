-- The first count of an event has its latest end.
use Rattle.std.proofs.Common.{◌∙◌, sym, arith}
use Rattle.hazard_board.proofs.PeriodLemmas.{latest_there, latest_other, latest_none}
use Rattle.hazard_board.proofs.periods.latest_in.Goals as goal

pub returns-then-place-periods : goal.returns-then-place-periods
returns-then-place-periods c = latest_none c.args.e.now c.args.periods.now c.events_before-place.result c.events_before-place.ensures.value c.requires c.if-place-periods.true

pub returns-then-eq : goal.returns-then-eq
returns-then-eq c =
    latest_there c.args.e.now c.args.periods.now c.events_before-place.result c.events_before-place.ensures.value c.requires c.index-periods-place.result (omega (arith, c.if-place-periods.false)) c.index-periods-place.is (sym c.eq.ensures ∙ c.if-eq.true)

pub returns-else-eq : goal.returns-else-eq
returns-else-eq c =
    latest_other c.args.e.now c.args.periods.now c.events_before-place.result c.events_before-place.ensures.value c.requires c.index-periods-place.result (omega (arith, c.if-place-periods.false)) c.index-periods-place.is (sym c.eq.ensures ∙ c.if-eq.false)
