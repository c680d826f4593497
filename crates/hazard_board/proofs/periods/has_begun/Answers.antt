-- The first count of the event and end has the earliest begin.
use Rattle.std.proofs.Common.{◌∙◌, sym, ap, is_eq, arith}
use Rattle.hazard_board.proofs.PeriodLemmas.{begun_there, begun_other, begun_none}
use Rattle.hazard_board.proofs.periods.has_begun.Goals as goal

pub returns-then-place-periods : goal.returns-then-place-periods
returns-then-place-periods c = begun_none c.args.key.now c.args.t c.args.periods.now c.ends_before-place.result c.ends_before-place.ensures.value c.requires c.if-place-periods.true

pub returns-then-is_eq : goal.returns-then-is_eq
returns-then-is_eq c =
    rw (c.get.ensures.value, c.get-then-is_eq.ensures.value)
    (begun_there c.args.key.now c.args.t c.args.periods.now c.ends_before-place.result c.ends_before-place.ensures.value c.requires c.index-periods-place.result (omega (arith, c.if-place-periods.false)) c.index-periods-place.is
    (sym (ap is_eq c.order_of_ends.ensures) ∙ sym c.is_eq.ensures ∙ c.if-is_eq.true))

pub returns-else-is_eq : goal.returns-else-is_eq
returns-else-is_eq c =
    c.if-is_eq.false
    ∙ begun_other c.args.key.now c.args.t c.args.periods.now c.ends_before-place.result c.ends_before-place.ensures.value c.requires c.index-periods-place.result (omega (arith, c.if-place-periods.false)) c.index-periods-place.is
    (sym (ap is_eq c.order_of_ends.ensures) ∙ sym c.is_eq.ensures ∙ c.if-is_eq.false)
