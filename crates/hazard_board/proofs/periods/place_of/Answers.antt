-- The place is that of the first count that is not before this one.
use Rattle.std.proofs.Common.{◌∙◌, sym, ap, is_eq, arith}
use Rattle.hazard_board.proofs.PeriodLemmas.{count_there, gap_behind, gap_before}
use Rattle.hazard_board.proofs.periods.place_of.Goals as goal

pub returns-then-place-periods-clause-absent : goal.returns-then-place-periods-clause-absent
returns-then-place-periods-clause-absent c = gap_behind c.args.key.now c.args.periods.now c.counts_below-place.result c.counts_below-place.ensures.value c.requires c.counts_below-place.ensures.bound c.if-place-periods.true

pub returns-then-is_eq-clause-found : goal.returns-then-is_eq-clause-found
returns-then-is_eq-clause-found c =
    count_there c.args.key.now c.args.periods.now c.counts_below-place.result c.counts_below-place.ensures.value c.requires c.index-periods-place.result (omega (arith, c.if-place-periods.false)) c.index-periods-place.is
    (sym (ap is_eq c.order.ensures) ∙ sym c.is_eq.ensures ∙ c.if-is_eq.true)

pub returns-else-is_eq-clause-absent : goal.returns-else-is_eq-clause-absent
returns-else-is_eq-clause-absent c =
    gap_before c.args.key.now c.args.periods.now c.counts_below-place.result c.counts_below-place.ensures.value c.requires c.index-periods-place.result (omega (arith, c.if-place-periods.false)) c.index-periods-place.is
    (sym (ap is_eq c.order.ensures) ∙ sym c.is_eq.ensures ∙ c.if-is_eq.false)
