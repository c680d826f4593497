-- The place is that of the first count that is not before the hazard and year.
use Rattle.std.proofs.Common.{◌∙◌, sym, ap, is_eq, arith}
use Rattle.event_numbers.proofs.PlaceLemmas.{place_there, gap_behind, gap_before}
use Rattle.event_numbers.proofs.find_count.Goals as goal

pub returns-then-place-counted-clause-absent : goal.returns-then-place-counted-clause-absent
returns-then-place-counted-clause-absent c =
    gap_behind c.args.h.now c.args.year c.args.counted.now c.counts_before-place.result c.counts_before-place.ensures.point.0 c.counts_before-place.ensures.point.1 c.counts_before-place.ensures.bound c.if-place-counted.true

pub returns-then-is_eq-clause-found : goal.returns-then-is_eq-clause-found
returns-then-is_eq-clause-found c =
    place_there c.args.h.now c.args.year c.args.counted.now c.counts_before-place.result c.counts_before-place.ensures.point.0 c.counts_before-place.ensures.point.1 c.index-counted-place.result (omega (arith, c.if-place-counted.false)) c.index-counted-place.is
    (sym (ap is_eq c.cmp_key.ensures) ∙ sym c.is_eq.ensures ∙ c.if-is_eq.true)

pub returns-else-is_eq-clause-absent : goal.returns-else-is_eq-clause-absent
returns-else-is_eq-clause-absent c =
    gap_before c.args.h.now c.args.year c.args.counted.now c.counts_before-place.result c.counts_before-place.ensures.point.0 c.counts_before-place.ensures.point.1 c.requires c.index-counted-place.result (omega (arith, c.if-place-counted.false)) c.index-counted-place.is
    (sym (ap is_eq c.cmp_key.ensures) ∙ sym c.is_eq.ensures ∙ c.if-is_eq.false)
