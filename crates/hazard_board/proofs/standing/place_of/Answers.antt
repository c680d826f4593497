-- The place is that of the first event that is not before this one.
use Rattle.std.proofs.Common.{◌∙◌, sym, arith}
use Rattle.hazard_board.proofs.StandingLemmas.{place_there, gap_behind, gap_before}
use Rattle.hazard_board.proofs.standing.place_of.Goals as goal

pub returns-then-place-standing-clause-absent : goal.returns-then-place-standing-clause-absent
returns-then-place-standing-clause-absent c = gap_behind c.args.e.now c.args.standing.now c.events_before-place.result c.events_before-place.ensures.value c.requires c.events_before-place.ensures.bound c.if-place-standing.true

pub returns-then-eq-clause-found : goal.returns-then-eq-clause-found
returns-then-eq-clause-found c =
    place_there c.args.e.now c.args.standing.now c.events_before-place.result c.events_before-place.ensures.value c.index-standing-place.result (omega (arith, c.if-place-standing.false)) c.index-standing-place.is (sym c.eq.ensures ∙ c.if-eq.true)

pub returns-else-eq-clause-absent : goal.returns-else-eq-clause-absent
returns-else-eq-clause-absent c =
    gap_before c.args.e.now c.args.standing.now c.events_before-place.result c.events_before-place.ensures.value c.requires c.index-standing-place.result (omega (arith, c.if-place-standing.false)) c.index-standing-place.is (sym c.eq.ensures ∙ c.if-eq.false)
