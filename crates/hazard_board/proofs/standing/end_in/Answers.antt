-- The end is that of the first event that is not before this one, where it is this one.
use Rattle.std.proofs.Common.{◌∙◌, sym, arith}
use Rattle.hazard_board.proofs.StandingLemmas.{end_there, gap_behind, gap_before}
use Rattle.hazard_board.proofs.standing.end_in.Goals as goal

pub returns-then-place-standing : goal.returns-then-place-standing
returns-then-place-standing c = sym (gap_behind c.args.e.now c.args.standing.now c.events_before-place.result c.events_before-place.ensures.value c.requires c.events_before-place.ensures.bound c.if-place-standing.true).found

pub returns-then-eq : goal.returns-then-eq
returns-then-eq c =
    sym (end_there c.args.e.now c.args.standing.now c.events_before-place.result c.events_before-place.ensures.value c.index-standing-place.result (omega (arith, c.if-place-standing.false)) c.index-standing-place.is (sym c.eq.ensures ∙ c.if-eq.true))

pub returns-else-eq : goal.returns-else-eq
returns-else-eq c =
    sym (gap_before c.args.e.now c.args.standing.now c.events_before-place.result c.events_before-place.ensures.value c.requires c.index-standing-place.result (omega (arith, c.if-place-standing.false)) c.index-standing-place.is (sym c.eq.ensures ∙ c.if-eq.false)).found
