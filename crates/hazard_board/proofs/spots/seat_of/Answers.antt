-- The seat is that of the first spot that is not before this one.
use Rattle.std.proofs.Common.{◌∙◌, sym, ap, is_eq, arith}
use Rattle.hazard_board.specs.Spots.{by_spot}
use Rattle.hazard_board.proofs.Runs.{put_before, put_behind, replaced}
use Rattle.hazard_board.proofs.spots.seat_of.Goals as goal

pub returns-then-place-spots-clause-seated : goal.returns-then-place-spots-clause-seated
returns-then-place-spots-clause-seated c = put_behind (λ x. by_spot x c.args.spot.now) c.args.spot.now c.args.spots.now c.spots_below-place.result c.spots_below-place.ensures.value c.if-place-spots.true

pub returns-then-is_eq-clause-seated : goal.returns-then-is_eq-clause-seated
returns-then-is_eq-clause-seated c =
    replaced (λ x. by_spot x c.args.spot.now) c.args.spot.now c.args.spots.now c.spots_below-place.result c.index-spots-place.result c.spots_below-place.ensures.value (omega (arith, c.if-place-spots.false)) c.index-spots-place.is
    (sym (ap is_eq c.order.ensures) ∙ sym c.is_eq.ensures ∙ c.if-is_eq.true)

pub returns-else-is_eq-clause-seated : goal.returns-else-is_eq-clause-seated
returns-else-is_eq-clause-seated c =
    put_before (λ x. by_spot x c.args.spot.now) c.args.spot.now c.args.spots.now c.spots_below-place.result c.spots_below-place.ensures.value c.index-spots-place.result (omega (arith, c.if-place-spots.false)) c.index-spots-place.is
    (sym (ap is_eq c.order.ensures) ∙ sym c.is_eq.ensures ∙ c.if-is_eq.false)
