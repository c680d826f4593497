-- The seat is that of the first row that is not before this one.
use Rattle.std.proofs.Common.{◌∙◌, sym, ap, is_eq, arith}
use Rattle.event_life.specs.Products.{by_key}
use Rattle.hazard_board.proofs.Runs.{put_before, put_behind, replaced}
use Rattle.hazard_board.proofs.Seats.{put_alike}
use Rattle.hazard_board.proofs.searches.seat_of.Goals as goal

pub returns-then-place-rows-clause-seated : goal.returns-then-place-rows-clause-seated
returns-then-place-rows-clause-seated c = put_behind (λ x. by_key x c.args.row.now) c.args.row.now c.args.rows.now c.rows_below-place.result c.rows_below-place.ensures.value c.if-place-rows.true ∙ put_alike c.args.row.now c.args.rows.now

pub returns-then-is_eq-clause-seated : goal.returns-then-is_eq-clause-seated
returns-then-is_eq-clause-seated c =
    replaced (λ x. by_key x c.args.row.now) c.args.row.now c.args.rows.now c.rows_below-place.result c.index-rows-place.result c.rows_below-place.ensures.value (omega (arith, c.if-place-rows.false)) c.index-rows-place.is
    (sym (ap is_eq c.order.ensures) ∙ sym c.is_eq.ensures ∙ c.if-is_eq.true)
    ∙ put_alike c.args.row.now c.args.rows.now

pub returns-else-is_eq-clause-seated : goal.returns-else-is_eq-clause-seated
returns-else-is_eq-clause-seated c =
    put_before (λ x. by_key x c.args.row.now) c.args.row.now c.args.rows.now c.rows_below-place.result c.rows_below-place.ensures.value c.index-rows-place.result (omega (arith, c.if-place-rows.false)) c.index-rows-place.is
    (sym (ap is_eq c.order.ensures) ∙ sym c.is_eq.ensures ∙ c.if-is_eq.false)
    ∙ put_alike c.args.row.now c.args.rows.now
