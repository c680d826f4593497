-- A row at the first of the spots that are left is the first; where there is none, the others decide.
use Rattle.std.proofs.Common.{◌∙◌, sym}
use Rattle.hazard_board.proofs.EventRows.{first_here, first_later}
use Rattle.hazard_board.proofs.spots.first_on.Goals as goal

pub loop-spot-preserved : goal.loop-spot-preserved
loop-spot-preserved c =
    sym (first_later c.args.rows.now.rows c.args.spots.now c.loop-spot.spot-index c.spot-item.result c.row_at-row.result c.loop-spot-test.true c.spot-item.is c.row_at-row.ensures (sym c.is_some.ensures ∙ c.if-is_some.false))
    ∙ c.loop-spot.invariant

pub returns-then-is_some : goal.returns-then-is_some
returns-then-is_some c =
    sym (first_here c.args.rows.now.rows c.args.spots.now c.loop-spot.spot-index c.spot-item.result c.row_at-row.result c.loop-spot-test.true c.spot-item.is c.row_at-row.ensures (sym c.is_some.ensures ∙ c.if-is_some.true))
    ∙ c.loop-spot.invariant
