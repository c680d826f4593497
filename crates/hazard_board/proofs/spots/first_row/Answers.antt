-- The rows at the spots of an event are its rows.
use Rattle.std.proofs.Common.{◌∙◌}
use Rattle.hazard_board.proofs.EventRows.{first_is}
use Rattle.hazard_board.proofs.spots.first_row.Goals as goal

pub returns : goal.returns
returns c = c.first_on.ensures ∙ first_is c.args.e.now c.args.rows.now.rows c.args.spots.now c.spots_of.result.now c.requires.order c.requires.spots c.spots_of.ensures
