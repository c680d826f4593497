-- the first row at the spots that are left is the first at all of them
use Rattle.std.proofs.Common.{◌≡◌, drop}
use Rattle.hazard_board.specs.Spots.{first_of, rows_on}
use Rattle.hazard_board.proofs.spots.first_on.Given as goal

abbrev pub invariant-loop-spot : goal.invariant-loop-spot
invariant-loop-spot l = first_of (rows_on l.rows.rows (drop l.spot-index l.spots)) ≡ first_of (rows_on l.rows.rows l.spots)
