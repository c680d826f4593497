-- What is open later was open before.
use Rattle.hazard_board.proofs.ConsistentLemmas.{stays_consistent}
use Rattle.hazard_board.proofs.laws.consistent_rows_stay_consistent.Goals as goal

pub returns : goal.returns
returns c = stays_consistent
