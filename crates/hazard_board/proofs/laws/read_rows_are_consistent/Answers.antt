-- Each product keeps the rows consistent.
use Rattle.hazard_board.proofs.OverProducts.{read_consistent}
use Rattle.hazard_board.proofs.laws.read_rows_are_consistent.Goals as goal

pub returns : goal.returns
returns c = read_consistent
