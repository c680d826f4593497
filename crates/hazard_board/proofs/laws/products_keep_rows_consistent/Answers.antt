-- Each row is one of before, or a lawful line left it.
use Rattle.hazard_board.proofs.NumberLemmas.{after_consistent}
use Rattle.hazard_board.proofs.laws.products_keep_rows_consistent.Goals as goal

pub returns : goal.returns
returns c = after_consistent
