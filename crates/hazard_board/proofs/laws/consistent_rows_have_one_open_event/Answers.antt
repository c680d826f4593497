-- Open rows that share hazard and number are of one event.
use Rattle.hazard_board.proofs.NumberLemmas.{have_one_open}
use Rattle.hazard_board.proofs.laws.consistent_rows_have_one_open_event.Goals as goal

pub returns : goal.returns
returns c = have_one_open
