-- What a line leaves does not hang on its number.
use Rattle.hazard_board.proofs.HeldLemmas.{held_taken, lawful_held}
use Rattle.hazard_board.proofs.laws.lines_on_held_numbers_are_taken.Goals as goal

pub returns-clause-taken : goal.returns-clause-taken
returns-clause-taken c = held_taken

pub returns-clause-lawful : goal.returns-clause-lawful
returns-clause-lawful c = lawful_held
