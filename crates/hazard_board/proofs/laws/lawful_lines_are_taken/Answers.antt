-- Each lawful line leaves its row.
use Rattle.hazard_board.proofs.Turns.{lawful_taken}
use Rattle.hazard_board.proofs.laws.lawful_lines_are_taken.Goals as goal

pub returns : goal.returns
returns c = lawful_taken
