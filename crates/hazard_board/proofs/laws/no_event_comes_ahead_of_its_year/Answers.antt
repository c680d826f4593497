-- Only NEW brings an event, and it is of the product's year.
use Rattle.hazard_board.proofs.NumberLemmas.{behind_hold, stays_behind}
use Rattle.hazard_board.proofs.laws.no_event_comes_ahead_of_its_year.Goals as goal

pub returns-clause-after : goal.returns-clause-after
returns-clause-after c = behind_hold

pub returns-clause-later : goal.returns-clause-later
returns-clause-later c = stays_behind
