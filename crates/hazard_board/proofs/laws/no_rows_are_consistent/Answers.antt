-- Nothing is to be shown of no rows.
use Rattle.hazard_board.proofs.laws.no_rows_are_consistent.Goals as goal

pub returns-clause-consistent : goal.returns-clause-consistent
returns-clause-consistent c = λ t. record { apart = tt; numbered = tt; ends = tt }

pub returns-clause-behind : goal.returns-clause-behind
returns-clause-behind c = λ t. tt
