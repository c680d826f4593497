-- The numbers of the events that have rows are those that were drawn.
use Rattle.action_planner.proofs.ToldLemmas.{rows_tell_counts, rows_tell_places}
use Rattle.action_planner.proofs.told_laws.rows_tell_the_numbers.Goals as goal

pub returns-clause-counts : goal.returns-clause-counts
returns-clause-counts c = rows_tell_counts

pub returns-clause-placed : goal.returns-clause-placed
returns-clause-placed c = rows_tell_places
