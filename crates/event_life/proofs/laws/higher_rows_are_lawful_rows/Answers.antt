use Rattle.event_life.proofs.HigherLemmas.{rows_for_higher-lawful}
use Rattle.event_life.proofs.laws.higher_rows_are_lawful_rows.Goals as goal

pub returns : goal.returns
returns c = rows_for_higher-lawful
