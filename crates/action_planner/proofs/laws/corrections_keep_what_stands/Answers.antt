use Rattle.action_planner.proofs.CorrectionLemmas.{corrections_keep}
use Rattle.action_planner.proofs.laws.corrections_keep_what_stands.Goals as goal

pub returns : goal.returns
returns c = corrections_keep
