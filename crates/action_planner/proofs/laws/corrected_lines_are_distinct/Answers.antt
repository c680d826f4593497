use Rattle.action_planner.proofs.CorrectionLemmas.{corrected_distinct}
use Rattle.action_planner.proofs.laws.corrected_lines_are_distinct.Goals as goal

pub returns : goal.returns
returns c = corrected_distinct
