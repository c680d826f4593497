-- Rows have them, and puts without are refused.
use Rattle.action_planner.proofs.LineLemmas.{corrected_values, needed_values}
use Rattle.action_planner.proofs.line_laws.flood_lines_have_values.Goals as goal

pub returns-clause-planned : goal.returns-clause-planned
returns-clause-planned c = needed_values

pub returns-clause-corrected : goal.returns-clause-corrected
returns-clause-corrected c = corrected_values
