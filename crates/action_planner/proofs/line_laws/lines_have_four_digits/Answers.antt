-- An event that has rows is numbered, and a new one is not refused.
use Rattle.action_planner.proofs.LineLemmas.{numbered_corrected, numbered_lines}
use Rattle.action_planner.proofs.line_laws.lines_have_four_digits.Goals as goal

pub returns-clause-planned : goal.returns-clause-planned
returns-clause-planned c = numbered_lines

pub returns-clause-corrected : goal.returns-clause-corrected
returns-clause-corrected c = numbered_corrected
