-- A line comes from a row, a put or a routine intent.
use Rattle.action_planner.proofs.LineLemmas.{known_corrected, known_lines}
use Rattle.action_planner.proofs.line_laws.lines_are_of_the_desks_hazards.Goals as goal

pub returns-clause-planned : goal.returns-clause-planned
returns-clause-planned c = known_lines

pub returns-clause-corrected : goal.returns-clause-corrected
returns-clause-corrected c = known_corrected
