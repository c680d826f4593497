-- A line has the values of a row, of a put, or none.
use Rattle.action_planner.proofs.LineLemmas.{corrected_given, given_values}
use Rattle.action_planner.proofs.line_laws.flood_values_are_those_given.Goals as goal

pub returns-clause-planned : goal.returns-clause-planned
returns-clause-planned c = given_values

pub returns-clause-corrected : goal.returns-clause-corrected
returns-clause-corrected c = corrected_given
