use Rattle.action_planner.proofs.LawfulOpenings.{new_years, new_numbers}
use Rattle.action_planner.proofs.laws.opened_events_are_numbered_on.Goals as goal

pub returns-clause-year : goal.returns-clause-year
returns-clause-year c = new_years

pub returns-clause-numbers : goal.returns-clause-numbers
returns-clause-numbers c = new_numbers
