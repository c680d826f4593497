-- The order of lines is free.
use Rattle.action_planner.proofs.SaidLemmas.{text_lawful, text_opened, text_rows}
use Rattle.action_planner.proofs.told_laws.texts_say_what_their_lines_say.Goals as goal

pub returns-clause-lawful : goal.returns-clause-lawful
returns-clause-lawful c = text_lawful

pub returns-clause-rows : goal.returns-clause-rows
returns-clause-rows c = text_rows

pub returns-clause-opened : goal.returns-clause-opened
returns-clause-opened c = text_opened
