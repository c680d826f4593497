-- A correction's texts are those that are given.
use Rattle.office_core.proofs.writing.first_text.Goals as goal

pub returns-in-Correct : goal.returns-in-Correct
returns-in-Correct c = rw c.in-Correct.is (rw c.as_slice.ensures at c.first_given.ensures)
