use Rattle.event_life.proofs.Spoken.{row_at-rows_after}
use Rattle.event_life.proofs.laws.first_line_decides.Goals as goal

pub returns : goal.returns
returns c = row_at-rows_after
