use Rattle.event_life.proofs.Puts.{rows_after-sorted}
use Rattle.event_life.proofs.laws.rows_stay_in_order.Goals as goal

pub returns : goal.returns
returns c = rows_after-sorted
