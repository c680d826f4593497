use Rattle.event_life.proofs.OrderLemmas.{rows_of-sorted}
use Rattle.event_life.proofs.laws.rows_of_are_in_order.Goals as goal

pub returns : goal.returns
returns c = rows_of-sorted
