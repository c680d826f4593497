-- No rows are in order, and none stands.
use Rattle.row_index.proofs.EventRows.{rows-emptied}
use Rattle.row_index.proofs.held.EventRows.new.Goals as goal

pub invariant_of-result : goal.invariant_of-result
invariant_of-result c = rows-emptied _ _ c.new.ensures c.new-2.ensures.empty
