-- Without memory no zone names a life.
use Rattle.row_index.proofs.SharedRows.{none-shared}
use Rattle.row_index.proofs.lives.LifeMap.add_each.Goals as goal

pub invariant_of-self-in-Err : goal.invariant_of-self-in-Err
invariant_of-self-in-Err c = none-shared _ _ c.clear.ensures
