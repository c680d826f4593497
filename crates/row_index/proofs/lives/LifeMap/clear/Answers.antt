-- No zone names a life.
use Rattle.row_index.proofs.SharedRows.{none-shared}
use Rattle.row_index.proofs.lives.LifeMap.clear.Goals as goal

pub invariant_of-self : goal.invariant_of-self
invariant_of-self c = none-shared _ _ c.clear-2.ensures
