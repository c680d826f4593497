-- An event that is not held has no rows.
use Rattle.std.proofs.Common.{[], List, Option, ap, subst, unwrap_or}
use Rattle.std.specs.List.Sorted.{IsStrictlySortedBy}
use Rattle.hazard_types.specs.declared.line.Row.{Row}
use Rattle.event_life.specs.Products.{by_key}
use Rattle.row_index.proofs.HeldRows.{none-sorted}
use Rattle.row_index.proofs.held.is_open.Goals as goal

pub returns-in-None-clause-order : goal.returns-in-None-clause-order
returns-in-None-clause-order c =
    subst (λ (rows : List Row). IsStrictlySortedBy by_key rows) (ap (λ (o : Option (List Row)). unwrap_or o []) c.in-None.ensures.value) none-sorted
