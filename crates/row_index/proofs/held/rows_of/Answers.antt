-- An event that is not held has no rows.
use Rattle.std.proofs.Common.{List, subst, sym}
use Rattle.std.specs.List.Sorted.{IsStrictlySortedBy}
use Rattle.hazard_types.specs.declared.line.Row.{Row}
use Rattle.event_life.specs.Products.{by_key}
use Rattle.row_index.proofs.HeldRows.{none-sorted}
use Rattle.row_index.proofs.held.rows_of.Goals as goal

pub returns-in-None-clause-order : goal.returns-in-None-clause-order
returns-in-None-clause-order c = subst (λ (rows : List Row). IsStrictlySortedBy by_key rows) (sym c.none.ensures) none-sorted
