-- An index of no rows is one.
use Rattle.std.proofs.Common.{[], refl}
use Rattle.std.specs.List.Sorted.{IsStrictlySortedBy}
use Rattle.row_index.specs.Indexing.{IsIndex}
use Rattle.row_index.proofs.index.RowIndex.new.Goals as goal

empty_index : IsIndex [] [] []
unfolding IsStrictlySortedBy
empty_index = record { held = record { ascending = tt; each = tt; in_order = tt }; opened = λ k q. refl; reached = tt }

pub invariant_of-result : goal.invariant_of-result
invariant_of-result c = rw (c.new.ensures.empty, c.new-2.ensures.empty, c.new-3.ensures.empty) empty_index
