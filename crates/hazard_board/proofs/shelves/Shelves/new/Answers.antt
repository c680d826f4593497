-- No rows are in order, on no shelves.
use Rattle.std.specs.List.Sorted.{IsStrictlySortedBy}
use Rattle.hazard_board.proofs.shelves.Shelves.new.Goals as goal

pub invariant_of-result : goal.invariant_of-result
unfolding IsStrictlySortedBy
invariant_of-result c = rw (c.new.ensures.items, c.new-2.ensures.items) (record { order = tt; starts = tt; within = tt })
