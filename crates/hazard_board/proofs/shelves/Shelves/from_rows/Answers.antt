-- Rows in order, on no later shelves.
use Rattle.std.proofs.Common.{sym, subst}
use Rattle.std.specs.List.Sorted.{IsStrictlySortedBy}
use Rattle.std.proofs.lemmas.List.{append-nil}
use Rattle.event_life.specs.Products.{by_key}
use Rattle.hazard_board.proofs.shelves.Shelves.from_rows.Goals as goal

pub invariant_of-result : goal.invariant_of-result
unfolding IsStrictlySortedBy
invariant_of-result c =
    rw (c.new.ensures.items) (record { order = subst (IsStrictlySortedBy by_key) (sym (append-nil c.args.rows.items)) c.requires; starts = tt; within = tt })
