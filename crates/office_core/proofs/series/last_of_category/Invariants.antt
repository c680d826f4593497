-- the products that are left lead to the last of all
use Rattle.std.proofs.Common.{◌≡◌, drop, fold}
use Rattle.office_core.specs.Making.{later_number}
use Rattle.office_core.proofs.series.last_of_category.Given as goal

abbrev pub invariant-loop-sent : goal.invariant-loop-sent
invariant-loop-sent l = fold (later_number l.category) l.last (drop l.sent-index l.products) ≡ fold (later_number l.category) 0 l.products
