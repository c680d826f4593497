-- The rows of a list of products are in order.
use Rattle.std.proofs.Common.{List, [], ◌∷◌, fold}
use Rattle.std.specs.List.Sorted.{IsStrictlySortedBy}
use Rattle.hazard_types.specs.declared.line.Row.{Row}
use Rattle.event_life.specs.Products.{Product, by_key, lines_of, rows_with, rows_of}
use Rattle.event_life.proofs.Puts.{rows_after-sorted}

sorted_from : (rows : List Row) (products : List Product) → IsStrictlySortedBy by_key rows → IsStrictlySortedBy by_key (fold rows_with rows products)
sorted_from rows [] up = up
sorted_from rows (p ∷ products) up = sorted_from (rows_with rows p) products (rows_after-sorted rows p.issue (lines_of rows p.issue p.said) up)

pub rows_of-sorted : (products : List Product) → IsStrictlySortedBy by_key (rows_of products)
unfolding IsStrictlySortedBy
rows_of-sorted products = sorted_from [] products tt
