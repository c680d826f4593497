-- The rows of a zone stand on the last shelf that begins with it or before it.
use Rattle.std.proofs.Common.{◌≡◌, ◌∙◌, ◌-◌, suc, List, ap, sym, arith}
use Rattle.std.specs.List.Sorted.{IsStrictlySortedBy}
use Rattle.event_life.specs.Products.{by_key}
use Rattle.hazard_board.specs.Board.{Posted, slice_of}
use Rattle.hazard_board.specs.Shelves.{through}
use Rattle.hazard_board.specs.declared.shelves.Shelf.{Shelf}
use Rattle.hazard_board.proofs.ShelfLemmas.{shelf_of, slice_shelf, shelf_sorted, shelf_first, shelf_later}
use Rattle.hazard_board.proofs.shelves.Shelves.shelf.Goals as goal
use Rattle.hazard_board.proofs.shelves.Shelves.shelf.Goals.{After-shelves_through-place, After-index}

place_is : (c : After-shelves_through-place) → c.shelves_through-place.result ≡ through c.args.z.now c.self.inside.later.items
place_is c = c.shelves_through-place.ensures.value ∙ ap (λ (later : List Shelf). through c.args.z.now later) c.deref.ensures.value

sliced : (c : After-shelves_through-place) → slice_of c.args.z.now (shelf_of c.args.z.now c.self.inside.first.items c.self.inside.later.items) ≡ slice_of c.args.z.now c.args.self.now.rows
sliced c = slice_shelf c.args.z.now c.self.inside.first.items c.self.inside.later.items c.self.invariant ∙ ap (λ (p : Posted). slice_of c.args.z.now p.rows) c.self.view_is

ordered : (c : After-shelves_through-place) → IsStrictlySortedBy by_key (shelf_of c.args.z.now c.self.inside.first.items c.self.inside.later.items)
ordered c = shelf_sorted c.args.z.now c.self.inside.first.items c.self.inside.later.items c.self.invariant.order

pub returns-then-place-eq0-clause-rows : goal.returns-then-place-eq0-clause-rows
returns-then-place-eq0-clause-rows c =
    let at = (goal.at.returns-then-place-eq0-clause-rows c).After-shelves_through-place in
    let none : through c.args.z.now c.self.inside.later.items ≡ 0 = sym (place_is at) ∙ c.if-place-eq0.true in
    ap (slice_of c.args.z.now) (c.deref-then-place-eq0.ensures.value ∙ sym (shelf_first c.args.z.now c.self.inside.first.items c.self.inside.later.items none)) ∙ sliced at

pub returns-then-place-eq0-clause-order : goal.returns-then-place-eq0-clause-order
returns-then-place-eq0-clause-order c =
    let at = (goal.at.returns-then-place-eq0-clause-order c).After-shelves_through-place in
    let none : through c.args.z.now c.self.inside.later.items ≡ 0 = sym (place_is at) ∙ c.if-place-eq0.true in
    rw (c.deref-then-place-eq0.ensures.value ∙ sym (shelf_first c.args.z.now c.self.inside.first.items c.self.inside.later.items none)) (ordered at)

there : (c : After-index) → c.shelves_through-place.result ≡ through c.args.z.now c.self.inside.later.items → c.index.result.now.rows.items ≡ shelf_of c.args.z.now c.self.inside.first.items c.self.inside.later.items
there c place =
    let next : through c.args.z.now c.self.inside.later.items ≡ suc (c.shelves_through-place.result - 1) = omega (arith, place, c.if-place-eq0.false) in
    sym (shelf_later c.args.z.now c.self.inside.first.items c.self.inside.later.items (c.shelves_through-place.result - 1) c.index.result.now next c.index.ensures)

pub returns-else-place-eq0-clause-rows : goal.returns-else-place-eq0-clause-rows
returns-else-place-eq0-clause-rows c =
    let at = goal.at.returns-else-place-eq0-clause-rows c in
    ap (slice_of c.args.z.now) (c.deref-else-place-eq0.ensures.value ∙ there at.After-index (place_is at.After-shelves_through-place)) ∙ sliced at.After-shelves_through-place

pub returns-else-place-eq0-clause-order : goal.returns-else-place-eq0-clause-order
returns-else-place-eq0-clause-order c =
    let at = goal.at.returns-else-place-eq0-clause-order c in
    rw (c.deref-else-place-eq0.ensures.value ∙ there at.After-index (place_is at.After-shelves_through-place)) (ordered at.After-shelves_through-place)
