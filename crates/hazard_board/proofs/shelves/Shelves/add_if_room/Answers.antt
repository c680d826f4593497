-- A row that is put on the shelf of its zone is put among all rows; where it is not, they are as before.
use Rattle.std.proofs.Common.{◌≡◌, ◌∙◌, ◌-◌, ◌<◌, ◌++◌, suc, List, length, refl, ap, sym, subst, arith, slice_set}
use Rattle.hazard_types.specs.declared.line.Row.{Row}
use Rattle.event_life.specs.Products.{put}
use Rattle.hazard_board.specs.Board.{Posted}
use Rattle.hazard_board.specs.Shelves.{on_shelves, through, AreShelved, AreKept}
use Rattle.hazard_board.specs.declared.shelves.Shelf.{Shelf}
use Rattle.hazard_board.proofs.LiveLemmas.{if_kept, if_told}
use Rattle.hazard_board.proofs.PartLemmas.{shelf_at_sorted, set_kept}
use Rattle.hazard_board.proofs.ShelfLemmas.{sorted_front, sorted_back, through_within, put_first, put_later, shelved_first, shelved_later}
use Rattle.hazard_board.proofs.shelves.Shelves.add_if_room.Goals as goal
use Rattle.hazard_board.proofs.shelves.Shelves.add_if_room.Goals.{After-shelves_through-place, After-index_mut-shelf, After-add_if_fits-else-place-eq0}

place_is : (c : After-shelves_through-place) → c.shelves_through-place.result ≡ through c.args.row.now.zone c.self.inside.later.items
place_is c = c.shelves_through-place.ensures.value ∙ ap (λ (later : List Shelf). through c.args.row.now.zone later) c.deref.ensures.value

-- the row belongs among the first rows

pub add_if_fits-requires : goal.add_if_fits-requires
add_if_fits-requires c = sorted_front c.self.inside.first.items (on_shelves c.self.inside.later.items) c.self.invariant.order

pub invariant_of-self : goal.invariant_of-self
invariant_of-self c =
    let place = place_is (goal.at.invariant_of-self c).After-shelves_through-place in
    let first = c.self.inside.first.items in
    let now = c.add_if_fits.new.rows.items in
    let later = c.self.inside.later.items in
    if_kept c.add_if_fits.result (λ (rows : List Row). AreShelved rows later) now (put c.args.row.now first) first c.add_if_fits.ensures.rows
    (λ is. shelved_first c.args.row.now first now later (sym place ∙ c.if-place-eq0.true) is c.self.invariant)
    (λ is. subst (λ (rows : List Row). AreShelved rows later) (sym is) c.self.invariant)

pub returns-then-place-eq0 : goal.returns-then-place-eq0
returns-then-place-eq0 c =
    let place = place_is (goal.at.returns-then-place-eq0 c).After-shelves_through-place in
    let row = c.args.row.now in
    let first = c.self.inside.first.items in
    let now = c.add_if_fits.new.rows.items in
    let later = c.self.inside.later.items in
    if_told c.add_if_fits.result now (put row first) first (now ++ on_shelves later) (put row c.args.self.now.rows) c.args.self.now.rows c.add_if_fits.ensures.rows
    (λ is. put_first row first later c.self.invariant now (sym place ∙ c.if-place-eq0.true) is ∙ ap (λ (p : Posted). put row p.rows) c.self.view_is)
    (λ is. ap (λ (rows : List Row). rows ++ on_shelves later) is ∙ ap (λ (p : Posted). p.rows) c.self.view_is)

-- or on a later shelf

next : (c : After-index_mut-shelf) → c.shelves_through-place.result ≡ through c.args.row.now.zone c.self.inside.later.items → through c.args.row.now.zone c.self.inside.later.items ≡ suc (c.shelves_through-place.result - 1)
next c place = omega (arith, place, c.if-place-eq0.false)

inside : (c : After-index_mut-shelf) → c.shelves_through-place.result ≡ through c.args.row.now.zone c.self.inside.later.items → c.shelves_through-place.result - 1 < length c.self.inside.later.items
inside c place = through_within c.args.row.now.zone c.self.inside.later.items (c.shelves_through-place.result - 1) (next c place)

pub add_if_fits-requires-else-place-eq0 : goal.add_if_fits-requires-else-place-eq0
add_if_fits-requires-else-place-eq0 c =
    let at = goal.at.add_if_fits-requires-else-place-eq0 c in
    let place = place_is at.After-shelves_through-place in
    shelf_at_sorted c.self.inside.later.items (c.shelves_through-place.result - 1) c.index_mut-shelf.result.now (inside at.After-index_mut-shelf place) c.index_mut-shelf.ensures.value (sorted_back c.self.inside.first.items (on_shelves c.self.inside.later.items) c.self.invariant.order)

-- the shelf with the rows that are left on it
abbrev shelf_now : After-add_if_fits-else-place-eq0 → Shelf
shelf_now c = record { from = c.index_mut-shelf.result.now.from; rows = c.add_if_fits-else-place-eq0.new.rows }

-- a shelf whose rows are as before
kept : (c : After-add_if_fits-else-place-eq0) → c.shelves_through-place.result - 1 < length c.self.inside.later.items → c.add_if_fits-else-place-eq0.new.rows.items ≡ c.index_mut-shelf.result.now.rows.items →
    AreKept 0 c.self.inside.later.items (slice_set c.self.inside.later.items (c.shelves_through-place.result - 1) (shelf_now c))
kept c within is =
    let s = c.index_mut-shelf.result.now in
    let long = ap length is in
    set_kept 0 c.self.inside.later.items (c.shelves_through-place.result - 1) s (shelf_now c) within c.index_mut-shelf.ensures.value refl is (omega (arith, long, c.add_if_fits-else-place-eq0.ensures.capacity, s.rows.ok.0, c.add_if_fits-else-place-eq0.new.rows.ok.0))

pub invariant_of-self-else-place-eq0 : goal.invariant_of-self-else-place-eq0
invariant_of-self-else-place-eq0 c =
    let at = goal.at.invariant_of-self-else-place-eq0 c in
    let place = place_is at.After-shelves_through-place in
    let later = c.self.inside.later.items in
    let s = c.index_mut-shelf.result.now in
    let now = shelf_now at.After-add_if_fits-else-place-eq0 in
    if_kept c.add_if_fits-else-place-eq0.result (λ (some : List Row). AreShelved c.self.inside.first.items (slice_set later (c.shelves_through-place.result - 1) now)) now.rows.items (put c.args.row.now s.rows.items) s.rows.items c.add_if_fits-else-place-eq0.ensures.rows
    (λ is. shelved_later c.args.row.now c.self.inside.first.items later (c.shelves_through-place.result - 1) s now (next at.After-index_mut-shelf place) c.index_mut-shelf.ensures.value refl is c.self.invariant)
    (λ is. (kept at.After-add_if_fits-else-place-eq0 (inside at.After-index_mut-shelf place) is).shelved c.self.inside.first.items c.self.invariant)

pub returns-else-place-eq0 : goal.returns-else-place-eq0
returns-else-place-eq0 c =
    let at = goal.at.returns-else-place-eq0 c in
    let place = place_is at.After-shelves_through-place in
    let row = c.args.row.now in
    let first = c.self.inside.first.items in
    let k = c.shelves_through-place.result - 1 in
    let s = c.index_mut-shelf.result.now in
    let now = shelf_now at.After-add_if_fits-else-place-eq0 in
    if_told c.add_if_fits-else-place-eq0.result now.rows.items (put row s.rows.items) s.rows.items (first ++ on_shelves (slice_set c.self.inside.later.items k now)) (put row c.args.self.now.rows) c.args.self.now.rows c.add_if_fits-else-place-eq0.ensures.rows
    (λ is. put_later row first c.self.inside.later.items c.self.invariant k s now (next at.After-index_mut-shelf place) c.index_mut-shelf.ensures.value is ∙ ap (λ (p : Posted). put row p.rows) c.self.view_is)
    (λ is. ap (λ (some : List Row). first ++ some) (kept at.After-add_if_fits-else-place-eq0 (inside at.After-index_mut-shelf place) is).rows ∙ ap (λ (p : Posted). p.rows) c.self.view_is)
