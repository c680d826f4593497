-- A row that is put on the shelf of its zone is put among all rows, which need no more memory than its shelf.
use Rattle.std.proofs.Common.{◌≡◌, ◌∙◌, ◌-◌, ◌≤◌, ◌<◌, ◌+◌, ◌++◌, suc, List, length, refl, ap, sym, subst, arith, length-append}
use Rattle.std.specs.Vec.{vec_len, vec_capacity}
use Rattle.hazard_types.specs.declared.line.Row.{Row}
use Rattle.event_life.specs.Products.{put}
use Rattle.hazard_board.specs.Board.{Posted}
use Rattle.hazard_board.specs.Shelves.{on_shelves, through, least_room}
use Rattle.hazard_board.specs.declared.shelves.Shelf.{Shelf}
use Rattle.hazard_board.proofs.PartLemmas.{shelf_at_sorted}
use Rattle.hazard_board.proofs.ShelfLemmas.{shelf_of, all_at, sorted_front, sorted_back, shelf_first, shelf_later, through_within, put_grows, put_first, put_later, shelved_first, shelved_later, least_fits, room_first, room_later}
use Rattle.hazard_board.proofs.Turns.{put_longer}
use Rattle.hazard_board.proofs.shelves.Shelves.put.Goals as goal
use Rattle.hazard_board.proofs.shelves.Shelves.put.Goals.{After-shelves_through-place, After-index_mut-shelf}

place_is : (c : After-shelves_through-place) → c.shelves_through-place.result ≡ through c.args.row.now.zone c.self.inside.later.items
place_is c = c.shelves_through-place.ensures.value ∙ ap (λ (later : List Shelf). through c.args.row.now.zone later) c.deref.ensures.value

enough : (c : After-shelves_through-place) → length (put c.args.row.now (c.self.inside.first.items ++ on_shelves c.self.inside.later.items)) ≤ least_room (vec_capacity c.self.inside.first - vec_len c.self.inside.first) c.self.inside.later.items + length (c.self.inside.first.items ++ on_shelves c.self.inside.later.items)
enough c = subst (λ (p : Posted). length (put c.args.row.now p.rows) ≤ p.spare + length p.rows) (sym c.self.view_is) c.requires

grows : (c : After-shelves_through-place) → length (put c.args.row.now (c.self.inside.first.items ++ on_shelves c.self.inside.later.items)) + length (shelf_of c.args.row.now.zone c.self.inside.first.items c.self.inside.later.items)
    ≡ length (c.self.inside.first.items ++ on_shelves c.self.inside.later.items) + length (put c.args.row.now (shelf_of c.args.row.now.zone c.self.inside.first.items c.self.inside.later.items))
grows c = put_grows c.args.row.now c.self.inside.first.items c.self.inside.later.items c.self.invariant

-- the row belongs among the first rows

pub add_within-requires-clause-order : goal.add_within-requires-clause-order
add_within-requires-clause-order c = sorted_front c.self.inside.first.items (on_shelves c.self.inside.later.items) c.self.invariant.order

pub add_within-requires-clause-room : goal.add_within-requires-clause-room
add_within-requires-clause-room c =
    let at = (goal.at.add_within-requires-clause-room c).After-shelves_through-place in
    let first = c.self.inside.first in
    let later = c.self.inside.later.items in
    let none : through c.args.row.now.zone later ≡ 0 = sym (place_is at) ∙ c.if-place-eq0.true in
    let shelf = shelf_first c.args.row.now.zone first.items later none in
    let was = ap length shelf in
    let now = ap (λ (rows : List Row). length (put c.args.row.now rows)) shelf in
    let long = grows at in
    let have = enough at in
    let low = (least_fits (least_room (vec_capacity first - vec_len first) later) (vec_capacity first - vec_len first) later (omega arith)).0 in
    omega (arith, was, now, long, have, low, first.ok.0, first.ok.1)

pub invariant_of-self : goal.invariant_of-self
invariant_of-self c =
    let at = (goal.at.invariant_of-self c).After-shelves_through-place in
    shelved_first c.args.row.now c.self.inside.first.items c.add_within.new.rows.items c.self.inside.later.items (sym (place_is at) ∙ c.if-place-eq0.true) c.add_within.ensures.rows c.self.invariant

pub returns-then-place-eq0-clause-rows : goal.returns-then-place-eq0-clause-rows
returns-then-place-eq0-clause-rows c =
    let at = (goal.at.returns-then-place-eq0-clause-rows c).After-shelves_through-place in
    put_first c.args.row.now c.self.inside.first.items c.self.inside.later.items c.self.invariant c.add_within.new.rows.items (sym (place_is at) ∙ c.if-place-eq0.true) c.add_within.ensures.rows
    ∙ ap (λ (p : Posted). put c.args.row.now p.rows) c.self.view_is

pub returns-then-place-eq0-clause-spare : goal.returns-then-place-eq0-clause-spare
returns-then-place-eq0-clause-spare c =
    let first = c.self.inside.first in
    let now = c.add_within.new.rows in
    let later = c.self.inside.later.items in
    let longer = (put_longer c.args.row.now first.items).0 in
    let long = ap length c.add_within.ensures.rows in
    let d = length now.items - length first.items in
    let low : vec_capacity first - vec_len first ≤ (vec_capacity now - vec_len now) + d = omega (arith, longer, long, c.add_within.ensures.capacity, first.ok.0, first.ok.1, now.ok.0) in
    let least = room_first d (vec_capacity first - vec_len first) (vec_capacity now - vec_len now) later low in
    let spare = ap (λ (p : Posted). p.spare) c.self.view_is in
    let rows = ap (λ (p : Posted). length p.rows) c.self.view_is in
    let one = length-append first.items (on_shelves later) in
    let two = length-append now.items (on_shelves later) in
    omega (arith, longer, long, least, spare, rows, one, two)

-- or on a later shelf

next : (c : After-index_mut-shelf) → c.shelves_through-place.result ≡ through c.args.row.now.zone c.self.inside.later.items → through c.args.row.now.zone c.self.inside.later.items ≡ suc (c.shelves_through-place.result - 1)
next c place = omega (arith, place, c.if-place-eq0.false)

inside : (c : After-index_mut-shelf) → c.shelves_through-place.result ≡ through c.args.row.now.zone c.self.inside.later.items → c.shelves_through-place.result - 1 < length c.self.inside.later.items
inside c place = through_within c.args.row.now.zone c.self.inside.later.items (c.shelves_through-place.result - 1) (next c place)

there : (c : After-index_mut-shelf) → c.shelves_through-place.result ≡ through c.args.row.now.zone c.self.inside.later.items → shelf_of c.args.row.now.zone c.self.inside.first.items c.self.inside.later.items ≡ c.index_mut-shelf.result.now.rows.items
there c place = shelf_later c.args.row.now.zone c.self.inside.first.items c.self.inside.later.items (c.shelves_through-place.result - 1) c.index_mut-shelf.result.now (next c place) c.index_mut-shelf.ensures.value

pub add_within-requires-else-place-eq0-clause-order : goal.add_within-requires-else-place-eq0-clause-order
add_within-requires-else-place-eq0-clause-order c =
    let at = goal.at.add_within-requires-else-place-eq0-clause-order c in
    let place = place_is at.After-shelves_through-place in
    shelf_at_sorted c.self.inside.later.items (c.shelves_through-place.result - 1) c.index_mut-shelf.result.now (inside at.After-index_mut-shelf place) c.index_mut-shelf.ensures.value (sorted_back c.self.inside.first.items (on_shelves c.self.inside.later.items) c.self.invariant.order)

pub add_within-requires-else-place-eq0-clause-room : goal.add_within-requires-else-place-eq0-clause-room
add_within-requires-else-place-eq0-clause-room c =
    let at = goal.at.add_within-requires-else-place-eq0-clause-room c in
    let place = place_is at.After-shelves_through-place in
    let first = c.self.inside.first in
    let later = c.self.inside.later.items in
    let s = c.index_mut-shelf.result.now in
    let was = ap length (there at.After-index_mut-shelf place) in
    let now = ap (λ (rows : List Row). length (put c.args.row.now rows)) (there at.After-index_mut-shelf place) in
    let long = grows at.After-shelves_through-place in
    let have = enough at.After-shelves_through-place in
    let m = least_room (vec_capacity first - vec_len first) later in
    let fits = least_fits m (vec_capacity first - vec_len first) later (omega arith) in
    let low : m ≤ vec_capacity s.rows - vec_len s.rows = all_at (λ (x : Shelf). m ≤ vec_capacity x.rows - vec_len x.rows) later (c.shelves_through-place.result - 1) s (inside at.After-index_mut-shelf place) c.index_mut-shelf.ensures.value fits.1 in
    omega (arith, was, now, long, have, low, s.rows.ok.0, s.rows.ok.1)

pub invariant_of-self-else-place-eq0 : goal.invariant_of-self-else-place-eq0
invariant_of-self-else-place-eq0 c =
    let at = goal.at.invariant_of-self-else-place-eq0 c in
    let place = place_is at.After-shelves_through-place in
    shelved_later c.args.row.now c.self.inside.first.items c.self.inside.later.items (c.shelves_through-place.result - 1) c.index_mut-shelf.result.now (record { from = c.index_mut-shelf.result.now.from; rows = c.add_within-else-place-eq0.new.rows }) (next at.After-index_mut-shelf place) c.index_mut-shelf.ensures.value refl c.add_within-else-place-eq0.ensures.rows c.self.invariant

pub returns-else-place-eq0-clause-rows : goal.returns-else-place-eq0-clause-rows
returns-else-place-eq0-clause-rows c =
    let at = goal.at.returns-else-place-eq0-clause-rows c in
    let place = place_is at.After-shelves_through-place in
    put_later c.args.row.now c.self.inside.first.items c.self.inside.later.items c.self.invariant (c.shelves_through-place.result - 1) c.index_mut-shelf.result.now (record { from = c.index_mut-shelf.result.now.from; rows = c.add_within-else-place-eq0.new.rows }) (next at.After-index_mut-shelf place) c.index_mut-shelf.ensures.value c.add_within-else-place-eq0.ensures.rows
    ∙ ap (λ (p : Posted). put c.args.row.now p.rows) c.self.view_is

pub returns-else-place-eq0-clause-spare : goal.returns-else-place-eq0-clause-spare
returns-else-place-eq0-clause-spare c =
    let at = goal.at.returns-else-place-eq0-clause-spare c in
    let place = place_is at.After-shelves_through-place in
    let row = c.args.row.now in
    let first = c.self.inside.first in
    let later = c.self.inside.later.items in
    let k = c.shelves_through-place.result - 1 in
    let s = c.index_mut-shelf.result.now in
    let rows = c.add_within-else-place-eq0.new.rows in
    let now : Shelf = record { from = s.from; rows = rows } in
    let longer = (put_longer row s.rows.items).0 in
    let long = ap length c.add_within-else-place-eq0.ensures.rows in
    let d = length rows.items - length s.rows.items in
    let low : vec_capacity s.rows - vec_len s.rows ≤ (vec_capacity rows - vec_len rows) + d = omega (arith, longer, long, c.add_within-else-place-eq0.ensures.capacity, s.rows.ok.0, s.rows.ok.1, rows.ok.0) in
    let least = room_later d (vec_capacity first - vec_len first) later k s now (inside at.After-index_mut-shelf place) c.index_mut-shelf.ensures.value low in
    let spare = ap (λ (p : Posted). p.spare) c.self.view_is in
    let all = ap (λ (p : Posted). length p.rows) c.self.view_is in
    let total = ap length (put_later row first.items later c.self.invariant k s now (next at.After-index_mut-shelf place) c.index_mut-shelf.ensures.value c.add_within-else-place-eq0.ensures.rows) in
    let grown = grows at.After-shelves_through-place in
    let was = ap length (there at.After-index_mut-shelf place) in
    let put_long = ap (λ (some : List Row). length (put row some)) (there at.After-index_mut-shelf place) in
    omega (arith, longer, long, least, spare, all, total, grown, was, put_long)
