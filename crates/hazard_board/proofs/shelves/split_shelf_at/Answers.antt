-- The rows in front of the place and those from it on are two shelves in the place of one.
use Rattle.std.proofs.Common.{◌≡◌, ◌∙◌, ◌≤◌, ◌<◌, ◌+◌, List, length, get_or, take, drop, slice_set, ap, sym, subst, arith}
use Rattle.std.specs.Vec.{vec_len, vec_capacity}
use Rattle.std.proofs.lemmas.List.Edits.{get_or-insert_below}
use Rattle.hazard_types.specs.declared.line.Row.{Row}
use Rattle.hazard_board.specs.Shelves.{HaveRoom, AreKept, IsZoneAt}
use Rattle.hazard_board.specs.declared.shelves.Shelf.{Shelf}
use Rattle.hazard_board.proofs.PartLemmas.{ArePartsAt, parts_from, part_kept, part_ready, shelf_at_sorted, same_at, room}
use Rattle.hazard_board.proofs.shelves.split_shelf_at.Goals as goal

pub returns-clause-kept : goal.returns-clause-kept
returns-clause-kept c =
    let later = c.args.later.now.items in
    let place = c.args.place in
    let s = c.index-shelf.result.now in
    let m = c.index_mut-shelf.result.now in
    let back = c.in_ok-back.back in
    let front : Shelf = record { from = m.from; rows = c.truncate.new.self } in
    let inside : place < length later = omega (arith, c.requires.place, c.args.later.now.ok.0) in
    let read : m ≡ get_or later place m =
    c.index_mut-shelf.ensures.value ∙ ap (λ (shelves : List Shelf). get_or shelves place m) c.in_ok-insert.ensures.items ∙ get_or-insert_below later (place + 1) back m place (omega arith) (omega (arith, inside)) in
    let same : m ≡ s = same_at later place m s inside read c.index-shelf.ensures in
    let sorted = shelf_at_sorted later place s inside c.index-shelf.ensures c.requires.order in
    let zone = subst (λ (rows : List Row). IsZoneAt rows c.args.at back.from) c.deref.ensures.value c.in_ok-back.ensures.from in
    let parts : ArePartsAt back.from s.rows.items front.rows.items back.rows.items =
    parts_from s.rows.items front.rows.items back.rows.items c.args.at back.from sorted (c.requires.cut s c.index-shelf.ensures) zone
    (c.truncate.ensures.items ∙ ap (λ (x : Shelf). take c.args.at x.rows.items) same) (c.in_ok-back.ensures.rows ∙ ap (drop c.args.at) c.deref.ensures.value) in
    let capacity = ap (λ (x : Shelf). vec_capacity x.rows) same in
    let len = ap (λ (x : Shelf). vec_len x.rows) same in
    let more : room s ≤ room front = omega (arith, capacity, len, c.truncate.ensures.capacity, c.truncate.ensures.len) in
    let enough : c.args.n ≤ room back = omega (arith, c.in_ok-back.ensures.room) in
    subst (λ (shelves : List Shelf). AreKept c.args.n later (slice_set shelves place front)) (sym c.in_ok-insert.ensures.items)
    (part_kept c.args.n later place s front back inside c.index-shelf.ensures (ap (λ (x : Shelf). x.from) same) parts more enough)

pub returns-clause-behind : goal.returns-clause-behind
returns-clause-behind c have =
    let later = c.args.later.now.items in
    let place = c.args.place in
    let back = c.in_ok-back.back in
    let front : Shelf = record { from = c.index_mut-shelf.result.now.from; rows = c.truncate.new.self } in
    let inside : place < length later = omega (arith, c.requires.place, c.args.later.now.ok.0) in
    let enough : c.args.n ≤ room back = omega (arith, c.in_ok-back.ensures.room) in
    subst (λ (shelves : List Shelf). HaveRoom c.args.n (drop (place + 1) (slice_set shelves place front))) (sym c.in_ok-insert.ensures.items) (part_ready c.args.n later place front back inside enough have)
