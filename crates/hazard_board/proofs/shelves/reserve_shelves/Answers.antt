-- A shelf that was parted gets room, and those behind it have it.
use Rattle.std.proofs.Common.{◌≡◌, ◌<◌, ◌+◌, ◌-◌, ℕ, length, drop, refl, subst, arith}
use Rattle.hazard_board.specs.Shelves.{HaveRoom}
use Rattle.hazard_board.specs.declared.shelves.Shelf.{Shelf}
use Rattle.hazard_board.proofs.PartLemmas.{set_kept_more, set_ready, kept_more}
use Rattle.hazard_board.proofs.shelves.reserve_shelves.Goals as goal

pub returns-in_err-split_shelf-clause-kept : goal.returns-in_err-split_shelf-clause-kept
returns-in_err-split_shelf-clause-kept c = kept_more c.args.n c.args.later.now.items c.loop-place.later.items c.split_shelf.new.later.items c.loop-place.invariant.kept c.in_err-split_shelf.ensures.kept

pub loop-place-preserved : goal.loop-place-preserved
loop-place-preserved c =
    let n = c.args.n in
    let place = c.loop-place.place - 1 in
    let was = c.loop-place.later.items in
    let now = c.split_shelf.new.later.items in
    let s = c.index_mut-shelf.result.now in
    let shelf : Shelf = record { from = s.from; rows = c.reserve.new.self } in
    let inside : place < length now = omega (arith, c.loop-place.invariant.count, c.loop-place-test.true, c.in_ok-split_shelf.ensures.length, c.split_shelf.new.later.ok.0) in
    let next : c.loop-place.place ≡ place + 1 = omega (arith, c.loop-place-test.true) in
    let ready = c.in_ok-split_shelf.ensures.behind (subst (λ (i : ℕ). HaveRoom n (drop i was)) next c.loop-place.invariant.ready) in
    record {
      kept = set_kept_more n c.args.later.now.items now place s shelf inside c.index_mut-shelf.ensures.value refl c.in_ok-reserve.ensures.items (omega (arith, c.in_ok-reserve.ensures.len, c.in_ok-reserve.ensures.capacity))
          (kept_more n c.args.later.now.items was now c.loop-place.invariant.kept c.in_ok-split_shelf.ensures.kept);
      count = omega (arith, c.loop-place.invariant.count, c.in_ok-split_shelf.ensures.length);
      ready = set_ready n now place shelf inside (omega (arith, c.in_ok-reserve.ensures.ok)) ready;
    }

pub returns-in_err-reserve-clause-kept : goal.returns-in_err-reserve-clause-kept
returns-in_err-reserve-clause-kept c =
    let s = c.index_mut-shelf.result.now in
    let shelf : Shelf = record { from = s.from; rows = c.reserve.new.self } in
    let inside : c.loop-place.place - 1 < length c.split_shelf.new.later.items = omega (arith, c.loop-place.invariant.count, c.loop-place-test.true, c.in_ok-split_shelf.ensures.length, c.split_shelf.new.later.ok.0) in
    set_kept_more c.args.n c.args.later.now.items c.split_shelf.new.later.items (c.loop-place.place - 1) s shelf inside c.index_mut-shelf.ensures.value refl c.in_err-reserve.ensures.items (omega (arith, c.in_err-reserve.ensures.len, c.in_err-reserve.ensures.capacity))
    (kept_more c.args.n c.args.later.now.items c.loop-place.later.items c.split_shelf.new.later.items c.loop-place.invariant.kept c.in_ok-split_shelf.ensures.kept)
