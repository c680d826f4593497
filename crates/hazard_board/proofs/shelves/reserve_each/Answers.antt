-- Each shelf keeps the room that it had, and has the room that is wanted at the end.
use Rattle.std.proofs.Common.{◌≤◌, ℕ, List, arith}
use Rattle.hazard_board.specs.Shelves.{on_shelves, least_room, HaveRoom}
use Rattle.hazard_board.specs.declared.shelves.Shelf.{Shelf}
use Rattle.hazard_board.proofs.ShelfLemmas.{sorted_back, least_fits, fits_least}
use Rattle.hazard_board.proofs.shelves.reserve_each.Goals as goal

pub reserve_shelves-requires : goal.reserve_shelves-requires
reserve_shelves-requires c = sorted_back c.args.first.now.items (on_shelves c.args.later.now.items) c.requires.order

-- the least room is no less where each is no less
least_kept : (n a b : ℕ) (was now : List Shelf) → a ≤ b → ((m : ℕ) → m ≤ n → HaveRoom m was → HaveRoom m now) → least_room a was ≤ n → least_room a was ≤ least_room b now
least_kept n a b was now more kept low =
    let m = least_room a was in
    let fits = least_fits m a was (omega arith) in
    fits_least m b now (let own = fits.0 in omega (arith, own, more)) (kept m low fits.1)

pub returns-in_err-reserve_shelves-clause-spare : goal.returns-in_err-reserve_shelves-clause-spare
returns-in_err-reserve_shelves-clause-spare c =
    least_kept c.args.n _ _ c.args.later.now.items c.reserve_shelves.new.later.items (omega arith) c.in_err-reserve_shelves.ensures.kept.room

pub returns-in_err-split_first_shelf-clause-spare : goal.returns-in_err-split_first_shelf-clause-spare
returns-in_err-split_first_shelf-clause-spare c =
    least_kept c.args.n _ _ c.args.later.now.items c.split_first_shelf.new.later.items c.in_err-split_first_shelf.ensures.spare (λ m low have. c.in_err-split_first_shelf.ensures.room m low (c.in_ok-reserve_shelves.ensures.kept.room m low have))

pub returns-in_err-reserve-clause-spare : goal.returns-in_err-reserve-clause-spare
returns-in_err-reserve-clause-spare c =
    least_kept c.args.n _ _ c.args.later.now.items c.split_first_shelf.new.later.items (omega (arith, c.in_ok-split_first_shelf.ensures.spare, c.in_err-reserve.ensures.len, c.in_err-reserve.ensures.capacity)) (λ m low have. c.in_ok-split_first_shelf.ensures.room m low (c.in_ok-reserve_shelves.ensures.kept.room m low have))

pub returns-clause-spare : goal.returns-clause-spare
returns-clause-spare c =
    least_kept c.args.n _ _ c.args.later.now.items c.split_first_shelf.new.later.items (omega (arith, c.in_ok-split_first_shelf.ensures.spare, c.in_ok-reserve.ensures.len, c.in_ok-reserve.ensures.capacity)) (λ m low have. c.in_ok-split_first_shelf.ensures.room m low (c.in_ok-reserve_shelves.ensures.kept.room m low have))

pub returns-clause-ok : goal.returns-clause-ok
returns-clause-ok c =
    fits_least c.args.n _ c.split_first_shelf.new.later.items (omega (arith, c.in_ok-reserve.ensures.ok)) (c.in_ok-split_first_shelf.ensures.room c.args.n (omega arith) c.in_ok-reserve_shelves.ensures.ok)
