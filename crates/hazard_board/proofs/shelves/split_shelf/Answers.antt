-- The rows of the shelf stand in order.
use Rattle.std.proofs.Common.{◌<◌, length, arith}
use Rattle.hazard_board.proofs.PartLemmas.{shelf_at_sorted}
use Rattle.hazard_board.proofs.shelves.split_shelf.Goals as goal

pub cut_of-requires : goal.cut_of-requires
cut_of-requires c =
    let inside : c.args.place < length c.args.later.now.items = omega (arith, c.requires.place, c.args.later.now.ok.0) in
    rw (c.deref.ensures.value) (shelf_at_sorted c.args.later.now.items c.args.place c.index-shelf.result.now inside c.index-shelf.ensures c.requires.order)
