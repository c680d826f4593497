-- the least room so far and that of the shelves that are left make that of all
use Rattle.std.proofs.Common.{◌≡◌, drop}
use Rattle.hazard_board.specs.Shelves.{least_room}
use Rattle.hazard_board.proofs.shelves.Shelves.spare.Given as goal

abbrev pub invariant-loop-shelf : goal.invariant-loop-shelf
invariant-loop-shelf l = least_room l.least (drop l.shelf-index l.shelf-items) ≡ least_room l.initial.least l.shelf-items
