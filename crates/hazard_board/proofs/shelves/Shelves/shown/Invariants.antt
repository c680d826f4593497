-- the rows so far, and behind them the live ones of the shelves that are left, are all that are live
use Rattle.std.proofs.Common.{◌≡◌, ◌++◌, drop}
use Rattle.event_life.specs.Shown.{shown_at}
use Rattle.hazard_board.specs.Shelves.{on_shelves}
use Rattle.hazard_board.proofs.shelves.Shelves.shown.Given as goal

abbrev pub invariant-loop-shelf : goal.invariant-loop-shelf
invariant-loop-shelf l = l.shown.items ++ shown_at l.t (on_shelves (drop l.shelf-index l.shelf-items)) ≡ l.initial.shown.items ++ shown_at l.t (on_shelves l.shelf-items)
