-- the shelves are kept, and those from the place on have room
use Rattle.std.proofs.Common.{◌≤◌, drop}
use Rattle.std.specs.Vec.{vec_len}
use Rattle.hazard_board.specs.Shelves.{HaveRoom, AreKept}
use Rattle.hazard_board.proofs.shelves.reserve_shelves.Given as goal

abbrev pub invariant-loop-place : goal.invariant-loop-place
invariant-loop-place l = record {
  kept : AreKept l.n l.initial.later.items l.later.items;
  count : l.place ≤ vec_len l.later;
  ready : HaveRoom l.n (drop l.place l.later.items);
}
