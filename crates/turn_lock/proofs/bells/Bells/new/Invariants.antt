use Rattle.std.proofs.Common.{◌≡◌, ◌≤◌, length}
use Rattle.std.specs.Prelude.{vec_capacity}
use Rattle.turn_lock.proofs.bells.Bells.new.Given as goal

abbrev pub invariant-loop : goal.invariant-loop
invariant-loop l = record {
  count : length l.row.items ≡ l.counter;
  room : 64 ≤ vec_capacity l.row;
}
