use Rattle.std.proofs.Common.{◌≡◌, ◌≤◌, All, length}
use Rattle.std.specs.Prelude.{vec_capacity}
use Rattle.desk_links.proofs.tcp.doors_over.Given as goal

-- none of the doors made so far was used
abbrev pub invariant-loop : goal.invariant-loop
invariant-loop g l = record {
  count : length l.list.items ≡ l.counter;
  room : l.fn.doors ≤ vec_capacity l.list;
  unused : All (λ door. (door.given ≡ 0) × (door.returned ≡ 0) × (door.faults ≡ 0)) l.list.items;
}
