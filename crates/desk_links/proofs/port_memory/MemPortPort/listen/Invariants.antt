use Rattle.std.proofs.Common.{◌≡◌, ◌≤◌, ◌<◌, ◌-◌, ◌++◌, All, length}
use Rattle.std.specs.Prelude.{vec_capacity}
use Rattle.desk_links.specs.LinkMemory.{dealt, IsIdle}
use Rattle.desk_links.proofs.port_memory.MemPortPort.listen.Given as goal

-- the doors dealt out so far, and the others, are those that are to be dealt out
abbrev pub invariant-loop : goal.invariant-loop
invariant-loop l = record {
  count : length l.list.items ≡ l.counter;
  within : l.counter ≤ l.fn.doors;
  room : l.fn.doors ≤ vec_capacity l.list;
  dealt : l.list.items ++ dealt (l.fn.doors - l.counter) l.self-inside.doors.items ≡ dealt l.fn.doors l.fn.self.doors;
  idle : All IsIdle l.self-inside.doors.items;
  back : l.self-inside.back ≡ l.fn.self.back;
  faults : l.self-inside.faults ≡ l.fn.self.faults;
  numbers : l.self-inside.numbers.items ≡ l.fn.self.numbers;
  spare : length l.self-inside.numbers.items < vec_capacity l.self-inside.numbers;
}
