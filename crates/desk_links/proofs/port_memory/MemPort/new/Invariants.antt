use Rattle.std.proofs.Common.{◌≡◌, ◌+◌, ◌++◌, All, length, drop}
use Rattle.desk_links.specs.LinkMemory.{doors_with, IsUntouched}
use Rattle.desk_links.proofs.port_memory.MemPort.new.Given as goal

-- the doors made so far, and those to come, are the doors of all lists
abbrev pub invariant-loop-list : goal.invariant-loop-list
invariant-loop-list l = record {
  can : (goal.iterator-loop-list).can_next l.list-iterator;
  ends : (goal.iterator-loop-list).is_finite l.list-iterator;
  place : l.place + length l.list-iterator.rest.items ≡ length l.fn.links;
  doors : l.doors.items ++ doors_with l.list-iterator.rest.items (drop l.place l.fn.failing) ≡ doors_with l.fn.links l.fn.failing;
  untouched : All (λ list. All IsUntouched list) l.list-iterator.rest.items;
}
