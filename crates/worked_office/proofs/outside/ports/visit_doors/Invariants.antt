use Rattle.std.proofs.Common.{◌≤◌, ◌+◌, ◌*◌, All, length}
use Rattle.desk_links.specs.LinkMemory.{IsIdle, all_links}
use Rattle.worked_office.proofs.outside.ports.visit_doors.Given as goal

abbrev pub invariant-loop-door : goal.invariant-loop-door
invariant-loop-door l = record {
  can : (goal.iterator-loop-door).can_next l.door-iterator;
  ends : (goal.iterator-loop-door).is_finite l.door-iterator;
  idle : All IsIdle l.door-iterator.rest.items;
  few : length (all_links l.port.back) + 255 * length l.door-iterator.rest.items ≤ 65025;
}
