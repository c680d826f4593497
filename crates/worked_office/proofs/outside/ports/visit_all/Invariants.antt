use Rattle.std.proofs.Common.{◌≡◌, ◌≤◌, length}
use Rattle.worked_office.proofs.outside.ports.visit_all.Given as goal

abbrev pub invariant-loop : goal.invariant-loop
invariant-loop l = record {
  none_out : l.door.given ≡ length l.door.back;
  few : length l.door.back ≤ l.counter;
  within : l.counter ≤ l.visits;
}
