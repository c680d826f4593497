use Rattle.std.proofs.Common.{◌≡◌, ◌≤◌, length}
use Rattle.worked_office.proofs.outside.ports.dial_all.Given as goal

abbrev pub invariant-loop : goal.invariant-loop
invariant-loop l = record {
  none_out : l.dialer.given ≡ length l.dialer.back;
  few : length l.dialer.back ≤ l.counter;
  within : l.counter ≤ l.dials;
}
