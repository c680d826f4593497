use Rattle.std.proofs.Common.{◌≡◌, ◌≤◌, min, drop}
use Rattle.warn_http.specs.Numbers.{number_from}
use Rattle.warn_http.proofs.numbers.capped.Given as goal

abbrev pub invariant-loop-digit : goal.invariant-loop-digit
invariant-loop-digit l = record {
  low : l.number ≤ 4294967296;
  left : min 4294967296 (number_from l.number (drop l.digit-index l.digits)) ≡ min 4294967296 (number_from 0 l.digits);
}
