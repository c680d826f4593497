use Rattle.std.proofs.Common.{◌≡◌, ◌≤◌, drop, fold}
use Rattle.program_ends.specs.Numbers.{spelled, with_digit}
use Rattle.program_ends.proofs.numbers.number_in.Given as goal

-- the digits that are left make the number whole
abbrev pub invariant-loop-digit : goal.invariant-loop-digit
invariant-loop-digit l = record {
  whole : fold with_digit l.number (drop l.digit-index l.word) ≡ spelled l.word;
  low : l.number ≤ l.fn.most;
}
