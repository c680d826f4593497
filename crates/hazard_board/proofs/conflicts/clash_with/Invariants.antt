-- the rows that are left decide as all of them do
use Rattle.std.proofs.Common.{◌≡◌, drop, find}
use Rattle.hazard_board.specs.Clashes.{clash}
use Rattle.hazard_board.proofs.conflicts.clash_with.Given as goal

abbrev pub invariant-loop-second : goal.invariant-loop-second
invariant-loop-second l = find (clash l.t l.first) (drop l.second-index l.others) ≡ find (clash l.t l.first) l.others
