-- the first clash of the rows that are left is that of all
use Rattle.std.proofs.Common.{◌≡◌, drop}
use Rattle.hazard_board.specs.Clashes.{first_clash}
use Rattle.hazard_board.proofs.conflicts.first_clash.Given as goal

abbrev pub invariant-loop-place : goal.invariant-loop-place
invariant-loop-place l = first_clash l.t (drop l.place l.rows) ≡ first_clash l.t l.rows
