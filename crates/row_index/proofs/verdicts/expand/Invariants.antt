-- the runs so far are written
use Rattle.std.proofs.Common.{◌≡◌, take}
use Rattle.row_index.specs.Verdicts.{expand}
use Rattle.row_index.proofs.verdicts.expand.Given as goal

abbrev pub invariant-loop-run : goal.invariant-loop-run
invariant-loop-run l = l.out.items ≡ expand (take l.run-index l.runs)
