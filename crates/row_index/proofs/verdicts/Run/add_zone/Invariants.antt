-- the verdicts so far are written
use Rattle.std.proofs.Common.{◌≡◌, ◌++◌, take}
use Rattle.row_index.specs.Verdicts.{expand_at}
use Rattle.row_index.proofs.verdicts.Run.add_zone.Given as goal

abbrev pub invariant-loop-verdict : goal.invariant-loop-verdict
invariant-loop-verdict l = l.out.items ≡ l.fn.out.items ++ expand_at (take l.verdict-index l.verdict-items) l.zone
