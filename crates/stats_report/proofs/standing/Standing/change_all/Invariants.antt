-- the runs so far were taken
use Rattle.std.proofs.Common.{take}
use Rattle.row_index.specs.Verdicts.{expand}
use Rattle.stats_report.specs.Spells.{kept_of}
use Rattle.stats_report.specs.Summed.{TakesLines}
use Rattle.stats_report.proofs.standing.Standing.change_all.Given as goal

abbrev pub invariant-loop-run : goal.invariant-loop-run
invariant-loop-run l = TakesLines l.moment (expand (take l.run-index l.runs)) (kept_of l.fn.self) (kept_of l.self)
