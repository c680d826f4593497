-- the lines so far were taken
use Rattle.std.proofs.Common.{take}
use Rattle.stats_report.specs.Spells.{kept_of}
use Rattle.stats_report.proofs.Spelling.{TakesVerdicts}
use Rattle.stats_report.proofs.standing.Standing.change_verdicts.Given as goal

abbrev pub invariant-loop-verdict : goal.invariant-loop-verdict
invariant-loop-verdict l = TakesVerdicts l.moment (take l.verdict-index l.verdicts) l.places (kept_of l.fn.self) (kept_of l.self)
