use Rattle.std.proofs.Common.{List, subst, arith}
use Rattle.std.proofs.lemmas.List.{take_all}
use Rattle.row_index.specs.Verdicts.{expand}
use Rattle.row_index.specs.declared.verdicts.Run.{Run}
use Rattle.stats_report.specs.Spells.{kept_of}
use Rattle.stats_report.specs.Summed.{TakesLines}
use Rattle.stats_report.proofs.Spelling.{run_more}
use Rattle.stats_report.proofs.standing.Standing.change_all.Goals as goal

pub loop-run-preserved : goal.loop-run-preserved
loop-run-preserved c =
    run_more c.args.moment.now (kept_of c.args.self.now) (kept_of c.loop-run.self) (kept_of c.change_run.new.self) c.args.runs.now c.loop-run.run-index c.run-item.result
    c.loop-run-test.true c.run-item.is c.loop-run.invariant c.in_ok-change_run.ensures

pub returns : goal.returns
returns c =
    let all = take_all c.loop-run.run-index c.args.runs.now (omega (arith, c.loop-run-test.false)) in
    subst (λ (rs : List Run). TakesLines c.args.moment.now (expand rs) (kept_of c.args.self.now) (kept_of c.loop-run.self)) all c.loop-run.invariant
