use Rattle.std.proofs.Common.{List, subst, arith}
use Rattle.std.proofs.lemmas.List.{take_all}
use Rattle.row_index.specs.declared.verdicts.Verdict.{Verdict}
use Rattle.stats_report.specs.Spells.{kept_of}
use Rattle.stats_report.proofs.Spelling.{TakesVerdicts, verdict_more}
use Rattle.stats_report.proofs.standing.Standing.change_verdicts.Goals as goal

pub loop-verdict-preserved : goal.loop-verdict-preserved
loop-verdict-preserved c =
    verdict_more c.args.moment.now (kept_of c.args.self.now) (kept_of c.loop-verdict.self) (kept_of c.change_verdict.new.self) c.args.verdicts.now c.loop-verdict.verdict-index c.verdict-item.result c.args.places.now
    c.loop-verdict-test.true c.verdict-item.is c.loop-verdict.invariant c.in_ok-change_verdict.ensures

pub returns : goal.returns
returns c =
    let all = take_all c.loop-verdict.verdict-index c.args.verdicts.now (omega (arith, c.loop-verdict-test.false)) in
    subst (λ (vs : List Verdict). TakesVerdicts c.args.moment.now vs c.args.places.now (kept_of c.args.self.now) (kept_of c.loop-verdict.self)) all c.loop-verdict.invariant
