use Rattle.std.proofs.Common.{List, subst}
use Rattle.std.proofs.lemmas.Result.{on_ok_weaker}
use Rattle.hazard_types.specs.Places.{Place}
use Rattle.row_index.specs.declared.verdicts.Verdict.{Verdict}
use Rattle.stats_report.specs.Spells.{kept_of}
use Rattle.stats_report.proofs.Spelling.{TakesVerdicts, run_spelled}
use Rattle.stats_report.proofs.standing.Standing.change_run.Goals as goal

pub returns : goal.returns
returns c =
    let m = c.args.moment.now in
    let run = c.args.run.now in
    let old = kept_of c.args.self.now in
    let new = kept_of c.change_verdicts.new.self in
    on_ok_weaker c.change_verdicts.result (λ takes. run_spelled m old new run c.requires
    (subst (λ (zs : List Place). TakesVerdicts m run.verdicts zs old new) c.as_slice.ensures
    (subst (λ (vs : List Verdict). TakesVerdicts m vs c.as_slice.result.now old new) c.as_slice-verdicts.ensures takes))) c.change_verdicts.ensures
