-- Lines of which no one is a second one are judged each by itself.
use Rattle.std.proofs.Common.{◌≡◌, List, sym, subst}
use Rattle.std.specs.Result.{IfOk}
use Rattle.row_index.specs.Verdicts.{lines_in, expand, Judged}
use Rattle.row_index.specs.declared.verdicts.Run.{Run}
use Rattle.row_index.proofs.Firsts.{judged-firsts}
use Rattle.row_index.proofs.index.RowIndex.judge_parts.Goals as goal

pub returns-then-apart-clause-told : goal.returns-then-apart-clause-told
returns-then-apart-clause-told c =
    let each = judged-firsts c.args.self.now c.args.t (lines_in c.args.parts.now) (c.in_ok-apart.ensures.first c.if-apart.true) in
    subst (λ (all : List Judged). IfOk c.judge_apart.result (λ (runs : List Run). expand runs ≡ all)) (sym each) c.judge_apart.ensures.told
