-- The first zone, and those that find the same: a UPG line is judged anew in each zone, another by the life that it finds.
use Rattle.std.proofs.Common.{take, rules}
use Rattle.row_index.proofs.Groups.{counted, judged_at}
use Rattle.row_index.proofs.index.RowIndex.judge_first_zone.Goals as goal

pub returns-then-is_upgrade-clause-judged : goal.returns-then-is_upgrade-clause-judged
returns-then-is_upgrade-clause-judged c = λ all serves.
    let v = c.verdict_at-verdict.ensures in
    let here = judged_at c.args.self.now c.args.asking.now.t all c.args.asking.now.line c.args.first.now c.verdict_at-verdict.result v.line v.found (v.breach all serves.0) in
    (here, c.count_upgraded-more.ensures.judged all serves.1)

pub returns-clause-judged : goal.returns-clause-judged
returns-clause-judged c = λ all serves.
    let first = c.args.first.now in
    let v = c.verdict_at-verdict.ensures in
    let here = judged_at c.args.self.now c.args.asking.now.t all c.args.asking.now.line first c.verdict_at-verdict.result v.line v.found (v.breach all serves.0) in (
      here,
      counted c.args.self.now c.args.asking.now.t all c.verdict_at-verdict.result c.args.asking.now.line c.args.asking.now.rows first (take c.count_alike-more.result c.args.rest.now)
          v.line c.requires.own (search rules) c.count_alike-more.ensures.alike here,
    )
