-- Equal lives and breaches are one.
use Rattle.std.proofs.Common.{◌∙◌, rules, sym}
use Rattle.row_index.proofs.Groups.{breaches_one}
use Rattle.row_index.proofs.Runs.{lives_one}
use Rattle.row_index.proofs.judging.have_same_findings.Goals as goal

pub returns-then-same_life : goal.returns-then-same_life
returns-then-same_life c = λ h. (
  lives_one c.args.a.now.found c.args.b.now.found (search rules),
  breaches_one c.args.a.now.breach c.args.b.now.breach (sym c.eq.ensures ∙ h),
)
