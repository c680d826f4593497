use Rattle.std.proofs.Common.{rules, arith}
use Rattle.std.proofs.lemmas.Grind.{common_steps}
use Rattle.archive_report.proofs.lines.write_breach.Goals as goal

pub returns : goal.returns
returns c = first_of (grind (arith, common_steps), search rules)
