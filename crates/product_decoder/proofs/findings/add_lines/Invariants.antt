use Rattle.std.proofs.Common.{◌≡◌, ◌++◌, map, drop}
use Rattle.product_decoder.specs.Runs.{judged_by}
use Rattle.product_decoder.proofs.findings.add_lines.Given as goal

-- what is left makes the list whole
abbrev pub invariant-loop-verdict : goal.invariant-loop-verdict
invariant-loop-verdict l = l.out.items ++ map judged_by (drop l.verdict-index l.verdicts) ≡ l.initial.out.items ++ map judged_by l.verdicts
