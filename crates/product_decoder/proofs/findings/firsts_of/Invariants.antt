use Rattle.std.proofs.Common.{◌≡◌, ◌++◌, drop}
use Rattle.product_decoder.specs.Runs.{firsts_of}
use Rattle.product_decoder.proofs.findings.firsts_of.Given as goal

-- what is left makes the list whole
abbrev pub invariant-loop-run : goal.invariant-loop-run
invariant-loop-run l = l.firsts.items ++ firsts_of (drop l.run-index l.runs) ≡ firsts_of l.runs
