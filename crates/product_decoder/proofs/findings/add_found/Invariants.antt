use Rattle.std.proofs.Common.{◌≡◌, ◌++◌, drop}
use Rattle.product_decoder.specs.ReaderModel.{found_in}
use Rattle.product_decoder.proofs.findings.add_found.Given as goal

-- what is left makes the list whole
abbrev pub invariant-loop-line : goal.invariant-loop-line
invariant-loop-line l = l.out ++ found_in l.product (drop l.line-index l.judged) ≡ l.initial.out ++ found_in l.product l.judged
