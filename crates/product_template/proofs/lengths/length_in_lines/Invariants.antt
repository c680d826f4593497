use Rattle.std.proofs.Common.{◌≡◌, ◌+◌, drop}
use Rattle.product_template.specs.Lengths.{length_in_lines}
use Rattle.product_template.proofs.lengths.length_in_lines.Given as goal

-- what is left is added
abbrev pub invariant-loop-line : goal.invariant-loop-line
invariant-loop-line l = length_in_lines l.fn.told l.lines ≡ l.sum + length_in_lines l.fn.told (drop l.line-index l.lines)
