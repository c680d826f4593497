use Rattle.std.proofs.Common.{◌≡◌, ◌++◌, drop, map}
use Rattle.product_template.specs.Text.{pair_of}
use Rattle.product_template.proofs.frame.pairs_of.Given as goal

-- the pairs of what is left follow
abbrev pub invariant-loop-line : goal.invariant-loop-line
invariant-loop-line l = map (pair_of l.class l.office) l.lines ≡ l.pairs ++ map (pair_of l.class l.office) (drop l.line-index l.lines)
