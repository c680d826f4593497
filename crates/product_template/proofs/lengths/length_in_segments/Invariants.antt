use Rattle.std.proofs.Common.{◌≡◌, ◌+◌, drop}
use Rattle.product_template.specs.Lengths.{length_in_segments}
use Rattle.product_template.proofs.lengths.length_in_segments.Given as goal

-- what is left is added
abbrev pub invariant-loop-segment : goal.invariant-loop-segment
invariant-loop-segment l = length_in_segments l.fn.told l.segments ≡ l.sum + length_in_segments l.fn.told (drop l.segment-index l.segments)
