use Rattle.std.proofs.Common.{◌≡◌, ◌++◌, map, drop}
use Rattle.product_frame.specs.ZoneLinesOf.{lines_of_segments}
use Rattle.product_decoder.specs.Decoded.{pair_of}
use Rattle.product_decoder.proofs.read.pairs_of.Given as goal

-- what is left makes the list whole
abbrev pub invariant-loop-segment : goal.invariant-loop-segment
invariant-loop-segment l = l.out ++ map pair_of (lines_of_segments (drop l.segment-index l.segment-items)) ≡ map pair_of (lines_of_segments l.segment-items)
