use Rattle.std.proofs.Common.{◌≡◌, ◌++◌, map, drop}
use Rattle.product_frame.specs.ZoneLinesOf.{lines_of_zone}
use Rattle.product_decoder.specs.Decoded.{pair_of}
use Rattle.product_decoder.proofs.read.add_zone.Given as goal

-- what is left makes the list whole
abbrev pub invariant-loop-pair : goal.invariant-loop-pair
invariant-loop-pair l = l.out ++ map pair_of (lines_of_zone l.zone (drop l.pair-index l.pairs)) ≡ l.initial.out ++ map pair_of (lines_of_zone l.zone l.pairs)
