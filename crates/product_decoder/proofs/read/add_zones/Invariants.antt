use Rattle.std.proofs.Common.{◌≡◌, ◌++◌, map, drop}
use Rattle.product_frame.specs.ZoneLinesOf.{lines_of_zones}
use Rattle.product_decoder.specs.Decoded.{pair_of}
use Rattle.product_decoder.proofs.read.add_zones.Given as goal

-- what is left makes the list whole
abbrev pub invariant-loop-zone : goal.invariant-loop-zone
invariant-loop-zone l = l.out ++ map pair_of (lines_of_zones (drop l.zone-index l.zones) l.pairs) ≡ l.initial.out ++ map pair_of (lines_of_zones l.zones l.pairs)
