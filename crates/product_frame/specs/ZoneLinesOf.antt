-- What a frame says of each zone: by segment, then zone, then pair.
use Rattle.std.specs.Prelude.{List, [], ◌∷◌, ◌++◌}
use Rattle.hazard_types.specs.Places.{Place}
use Rattle.hazard_types.specs.ZoneLines.{ZoneLine}
use Rattle.product_frame.specs.declared.frame.Pair.{Pair}
use Rattle.product_frame.specs.declared.frame.FrameSegment.{FrameSegment}
use Rattle.product_frame.specs.declared.frame.Frame.{Frame}

-- the lines of one zone
abbrev pub lines_of_zone : Place → List Pair → List ZoneLine
lines_of_zone z [] = []
lines_of_zone z (p ∷ pairs) = record { zone = z; vtec = p.vtec; flood = p.flood } ∷ lines_of_zone z pairs

-- the lines of a segment's zones
abbrev pub lines_of_zones : List Place → List Pair → List ZoneLine
lines_of_zones [] pairs = []
lines_of_zones (z ∷ zones) pairs = lines_of_zone z pairs ++ lines_of_zones zones pairs

-- the lines of segments
abbrev pub lines_of_segments : List FrameSegment → List ZoneLine
lines_of_segments [] = []
lines_of_segments (g ∷ segments) = lines_of_zones g.zones g.pairs ++ lines_of_segments segments

-- the lines of a frame
unfoldable pub zone_lines_of : Frame → List ZoneLine
zone_lines_of f = lines_of_segments f.segments
