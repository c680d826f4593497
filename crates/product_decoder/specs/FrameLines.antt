-- What the frame of a product says of events, for an office and class: the P-VTEC lines of a segment, each with its event, and then what they say in each zone.
use Rattle.std.specs.Prelude.{ℕ, List, [], ◌∷◌, ◌++◌, Bool, map}
use Rattle.std.specs.List.{filter}
use Rattle.hazard_types.specs.Places.{Place}
use Rattle.hazard_types.specs.declared.codes.Class.{Class}
use Rattle.hazard_types.specs.declared.line.Line.{Line}
use Rattle.hazard_types.specs.declared.line.Row.{Row}
use Rattle.event_life.specs.Products.{event_of}
use Rattle.product_frame.specs.declared.frame.FrameSegment.{FrameSegment}
use Rattle.product_frame.specs.declared.frame.Pair.{Pair}
use Rattle.product_decoder.specs.ReaderModel.{is_vtec_by}
use Rattle.product_decoder.specs.Takings.{line_of_event}
use Rattle.product_decoder.specs.declared.frame_lines.EventPair.{EventPair}

abbrev pub is_pair_by : List ℕ → Class → Pair → Bool
is_pair_by office class pair = is_vtec_by office class pair.vtec

abbrev pub event_pair : List Row → ℕ → Pair → EventPair
event_pair rows t pair = record { event = event_of rows t pair.vtec; vtec = pair.vtec; flood = pair.flood }

-- the pairs of the office and class, each with its event
abbrev pub event_pairs : List ℕ → Class → List Row → ℕ → List Pair → List EventPair
event_pairs office class rows t pairs = map (event_pair rows t) (filter (is_pair_by office class) pairs)

-- what a pair says of its event in a zone
abbrev pub line_in : Place → EventPair → Line
line_in z said = line_of_event said.event (record { zone = z; vtec = said.vtec; flood = said.flood })

-- what pairs say in each of these zones
abbrev pub lines_in : List Place → List EventPair → List Line
lines_in [] said = []
lines_in (z ∷ zones) said = map (line_in z) said ++ lines_in zones said

-- what the pairs of segments say, each in the zones of its segment
abbrev pub lines_in_segments : List ℕ → Class → List Row → ℕ → List FrameSegment → List Line
lines_in_segments office class rows t [] = []
lines_in_segments office class rows t (g ∷ segments) = lines_in g.zones (event_pairs office class rows t g.pairs) ++ lines_in_segments office class rows t segments
