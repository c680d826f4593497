-- The text that is written for a frame: its block and its bodies say what a frame leaves out.
use Rattle.std.specs.Prelude.{ℕ, List, [], ◌∷◌, ◌++◌, Option, Some, None, codes}
use Rattle.hazard_types.specs.Digits.{day_text}
use Rattle.ugc_codes.specs.Written.{ugc_text}
use Rattle.hazard_types.specs.declared.line.Flood.{Flood}
use Rattle.vtec_string.specs.Columns.{vtec_text}
use Rattle.hvtec_string.specs.Columns.{hvtec_text}
use Rattle.product_frame.specs.declared.frame.Heading.{Heading}
use Rattle.product_frame.specs.declared.frame.Pair.{Pair}
use Rattle.product_frame.specs.declared.frame.FrameSegment.{FrameSegment}
use Rattle.product_frame.specs.declared.frame.Frame.{Frame}
use Rattle.product_frame.specs.declared.write.Block.{Block}
use Rattle.product_frame.specs.declared.write.Body.{Body}

-- a line and its end
abbrev pub ended : List ℕ → List ℕ
ended line = line ++ 10 ∷ []

-- a blank and the three letters, where they stand
abbrev pub letters_text : Option (List ℕ) → List ℕ
letters_text None = []
letters_text (Some letters) = 32 ∷ letters

-- WWUS41 KLWX 031530
abbrev pub heading_text : Heading → List ℕ
heading_text h = h.ttaaii ++ codes " " ++ h.office ++ codes " " ++ day_text h.day ++ letters_text h.bbb

-- the H-VTEC line, where there are flood values
abbrev pub flood_text : Option Flood → List ℕ
flood_text None = []
flood_text (Some h) = ended (hvtec_text h)

-- the P-VTEC line of each pair, and its H-VTEC line behind it
abbrev pub pairs_text : List Pair → List ℕ
pairs_text [] = []
pairs_text (p ∷ pairs) = ended (vtec_text p.vtec) ++ (flood_text p.flood ++ pairs_text pairs)

-- the names and their end, where there are names
abbrev pub names_text : List ℕ → List ℕ
names_text [] = []
names_text (c ∷ names) = ended (c ∷ names)

-- names, local line, an empty line, and the text
abbrev pub body_text : List ℕ → Body → List ℕ
body_text local body = names_text body.names ++ (ended local ++ (ended [] ++ body.text))

-- zones and expiry, pairs, body, $$
abbrev pub segment_text : List ℕ → FrameSegment → Body → List ℕ
segment_text local g body = ended (ugc_text g.zones g.expiry) ++ (pairs_text g.pairs ++ (body_text local body ++ ended (codes "$$")))

-- an empty line stands behind each segment
abbrev pub segments_text : List ℕ → List FrameSegment → List Body → List ℕ
segments_text local [] bodies = []
segments_text local (g ∷ segments) [] = []
segments_text local (g ∷ segments) (body ∷ bodies) = segment_text local g body ++ (ended [] ++ segments_text local segments bodies)

-- the block stands between empty lines
abbrev pub block_text : Block → List ℕ
block_text block = ended [] ++ (ended block.name ++ (ended block.office_line ++ (ended block.local ++ ended [])))

-- heading, identifier, block, segments
abbrev pub layout_of : Frame → Block → List Body → List ℕ
layout_of f block bodies = ended (heading_text f.heading) ++ (ended f.identifier ++ (block_text block ++ segments_text block.local f.segments bodies))
