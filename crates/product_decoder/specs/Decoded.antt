-- What a product says of each zone.
use Rattle.std.specs.Prelude.{◌≡◌, ℕ, List, map, Result, Ok}
use Rattle.hazard_types.specs.Given.{◌>>=◌}
use Rattle.hazard_types.specs.ZoneLines.{ZoneLine}
use Rattle.product_frame.specs.Frame.{FrameOf}
use Rattle.product_frame.specs.Frames.{read_first_frame}
use Rattle.product_frame.specs.ZoneLinesOf.{zone_lines_of}
use Rattle.product_frame.specs.declared.frame.Frame.{Frame}
use Rattle.product_frame.specs.declared.frame.FrameFault.{FrameFault}
use Rattle.product_decoder.specs.declared.types.Decoded.{Decoded}
use Rattle.product_decoder.specs.declared.types.ZonePair.{ZonePair}

abbrev pub pair_of : ZoneLine → ZonePair
pair_of said = record { zone = said.zone; vtec = said.vtec; flood = said.flood }

-- what a frame says: its identifier, its issue minute, and its lines by segment, then zone, then pair
abbrev pub decoded_of : Frame → Decoded
decoded_of f = record { identifier = f.identifier; issue = f.issue; pairs = map pair_of (zone_lines_of f) }

-- the text has a frame that says this
abbrev pub IsDecoded : List ℕ → Decoded → Type 0
IsDecoded bytes d = (f : Frame) × FrameOf bytes f × (d ≡ decoded_of f)

-- what the text says, or its first fault
abbrev pub decode : List ℕ → Result Decoded FrameFault
decode bytes = read_first_frame bytes >>= λ f. Ok (decoded_of f)
