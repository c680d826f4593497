-- What is read of a product, the count of its lines, and the numbers of products in an input.
use Rattle.std.specs.Prelude.{◌≤◌, ◌+◌, ◌*◌, ℕ, List, [], ◌∷◌, length, filter, Result, Ok}
use Rattle.hazard_types.specs.Given.{◌>>=◌}
use Rattle.product_frame.specs.declared.frame.Frame.{Frame}
use Rattle.product_frame.specs.declared.frame.FrameFault.{FrameFault}
use Rattle.product_frame.specs.declared.frame.FrameSegment.{FrameSegment}
use Rattle.product_decoder.specs.Decoded.{decoded_of}
use Rattle.product_decoder.specs.FrameLines.{is_pair_by}
use Rattle.product_decoder.specs.declared.types.Decoded.{Decoded}
use Rattle.product_decoder.specs.declared.types.Found.{Found}
use Rattle.archive_report.specs.declared.words.Asked.{Asked}

-- what a product says, by its frame, or its first fault
abbrev pub said_of : Result Frame FrameFault → Result Decoded FrameFault
said_of reading = reading >>= λ f. Ok (decoded_of f)

-- how many lines of the office and class segments have, counted for each zone
abbrev pub count_in : Asked → List FrameSegment → ℕ
count_in asked [] = 0
count_in asked (g ∷ segments) = length g.zones * length (filter (is_pair_by asked.office asked.class) g.pairs) + count_in asked segments

-- the breach is in one of so many products, which count from 1
abbrev pub IsNumbered : ℕ → Found → Type 0
IsNumbered count f = (1 ≤ f.product) × (f.product ≤ count)
