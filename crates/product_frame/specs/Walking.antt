-- The walk over the lines.
use Rattle.std.specs.Prelude.{◌≡◌, ℕ, ◌+◌, ◌-◌, ◌==◌, List, [], ◌∷◌, ◌++◌, take, drop, Option, Some, None, Result, Ok, Err, if◌then◌else◌}
use Rattle.hazard_types.specs.Given.{◌>>=◌}
use Rattle.ugc_codes.specs.Reading.{ugc_of}
use Rattle.ugc_codes.specs.declared.read.UgcRead.{UgcRead}
use Rattle.ugc_codes.specs.declared.read.UgcFault.{UgcFault}
use Rattle.hazard_types.specs.declared.or.Or.{Or}
use Rattle.hazard_types.specs.declared.or.Or.TheVariants.{No, OutOfMemory}
use Rattle.product_frame.specs.Text.{line_of, is_empty, line_end_count}
use Rattle.product_frame.specs.Parts.{begins, has_slash, is_end}
use Rattle.hazard_types.specs.declared.line.Flood.{Flood}
use Rattle.product_frame.specs.Events.{parse_pair}
use Rattle.product_frame.specs.declared.frame.Pair.{Pair}
use Rattle.product_frame.specs.declared.frame.FrameSegment.{FrameSegment}
use Rattle.product_frame.specs.declared.frame.FrameFault.{FrameFault}
use Rattle.product_frame.specs.declared.frame.FrameFault.TheVariants.{BadUgc, BadVtec, NoSegmentEnd}
use Rattle.product_frame.specs.declared.walk.Walk.{Walk}
use Rattle.product_frame.specs.declared.walk.Stage.{Stage}
use Rattle.product_frame.specs.declared.walk.Stage.TheVariants.{Outside, Pairs, Rest}

-- a segment is begun by its UGC, which fills its last line
abbrev pub opened : Walk → ℕ → List ℕ → UgcRead → Result Walk FrameFault
opened w number rest u =
    if is_empty (line_of (drop u.used rest))
    then Ok (record { segments = w.segments; zones = u.zones; expiry = u.expiry; pairs = []; first = number; left = line_end_count (take u.used rest); stage = Pairs })
    else Err (BadUgc number)

abbrev pub open_by : Walk → ℕ → List ℕ → Result UgcRead UgcFault → Result Walk FrameFault
open_by w number rest (Ok u) = opened w number rest u
open_by w number rest (Err f) = Err (BadUgc number)

unfoldable pub take_line_outside : Walk → ℕ → List ℕ → Result Walk FrameFault
take_line_outside w number rest = if begins (line_of rest) then open_by w number rest (ugc_of rest) else Ok w

abbrev pub staged : Walk → Stage → Walk
staged w s = record { segments = w.segments; zones = w.zones; expiry = w.expiry; pairs = w.pairs; first = w.first; left = w.left; stage = s }

abbrev pub closed : Walk → Walk
closed w = record { segments = w.segments ++ record { zones = w.zones; expiry = w.expiry; pairs = w.pairs } ∷ []; zones = []; expiry = w.expiry; pairs = []; first = w.first; left = w.left; stage = Outside }

abbrev pub take_line_at_rest : Walk → List ℕ → Result Walk FrameFault
take_line_at_rest w line = if is_end line then Ok (closed w) else Ok (staged w Rest)

-- the first of these lines, if there is one
abbrev pub next_at : List ℕ → List ℕ → List ℕ
next_at bytes [] = []
next_at bytes (s ∷ lines) = line_of (drop s bytes)

-- an H-VTEC line is read with the line before it
abbrev pub ahead : Option Flood → ℕ
ahead None = 0
ahead (Some h) = 1

abbrev pub with_pair : Walk → Pair → Walk
with_pair w p = record { segments = w.segments; zones = w.zones; expiry = w.expiry; pairs = w.pairs ++ p ∷ []; first = w.first; left = ahead p.flood; stage = w.stage }

abbrev pub paired : Walk → ℕ → Option Pair → Result Walk FrameFault
paired w number None = Err (BadVtec number)
paired w number (Some p) = Ok (with_pair w p)

abbrev pub take_line_at_pairs : Walk → ℕ → List ℕ → List ℕ → Result Walk FrameFault
take_line_at_pairs w number line next = if has_slash line then paired w number (parse_pair line next) else take_line_at_rest w line

abbrev pub by_stage : Walk → ℕ → List ℕ → List ℕ → Stage → Result Walk FrameFault
by_stage w number rest next Outside = take_line_outside w number rest
by_stage w number rest next Pairs = take_line_at_pairs w number (line_of rest) next
by_stage w number rest next Rest = take_line_at_rest w (line_of rest)

abbrev pub skipped : Walk → Walk
skipped w = record { segments = w.segments; zones = w.zones; expiry = w.expiry; pairs = w.pairs; first = w.first; left = w.left - 1; stage = w.stage }

-- one line, of which rest is what stands from it on, and the line behind it
unfoldable pub step : Walk → ℕ → List ℕ → List ℕ → Result Walk FrameFault
step w number rest next = if w.left == 0 then by_stage w number rest next w.stage else Ok (skipped w)

abbrev pub ended : Walk → Stage → Result (List FrameSegment) FrameFault
ended w Outside = Ok w.segments
ended w Pairs = Err (NoSegmentEnd w.first)
ended w Rest = Err (NoSegmentEnd w.first)

abbrev pub walk : List ℕ → Walk → ℕ → List ℕ → Result (List FrameSegment) FrameFault
walk bytes w number [] = ended w w.stage
walk bytes w number (s ∷ starts) = step w number (drop s bytes) (next_at bytes starts) >>= λ v. walk bytes v (number + 1) starts

-- what a step did
abbrev pub MovesBy : Or FrameFault → Result Walk FrameFault → Type 0
MovesBy (No f) answer = answer ≡ Err f
MovesBy OutOfMemory answer = Unit {0}

abbrev pub Moves : Result (Unit {0}) (Or FrameFault) → Walk → Result Walk FrameFault → Type 0
Moves (Ok u) new answer = answer ≡ Ok new
Moves (Err e) new answer = MovesBy e answer

abbrev pub IsBadUgc : Or UgcFault → ℕ → Or FrameFault → Type 0
IsBadUgc (No f) number answer = answer ≡ No (BadUgc number)
IsBadUgc OutOfMemory number answer = answer ≡ OutOfMemory

abbrev pub begun : Walk
begun = record { segments = []; zones = []; expiry = record { day = 1; hour = 0; minute = 0 }; pairs = []; first = 0; left = 0; stage = Outside }

abbrev pub segments_of : List ℕ → ℕ → List ℕ → Result (List FrameSegment) FrameFault
segments_of bytes number starts = walk bytes begun number starts
