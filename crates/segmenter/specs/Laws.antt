-- What the segments of lines say.
use Rattle.std.specs.Prelude.{◌≡◌, false, List, [], ◌∷◌}
use Rattle.std.specs.List.{AllByRecursion}
use Rattle.std.specs.Ordering.{is_lt}
use Rattle.hazard_types.specs.Places.{Place}
use Rattle.hazard_types.specs.declared.line.Line.{Line}
use Rattle.hazard_types.specs.declared.line.SegLine.{SegLine}
use Rattle.hazard_types.specs.declared.line.Segment.{Segment}
use Rattle.segmenter.specs.Groups.{by_line, without_zone}
use Rattle.segmenter.specs.Segments.{Has}

-- a segment of the zone has the line
abbrev pub IsSaid : List Segment → Place → SegLine → Type 0
IsSaid segments z l = (s : Segment) × Has segments s × Has s.zones z × Has s.lines l

-- the line stands among the lines, with the zone
abbrev pub IsOfLines : List Line → Place → SegLine → Type 0
IsOfLines lines z l = (line : Line) × Has lines line × (line.zone ≡ z) × (without_zone line ≡ l)

-- by action, then by event: no line comes before one that stands before it
abbrev pub AreInOrder : List SegLine → Type 0
AreInOrder [] = Unit {0}
AreInOrder (line ∷ lines) = AllByRecursion (λ (later : SegLine). is_lt (by_line later line) ≡ false) lines × AreInOrder lines
