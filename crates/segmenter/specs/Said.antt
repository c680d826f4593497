-- The lines of segments, as a text says them.
use Rattle.std.specs.Prelude.{◌≡◌, List, map}
use Rattle.std.specs.List.{flat_map}
use Rattle.hazard_types.specs.Places.{Place}
use Rattle.hazard_types.specs.declared.line.Line.{Line}
use Rattle.hazard_types.specs.declared.line.SegLine.{SegLine}
use Rattle.hazard_types.specs.declared.line.Segment.{Segment}

-- a line of a segment, in one of its zones
abbrev pub line_in : Place → SegLine → Line
line_in z l = record { action = l.action; event = l.event; zone = z; begin = l.begin; end = l.end; flood = l.flood }

abbrev pub lines_in_zone : List SegLine → Place → List Line
lines_in_zone lines z = map (line_in z) lines

abbrev pub lines_in_segment : Segment → List Line
lines_in_segment s = flat_map (lines_in_zone s.lines) s.zones

-- by segment, then zone, then line of the segment
abbrev pub lines_in_text : List Segment → List Line
lines_in_text segments = flat_map lines_in_segment segments

-- the lines are not of one event in one zone
abbrev pub IsApart : Line → Line → Type 0
IsApart l m = ¬ ((l.event ≡ m.event) × (l.zone ≡ m.zone))
