-- What is needed to write a segment.
use Rattle.std.specs.Prelude.{◌≢◌, ◌≤◌, []}
use Rattle.std.specs.List.{AllByRecursion}
use Rattle.std.specs.List.Sorted.{IsStrictlySortedBy}
use Rattle.hazard_types.specs.Places.{by_place}
use Rattle.hazard_types.specs.declared.line.SegLine.{SegLine}
use Rattle.hazard_types.specs.declared.line.Segment.{Segment}

-- its zones are some, in order, each once, and its numbers have four digits
abbrev pub CanBeWritten : Segment → Type 0
CanBeWritten s = (s.zones ≢ []) × IsStrictlySortedBy by_place s.zones × AllByRecursion (λ (line : SegLine). line.event.etn ≤ 9999) s.lines
