-- The segments of a product's lines.
use Rattle.std.specs.Prelude.{◌≡◌, ◌≢◌, ◌↔◌, ◌⊎◌, List, [], ◌∷◌, Option, map, option_map, slice_get, AllPairs}
use Rattle.std.specs.List.{AllByRecursion}
use Rattle.std.specs.List.Sorted.{IsStrictlySortedBy}
use Rattle.std.specs.Option.{option_cmp}
use Rattle.std.specs.declared.cmp.Ordering.{Ordering}
use Rattle.std.specs.Ordering.{on, then_cmp}
use Rattle.hazard_types.specs.Orders.{by_event}
use Rattle.hazard_types.specs.Places.{Place, by_place}
use Rattle.hazard_types.specs.declared.hazard.Event.{Event}
use Rattle.hazard_types.specs.declared.line.Line.{Line}
use Rattle.hazard_types.specs.declared.line.SegLine.{SegLine}
use Rattle.hazard_types.specs.declared.line.Segment.{Segment}
use Rattle.segmenter.specs.Groups.{lines_of}
use Rattle.segmenter.specs.declared.groups.Group.{Group}

-- the list has this item
abbrev pub Has : {X : Type 0} → List X → X → Type 0
Has [] x = ⊥
Has (y ∷ ys) x = (x ≡ y) ⊎ Has ys x

-- the first zone, which is the least where zones are in order
abbrev pub first_zone : Segment → Option Place
first_zone s = slice_get s.zones 0

-- the event of the first line
abbrev pub first_event : Segment → Option Event
first_event s = option_map (λ (l : SegLine). l.event) (slice_get s.lines 0)

-- by the least zone, then the first event
abbrev pub by_segment : Segment → Segment → Ordering
by_segment = then_cmp (on first_zone (option_cmp by_place)) (on first_event (option_cmp by_event))

-- each list of lines that a group has makes one segment, which has the zones of the groups with that list
pub record AreSegments (lines : List Line) (segments : List Segment) : Type 0 where
  -- a zone stands in a segment exactly where one of its groups has the segment's lines
  pub zones : (s : Segment) → Has segments s → (z : Place) → Has s.zones z ↔ ((g : Group) × (g.zone ≡ z) × (lines_of lines g ≡ s.lines))
  -- no group with lines is left out
  pub whole : (g : Group) → lines_of lines g ≢ [] → (s : Segment) × Has segments s × (s.lines ≡ lines_of lines g)
  -- no segment is empty
  pub some : AllByRecursion (λ (s : Segment). (s.zones ≢ []) × (s.lines ≢ [])) segments
  -- no two segments have the same lines
  pub apart : AllPairs (λ k l. k ≢ l) (map (λ (s : Segment). s.lines) segments)
  -- the zones of a segment are in order, each once
  pub sorted : AllByRecursion (λ (s : Segment). IsStrictlySortedBy by_place s.zones) segments
  -- the segments are in order, and no two have both the least zone and the first event in common
  pub ordered : IsStrictlySortedBy by_segment segments
