-- The board: its rows by zone, then event, each pair once, beside a spare.
use Rattle.std.specs.Prelude.{◌&&◌, ℕ, Bool, List, filter, count_by}
use Rattle.std.specs.List.{list_any}
use Rattle.std.specs.declared.cmp.Ordering.{Ordering}
use Rattle.std.specs.Ordering.{on, ordering_then}
use Rattle.hazard_types.specs.Orders.{by_event}
use Rattle.hazard_types.specs.Places.{Place, by_place}
use Rattle.hazard_types.specs.Same.{same_zone, same_event}
use Rattle.hazard_types.specs.declared.hazard.Event.{Event}
use Rattle.hazard_types.specs.declared.line.Line.{Line}
use Rattle.hazard_types.specs.declared.line.Row.{Row}
use Rattle.hazard_types.specs.declared.period.Period.{Period}
use Rattle.event_life.specs.Lives.{opens}
use Rattle.event_life.specs.Periods.{is_live, same_at}

-- the rows, and for how many more of them there is memory
pub record Posted : Type 0 where
  pub rows : List Row
  pub spare : ℕ

-- a live row of the event has the same period
abbrev pub has_period : List Row → Event → Period → ℕ → Bool
has_period rows e p t = list_any (λ (r : Row). same_event r.event e && is_live t r && same_at t r.period p) rows

-- the rows of a zone
abbrev pub slice_of : Place → List Row → List Row
slice_of z rows = filter (λ (r : Row). same_zone r.zone z) rows

-- the live rows of a zone
abbrev pub live_in : Place → ℕ → List Row → List Row
live_in z t rows = filter (λ (r : Row). same_zone r.zone z && is_live t r) rows

-- the order of rows by event
abbrev pub by_row_event : Row → Row → Ordering
by_row_event = on (λ (r : Row). r.event) by_event

-- how many of the lines are NEW, EXA or EXB
abbrev pub openings : List Line → ℕ
openings lines = count_by (λ (line : Line). opens line.action) lines

-- how a row stands by that of an event in a zone
abbrev pub compare_row_key : Event → Place → Row → Ordering
compare_row_key e z r = ordering_then (by_place r.zone z) (by_event r.event e)
