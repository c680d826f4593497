-- Hazards and numbers, and the events that have them.
use Rattle.std.specs.Prelude.{◌==◌, ◌&&◌, not, Bool, true, false, List, [], ◌∷◌, ◌++◌, if◌then◌else◌}
use Rattle.std.specs.BTreeMap.{insert_entry}
use Rattle.std.specs.List.{list_any}
use Rattle.std.specs.declared.cmp.Ordering.{Ordering}
use Rattle.std.specs.Ordering.{nat_cmp, on, then_cmp}
use Rattle.hazard_types.specs.Orders.{by_hazard}
use Rattle.hazard_types.specs.Places.{Place}
use Rattle.hazard_types.specs.Same.{same_zone, same_hazard, same_event}
use Rattle.hazard_types.specs.declared.hazard.Event.{Event}
use Rattle.hazard_types.specs.declared.line.Row.{Row}
use Rattle.row_index.specs.declared.numbers.Number.{Number}
use Rattle.row_index.specs.Listing.{list_at}
use Rattle.row_index.specs.Telling.{Tells}

abbrev pub number_of : Event → Number
number_of e = record { hazard = e.hazard; etn = e.etn }

-- by hazard, then number
abbrev pub by_number : Number → Number → Ordering
by_number = then_cmp (on (λ (k : Number). k.hazard) by_hazard) (on (λ (k : Number). k.etn) nat_cmp)

-- the row's event has this hazard and number, in whatever year it was opened
abbrev pub has_number : Number → Row → Bool
has_number k r = same_hazard r.event.hazard k.hazard && (r.event.etn == k.etn)

abbrev pub is_in_zone : Place → Row → Bool
is_in_zone z r = same_zone r.zone z

-- one event more, unless it is among them
abbrev pub with_event : Event → List Event → List Event
with_event e events = if list_any (λ d. same_event d e) events then events else events ++ e ∷ []

-- the lists with an event, unless it had rows before
abbrev pub events_with : Bool → Event → List (Number × List Event) → List (Number × List Event)
events_with true e es = es
events_with false e es = insert_entry by_number es (number_of e) (with_event e (list_at by_number es (number_of e)))

-- the events of each hazard and number are those of its rows
abbrev pub AreOpened : List (Number × List Event) → List Row → Type 0
AreOpened events rows = (k : Number) → Tells (has_number k) (λ (r : Row). r.event) (list_at by_number events k) rows

-- the rows that no line has ended
abbrev pub stands : Row → Bool
stands r = not r.ended
