-- The rows of each event, by zone, and all of them by zone, then event.
use Rattle.std.specs.Prelude.{◌≡◌, List, [], ◌∷◌, Option, Some, None}
use Rattle.std.specs.BTreeMap.{insert_entry}
use Rattle.std.specs.List.{AllByRecursion}
use Rattle.std.specs.List.Sorted.{IsStrictlySortedBy}
use Rattle.std.specs.Map.{keys_of}
use Rattle.hazard_types.specs.Orders.{by_event}
use Rattle.hazard_types.specs.Places.{Place}
use Rattle.hazard_types.specs.declared.hazard.Event.{Event}
use Rattle.hazard_types.specs.declared.line.Row.{Row}
use Rattle.event_life.specs.Products.{by_key, put, row_at}
use Rattle.row_index.specs.Listing.{list_at}

-- the rows are put over the others, the last of them first
abbrev pub puts : List Row → List Row → List Row
puts [] after = after
puts (row ∷ rows) after = put row (puts rows after)

-- all rows that are held
abbrev pub told : List (Event × List Row) → List Row
told [] = []
told (e ∷ es) = puts e.1 (told es)

-- the rows of each event, with one row more or another in its place
abbrev pub held_with : Row → List (Event × List Row) → List (Event × List Row)
held_with row es = insert_entry by_event es row.event (put row (list_at by_event es row.event))

-- the events stand in order, each with rows of its own alone, which are in order
pub record AreHeld (es : List (Event × List Row)) : Type 0 where
  pub ascending : IsStrictlySortedBy by_event (keys_of es)
  pub each : AllByRecursion (λ (e : Event × List Row). AllByRecursion (λ (r : Row). r.event ≡ e.0) e.1) es
  pub in_order : AllByRecursion (λ (e : Event × List Row). IsStrictlySortedBy by_key e.1) es

-- some rows, in order, among which an event's are found as among all of them
pub record AreRowsOf (rows : List Row) (e : Event) (part : List Row) : Type 0 where
  pub whole : IsStrictlySortedBy by_key rows
  pub in_order : IsStrictlySortedBy by_key part
  pub found : (z : Place) → row_at rows e z ≡ row_at part e z

-- the same of the event that was last looked up, if one was
abbrev pub AreNear : List Row → Option Event → List Row → Type 0
AreNear rows None part = Unit {0}
AreNear rows (Some e) part = AreRowsOf rows e part
