-- Events in zones that have a row: by event, then zone, each once.
use Rattle.std.specs.Prelude.{List, [], fold}
use Rattle.std.specs.BTreeSet.{insert_key}
use Rattle.std.specs.declared.cmp.Ordering.{Ordering}
use Rattle.std.specs.Ordering.{on, then_cmp}
use Rattle.hazard_types.specs.Orders.{by_event}
use Rattle.hazard_types.specs.Places.{Place, by_place}
use Rattle.hazard_types.specs.declared.hazard.Event.{Event}
use Rattle.hazard_types.specs.declared.line.Row.{Row}
use Rattle.product_decoder.specs.declared.types.Track.{Track}

-- an event in a zone
pub record Living : Type 0 where
  pub event : Event
  pub zone : Place

-- by event, then zone
abbrev pub by_living : Living → Living → Ordering
by_living = then_cmp (on (λ (l : Living). l.event) by_event) (on (λ (l : Living). l.zone) by_place)

-- a row's event and zone, put into their place, once
abbrev pub add_living : List Living → Row → List Living
add_living living row = insert_key by_living living (record { event = row.event; zone = row.zone })

-- those of all rows
abbrev pub living_in : List Row → List Living
living_in rows = fold add_living [] rows

-- lives, by event, then zone
abbrev pub by_life : Track → Track → Ordering
by_life = then_cmp (on (λ (t : Track). t.event) by_event) (on (λ (t : Track). t.zone) by_place)
