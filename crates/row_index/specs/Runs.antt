-- Rows of one event whose lives have come to the same, in several zones.
use Rattle.std.specs.Prelude.{Bool, List, map, Option}
use Rattle.std.specs.BTreeMap.{insert_entry}
use Rattle.std.specs.Option.{option_eq}
use Rattle.hazard_types.specs.Orders.{by_event}
use Rattle.hazard_types.specs.Places.{Place}
use Rattle.hazard_types.specs.contracts.line.LinePartialEq.TheImpl as line_eq
use Rattle.hazard_types.specs.declared.hazard.Event.{Event}
use Rattle.hazard_types.specs.declared.line.Line.{Line}
use Rattle.hazard_types.specs.declared.line.Row.{Row}
use Rattle.event_life.specs.contracts.life.LifePartialEq.TheImpl as life
use Rattle.event_life.specs.declared.life.Life.{Life}
use Rattle.row_index.specs.Listing.{list_at}
use Rattle.row_index.specs.Sharing.{row_with}
use Rattle.row_index.specs.Steps.{add_each}

-- the same line of another zone
abbrev pub in_zone : Line → Place → Line
in_zone l z = record { action = l.action; event = l.event; zone = z; begin = l.begin; end = l.end; flood = l.flood }

-- two lines differ in their zones alone
abbrev pub is_alike : Line → Line → Bool
is_alike a b = line_eq.eq-value.it (in_zone a b.zone) b

-- two lives are one, or there is none of both
abbrev pub same_life : Option Life → Option Life → Bool
same_life = option_eq life.eq-value.it

-- the rows of an event in zones whose lives have come to this
abbrev pub rows_along : Event → Life → List Place → List Row
rows_along e l zones = map (λ (z : Place). row_with e z l) zones

-- the rows of each event, with those of one put among its rows
abbrev pub held_put : Event → List Row → List (Event × List Row) → List (Event × List Row)
held_put e rows es = insert_entry by_event es e (add_each rows (list_at by_event es e))
