-- What rows tell of numbers, and what intents tell of flood values.
use Rattle.std.specs.Prelude.{Bool, true, List, [], ◌∷◌, length, map, Option, Some, None}
use Rattle.hazard_types.specs.declared.hazard.Event.{Event}
use Rattle.hazard_types.specs.declared.line.Flood.{Flood}
use Rattle.hazard_types.specs.declared.line.Row.{Row}
use Rattle.office_types.specs.declared.request.Intent.{Intent}
use Rattle.office_types.specs.declared.request.Intent.TheVariants.{Put, Finish, Restate, Routine}
use Rattle.event_life.specs.Openings.{add_event, numbers_of}
use Rattle.event_numbers.specs.declared.Count.{Count}

-- the events that have rows, in order, each once
abbrev pub events_in : List Row → List Event
events_in [] = []
events_in (row ∷ rows) = add_event row.event (events_in rows)

-- how many events of its hazard and year there are among these
abbrev pub count_among : List Event → Row → Count
count_among events row = record { hazard = row.event.hazard; year = row.event.year; count = length (numbers_of row.event.hazard row.event.year events) }

-- for each hazard and year of a row's event, how many of its events have rows
abbrev pub counts_in : List Row → List Count
counts_in rows = map (count_among (events_in rows)) rows

-- flood values that pass a test, or none
abbrev pub passes : (Flood → Bool) → Option Flood → Bool
passes test None = true
passes test (Some flood) = test flood

-- the flood values of a put
abbrev pub flood_of : Intent → Option Flood
flood_of (Put part) = part.flood
flood_of (Finish part) = None
flood_of (Restate part) = None
flood_of (Routine part) = None
