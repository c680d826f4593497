-- A draft that is sent at a minute, and the rows that its puts leave, zone by zone.
use Rattle.std.specs.Prelude.{ℕ, Bool, true, false, List, [], ◌∷◌}
use Rattle.std.specs.List.{list_any}
use Rattle.hazard_types.specs.Places.{Place}
use Rattle.hazard_types.specs.declared.codes.Action.{Action}
use Rattle.hazard_types.specs.declared.codes.Action.TheVariants.{New}
use Rattle.hazard_types.specs.declared.hazard.Event.{Event}
use Rattle.hazard_types.specs.declared.line.Row.{Row}
use Rattle.office_types.specs.declared.request.Intent.{Intent}
use Rattle.office_types.specs.declared.request.Intent.TheVariants.{Put, Finish, Restate, Routine}
use Rattle.hazard_board.specs.ByZone.{items_at, add_item, add_items}
use Rattle.action_planner.specs.Placed.{Placed}
use Rattle.action_planner.specs.Lines.{opening_action, rows_by_intent}

-- the intents of a draft, over the rows of a board
pub record Sending : Type 0 where
  pub rows : List Row
  pub minute : ℕ
  pub intents : List Placed

abbrev pub Zones : Type 0
Zones = List (Place × List Row)

-- the rows of a zone
abbrev pub rows_in : Zones → Place → List Row
rows_in zones z = items_at zones z

abbrev pub add_row : Zones → Row → Zones
add_row zones row = add_item (λ (r : Row). r.zone) zones row

-- each row in its zone, behind those that are there
abbrev pub add_rows : Zones → List Row → Zones
add_rows zones rows = add_items (λ (r : Row). r.zone) zones rows

-- the rows of each put in turn
abbrev pub add_by_puts : Zones → List Row → ℕ → List Placed → Zones
add_by_puts zones rows t [] = zones
add_by_puts zones rows t (p ∷ ps) = add_by_puts (add_rows zones (rows_by_intent rows t p p.intent)) rows t ps

-- the action of an intent where it meets no row; only a put opens
abbrev pub opening_of : List Row → ℕ → Event → Intent → Action
opening_of rows t e (Put part) = opening_action rows t e part part.target
opening_of rows t e (Finish part) = New
opening_of rows t e (Restate part) = New
opening_of rows t e (Routine part) = New

abbrev pub is_finish : Intent → Bool
is_finish (Put part) = false
is_finish (Finish part) = true
is_finish (Restate part) = false
is_finish (Routine part) = false

-- one of the intents is a finish
abbrev pub have_finish : List Placed → Bool
have_finish ps = list_any (λ (p : Placed). is_finish p.intent) ps
