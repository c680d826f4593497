-- Rows at their seats.
use Rattle.std.specs.Prelude.{◌≡◌, not, Bool, List, if◌then◌else◌}
use Rattle.std.specs.BTreeMap.{is_at}
use Rattle.std.specs.BTreeSet.{insert_key}
use Rattle.std.specs.List.{AllByRecursion, list_any}
use Rattle.std.specs.declared.cmp.Ordering.{Ordering}
use Rattle.hazard_types.specs.Places.{Place}
use Rattle.hazard_types.specs.declared.hazard.Event.{Event}
use Rattle.hazard_types.specs.declared.line.Line.{Line}
use Rattle.hazard_types.specs.declared.line.Row.{Row}
use Rattle.event_life.specs.Products.{is_routine, is_upgrade}
use Rattle.row_index.specs.declared.seats.Seat.{Seat}
use Rattle.row_index.specs.declared.seats.Spot.TheVariants.{At}
use Rattle.row_index.specs.contracts.seats.SeatOrd.TheImpl as seat

-- by zone, then spot
abbrev pub by_seat : Seat → Seat → Ordering
by_seat = seat.cmp-value.it

-- the seat of an event in a zone
abbrev pub seat_at : Event → Place → Seat
seat_at e z = record { zone = z; spot = At e }

-- the seat of a row
abbrev pub seat_of : Row → Seat
seat_of r = seat_at r.event r.zone

-- each row is at its own seat
abbrev pub AreSeated : List (Seat × Row) → Type 0
AreSeated es = AllByRecursion (λ (e : Seat × Row). e.0 ≡ seat_of e.1) es

-- the seat that a line speaks of
abbrev pub key_of_line : Line → Seat
key_of_line line = seat_at line.event line.zone

-- a seat is among these
abbrev pub has_seat : List Seat → Seat → Bool
has_seat seats s = list_any (is_at (by_seat s)) seats

-- the line speaks of its event in its zone
abbrev pub speaks : Line → Bool
speaks line = not (is_routine line.action)

-- one that says that a higher row takes the zone over
abbrev pub upgrades : Line → Bool
upgrades line = is_upgrade line.action

-- the seats with that of a line where it counts
abbrev pub seats_with : Bool → Line → List Seat → List Seat
seats_with counts line seats = if counts then insert_key by_seat seats (key_of_line line) else seats
