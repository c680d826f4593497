-- Spots: the event and zone of each row, by year, number, hazard and zone. The spots of one event stand together, and lead to its rows.
use Rattle.std.specs.Prelude.{◌≡◌, ◌&&◌, ℕ, Bool, false, List, [], ◌∷◌, filter, find, length, Option, Some, None, is_some}
use Rattle.std.specs.List.Sorted.{IsStrictlySortedBy}
use Rattle.std.specs.declared.cmp.Ordering.{Ordering}
use Rattle.std.specs.Ordering.{on, then_cmp, nat_cmp}
use Rattle.hazard_types.specs.Orders.{by_event}
use Rattle.hazard_types.specs.Places.{Place, by_place}
use Rattle.hazard_types.specs.Same.{same_event, same_zone}
use Rattle.hazard_types.specs.declared.hazard.Event.{Event}
use Rattle.hazard_types.specs.declared.line.Row.{Row}
use Rattle.hazard_types.specs.declared.period.Period.{Period}
use Rattle.event_life.specs.Periods.{is_live, same_at}
use Rattle.event_life.specs.Products.{row_at}
use Rattle.hazard_board.specs.Seats.{put_at}
use Rattle.hazard_board.specs.declared.spots.Spot.{Spot}

-- by year, then number, then hazard: a new event stands near the end
abbrev pub by_year : Event → Event → Ordering
by_year = then_cmp (on (λ (e : Event). e.year) nat_cmp) (then_cmp (on (λ (e : Event). e.etn) nat_cmp) by_event)

-- by event, then zone
abbrev pub by_spot : Spot → Spot → Ordering
by_spot = then_cmp (on (λ (s : Spot). s.event) by_year) (on (λ (s : Spot). s.zone) by_place)

abbrev pub is_spot : Event → Place → Spot → Bool
is_spot e z s = same_event s.event e && same_zone s.zone z

-- the event has a spot in the zone
abbrev pub has_spot : List Spot → Event → Place → Bool
has_spot spots e z = is_some (find (is_spot e z) spots)

-- the spots of an event
abbrev pub spots_of : Event → List Spot → List Spot
spots_of e spots = filter (λ (s : Spot). same_event s.event e) spots

abbrev pub spot_of : Row → Spot
spot_of row = record { event = row.event; zone = row.zone }

-- the spots with the spot in its place
abbrev pub put_spot : Spot → List Spot → List Spot
put_spot s spots = put_at (λ (x : Spot). by_spot x s) s spots

abbrev pub add_spot_if : Option Row → List Spot → List Spot
add_spot_if None spots = spots
add_spot_if (Some row) spots = put_spot (spot_of row) spots

abbrev pub first_found : Option Row → List Row → List Row
first_found None rows = rows
first_found (Some row) rows = row ∷ rows

-- the rows at the spots
abbrev pub rows_on : List Row → List Spot → List Row
rows_on rows [] = []
rows_on rows (s ∷ spots) = first_found (row_at rows s.event s.zone) (rows_on rows spots)

-- the rows of an event
abbrev pub rows_of_event : Event → List Row → List Row
rows_of_event e rows = filter (λ (r : Row). same_event r.event e) rows

abbrev pub first_of : List Row → Option Row
first_of [] = None
first_of (row ∷ rows) = Some row

-- the row is live with this period
abbrev pub has_opened_period : Period → ℕ → Row → Bool
has_opened_period p t r = is_live t r && same_at t r.period p

abbrev pub has_same_if : Period → ℕ → Option Row → Bool
has_same_if p t None = false
has_same_if p t (Some r) = has_opened_period p t r

-- the spots are those of the rows, in order, each once
pub record AreSpots (rows : List Row) (spots : List Spot) : Type 0 where
  pub order : IsStrictlySortedBy by_spot spots
  pub told : (e : Event) (z : Place) → has_spot spots e z ≡ is_some (row_at rows e z)
  pub count : length spots ≡ length rows
