-- How far the rows of each event reach in each area: of an event whose hazard has a rank, an end that comes before the end of none of
-- its rows there that no line has ended.
use Rattle.std.specs.Prelude.{◌≡◌, ◌==◌, ◌+◌, ◌*◌, ◌/◌, ◌&&◌, ◌||◌, not, ℕ, Bool, true, false, List, [], ◌∷◌, if◌then◌else◌, Option, Some, None, is_none, slice_index}
use Rattle.std.specs.BTreeMap.{is_at}
use Rattle.std.specs.BTreeMap.Range.{range_contains}
use Rattle.std.specs.BTreeSet.{insert_key}
use Rattle.std.specs.List.{AllByRecursion, list_any}
use Rattle.std.specs.Ordering.{is_lt}
use Rattle.std.specs.declared.cmp.Ordering.{Ordering}
use Rattle.std.specs.declared.ops.Bound.TheVariants.{Included, Excluded}
use Rattle.hazard_types.specs.Hazards.{facts_of}
use Rattle.hazard_types.specs.Orders.{by_event}
use Rattle.hazard_types.specs.Places.{Place, by_place}
use Rattle.hazard_types.specs.Same.{same_event}
use Rattle.hazard_types.specs.declared.codes.Family.{Family}
use Rattle.hazard_types.specs.declared.hazard.Event.{Event}
use Rattle.hazard_types.specs.declared.line.Row.{Row}
use Rattle.hazard_types.specs.declared.period.End.{End}
use Rattle.hazard_types.specs.declared.period.End.TheVariants as end
use Rattle.hazard_types.specs.contracts.period.EndOrd.TheImpl as end_order
use Rattle.event_life.specs.Higher.{family_of, is_above}
use Rattle.event_life.specs.declared.life.Life.{Life}
use Rattle.row_index.specs.declared.reach.Reach.{Reach}
use Rattle.row_index.specs.declared.seats.Spot.{Spot}
use Rattle.row_index.specs.declared.seats.Spot.TheVariants.{Front, At, Back}
use Rattle.row_index.specs.contracts.reach.ReachOrd.TheImpl as order

abbrev pub by_reach : Reach → Reach → Ordering
by_reach = order.cmp-value.it

abbrev pub end_cmp : End → End → Ordering
end_cmp = end_order.cmp-value.it

abbrev pub rank_of : Event → Option (Family × ℕ)
rank_of e = family_of (facts_of e.hazard)

-- sixteen numbers of a state
unfoldable pub area_of : Place → ℕ
area_of p = (slice_index p.state 0 * 256 + slice_index p.state 1) * 64 + p.number / 16

-- the spot is an event's
abbrev pub is_spot_of : Event → Spot → Bool
is_spot_of e (At d) = same_event d e
is_spot_of e Front = false
is_spot_of e Back = false

-- the key is of the row's area and event, and its end does not come before the row's
abbrev pub holds : Row → Reach → Bool
holds r k = (area_of r.zone == k.area) && (is_spot_of r.event k.spot && not (is_lt (end_cmp k.end r.period.end)))

-- a line has ended the row, its hazard has no rank, or a key holds it
abbrev pub is_reached : List Reach → Row → Bool
is_reached keys r = r.ended || is_none (rank_of r.event) || list_any (holds r) keys

abbrev pub AreReached : List Reach → List Row → Type 0
AreReached keys rows = AllByRecursion (λ (r : Row). is_reached keys r ≡ true) rows

-- the rows of each event are reached
abbrev pub Reaches : List Reach → List (Event × List Row) → Type 0
Reaches keys es = AllByRecursion (λ (e : Event × List Row). AreReached keys e.1) es

-- what one of the keys holds, one of the others does
abbrev pub Grows : List Reach → List Reach → Type 0
Grows old new = (r : Row) → list_any (holds r) old ≡ true → list_any (holds r) new ≡ true

-- the end of a life of an event, in an area
abbrev pub reach_in : Event → Life → ℕ → Reach
reach_in e l area = record { area = area; end = l.period.end; spot = At e }

-- what the key of a life of an event holds in the area that was last, if there was one, one of the keys does
abbrev pub IsLast : Event → Life → Option ℕ → List Reach → Type 0
IsLast e l None keys = Unit {0}
IsLast e l (Some area) keys = (r : Row) → holds r (reach_in e l area) ≡ true → list_any (holds r) keys ≡ true

-- one of an area whose end is not before the minute
abbrev pub lasts : ℕ → ℕ → Reach → Bool
lasts area t k = range_contains by_reach (Included (record { area = area; end = end.At t; spot = Front })) (Excluded (record { area = area; end = end.Ufn; spot = Back })) k

-- the event is above one of the ranks
abbrev pub is_above_any : List (Option (Family × ℕ)) → Event → Bool
is_above_any ranks e = list_any (λ low. is_above (rank_of e) low) ranks

-- the events with that of a spot, if it is above one of the ranks
abbrev pub with_spot : List (Option (Family × ℕ)) → Spot → List Event → List Event
with_spot ranks (At e) events = if is_above_any ranks e then insert_key by_event events e else events
with_spot ranks Front events = events
with_spot ranks Back events = events

-- and with those of spots, one after another
abbrev pub with_spots : List (Option (Family × ℕ)) → List Event → List Reach → List Event
with_spots ranks events [] = events
with_spots ranks events (k ∷ ks) = with_spots ranks (with_spot ranks k.spot events) ks

-- the events of an area, if there is one, above one of the ranks that may reach to the minute are among these
abbrev pub AreaTold : List Reach → ℕ → List (Option (Family × ℕ)) → List Event → Option ℕ → Type 0
AreaTold keys t ranks events None = Unit {0}
AreaTold keys t ranks events (Some area) = (e : Event) (k : Reach) → list_any (is_at (by_reach k)) keys ≡ true → lasts area t k ≡ true → is_spot_of e k.spot ≡ true → is_above_any ranks e ≡ true → list_any (is_at (by_event e)) events ≡ true

-- the same of the area of each zone
abbrev pub AreTold : List Reach → List Place → ℕ → List (Option (Family × ℕ)) → List Event → Type 0
AreTold keys zones t ranks events = (z : Place) → list_any (is_at (by_place z)) zones ≡ true → AreaTold keys t ranks events (Some (area_of z))

-- each event is among the others
abbrev pub Keeps : List Event → List Event → Type 0
Keeps old new = (e : Event) → list_any (is_at (by_event e)) old ≡ true → list_any (is_at (by_event e)) new ≡ true

-- the area is that one
abbrev pub is_area : Option ℕ → ℕ → Bool
is_area None a = false
is_area (Some b) a = b == a
