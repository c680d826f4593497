-- The intents of a draft at their places, each with the event that it speaks of.
use Rattle.std.specs.Prelude.{ℕ, ◌+◌, ◌&&◌, Bool, true, false, List, [], ◌∷◌, ◌++◌, length, count_by, filter, map}
use Rattle.std.specs.List.{list_any}
use Rattle.hazard_types.specs.Days.{year_of}
use Rattle.hazard_types.specs.Places.{Place}
use Rattle.hazard_types.specs.Same.{same_zone, same_hazard, same_event}
use Rattle.hazard_types.specs.declared.hazard.Event.{Event}
use Rattle.hazard_types.specs.declared.hazard.Hazard.{Hazard}
use Rattle.office_types.specs.declared.request.Intent.{Intent}
use Rattle.office_types.specs.declared.request.Intent.TheVariants.{Put, Finish, Restate, Routine}
use Rattle.office_types.specs.declared.request.Target.{Target}
use Rattle.office_types.specs.declared.request.Target.TheVariants.{Fresh, Join}
use Rattle.event_numbers.specs.declared.Count.{Count}
use Rattle.event_numbers.specs.Counts.{count_of}

pub record Placed : Type 0 where
  pub place : ℕ
  pub event : Event
  pub intent : Intent

abbrev pub targets_new : Hazard → Target → Bool
targets_new h (Fresh g) = same_hazard g h
targets_new h (Join e) = false

-- a put of a new event of this hazard
abbrev pub opens_hazard : Hazard → Intent → Bool
opens_hazard h (Put part) = targets_new h part.target
opens_hazard h (Finish part) = false
opens_hazard h (Restate part) = false
opens_hazard h (Routine part) = false

-- a new event gets the number behind those drawn in the year and those of the earlier places
abbrev pub new_event : List Count → ℕ → List Intent → Hazard → Event
new_event counts t earlier h = record { hazard = h; etn = count_of counts h (year_of t) + 1 + count_by (opens_hazard h) earlier; year = year_of t }

abbrev pub event_of_target : List Count → ℕ → List Intent → Target → Event
event_of_target counts t earlier (Fresh h) = new_event counts t earlier h
event_of_target counts t earlier (Join e) = e

-- a routine intent is on number 0000 of its hazard and the year of issue
abbrev pub event_of_intent : List Count → ℕ → List Intent → Intent → Event
event_of_intent counts t earlier (Put part) = event_of_target counts t earlier part.target
event_of_intent counts t earlier (Finish part) = part.event
event_of_intent counts t earlier (Restate part) = part.event
event_of_intent counts t earlier (Routine part) = record { hazard = part.hazard; etn = 0; year = year_of t }

abbrev pub placed_from : List Count → ℕ → List Intent → List Intent → List Placed
placed_from counts t earlier [] = []
placed_from counts t earlier (i ∷ intents) = record { place = length earlier; event = event_of_intent counts t earlier i; intent = i } ∷ placed_from counts t (earlier ++ i ∷ []) intents

-- the intents at their places, from 0
abbrev pub placed : List Count → ℕ → List Intent → List Placed
placed counts t intents = placed_from counts t [] intents

-- the zones as they were written
abbrev pub zones_of : Intent → List Place
zones_of (Put part) = part.zones
zones_of (Finish part) = part.zones
zones_of (Restate part) = part.zones
zones_of (Routine part) = part.zones

abbrev pub touches : Place → Placed → Bool
touches z p = list_any (λ (y : Place). same_zone y z) (zones_of p.intent)

-- the intent is on the event in the zone
abbrev pub speaks : Event → Place → Placed → Bool
speaks e z p = same_event p.event e && touches z p

-- a put of a new event
abbrev pub is_opening_target : Target → Bool
is_opening_target (Fresh h) = true
is_opening_target (Join e) = false

abbrev pub is_opening : Intent → Bool
is_opening (Put part) = is_opening_target part.target
is_opening (Finish part) = false
is_opening (Restate part) = false
is_opening (Routine part) = false

-- the events that a draft opens, in order of places
abbrev pub opened : List Placed → List Event
opened ps = map (λ (p : Placed). p.event) (filter (λ (p : Placed). is_opening p.intent) ps)
