-- What look-ups over a draft hold: of each event in a zone, which intents are on it; and the zones that are touched.
use Rattle.std.specs.Prelude.{◌≡◌, ◌==◌, ◌||◌, not, ℕ, Bool, false, List, [], ◌∷◌, Option, Some, None}
use Rattle.std.specs.BTreeMap.{insert_entry, is_at}
use Rattle.std.specs.BTreeSet.{insert_key}
use Rattle.std.specs.Map.{lookup}
use Rattle.std.specs.declared.cmp.Ordering.{Ordering}
use Rattle.std.specs.Ordering.{on, then_cmp}
use Rattle.hazard_types.specs.Orders.{by_event}
use Rattle.hazard_types.specs.Places.{Place, by_place}
use Rattle.action_planner.specs.declared.spoken.IntentsOn.{IntentsOn}
use Rattle.action_planner.specs.declared.spoken.Spot.{Spot}
use Rattle.action_planner.specs.Lines.{puts_or_finishes}
use Rattle.action_planner.specs.Placed.{Placed, zones_of}

-- by event, then zone
abbrev pub by_spot : Spot → Spot → Ordering
by_spot = then_cmp (on (λ (s : Spot). s.event) by_event) (on (λ (s : Spot). s.zone) by_place)

abbrev pub spot_of : Placed → Place → Spot
spot_of p z = record { event = p.event; zone = z }

abbrev pub Spots : Type 0
Spots = List (Spot × IntentsOn)

abbrev pub speakers_at : Spots → Spot → Option IntentsOn
speakers_at spots s = lookup (is_at (by_spot s)) spots

-- those on a spot, and one more
abbrev pub with_intent : Option IntentsOn → Placed → IntentsOn
with_intent None p = record { first = p.place; others = false; taken = puts_or_finishes p.intent }
with_intent (Some held) p = record { first = held.first; others = held.others || not (held.first == p.place); taken = held.taken || puts_or_finishes p.intent }

abbrev pub add_spot : Spots → Placed → Place → Spots
add_spot spots p z = insert_entry by_spot spots (spot_of p z) (with_intent (speakers_at spots (spot_of p z)) p)

abbrev pub add_spots : Spots → Placed → List Place → Spots
add_spots spots p [] = spots
add_spots spots p (z ∷ zones) = add_spots (add_spot spots p z) p zones

-- each event in a zone, with the intents on it
abbrev pub spots_from : Spots → List Placed → Spots
spots_from spots [] = spots
spots_from spots (p ∷ ps) = spots_from (add_spots spots p (zones_of p.intent)) ps

abbrev pub add_zones : List Place → List Place → List Place
add_zones held [] = held
add_zones held (z ∷ zones) = add_zones (insert_key by_place held z) zones

-- the zones that are touched
abbrev pub zones_from : List Place → List Placed → List Place
zones_from held [] = held
zones_from held (p ∷ ps) = zones_from (add_zones held (zones_of p.intent)) ps

-- the look-ups hold what these intents say
pub record IsIndex (ps : List Placed) (spots : Spots) (zones : List Place) : Type 0 where
  pub spoken : spots ≡ spots_from [] ps
  pub touched : zones ≡ zones_from [] ps

-- whether one of those on a spot is a put or a finish
abbrev pub is_taken : Option IntentsOn → Bool
is_taken None = false
is_taken (Some held) = held.taken

-- whether one of those on a spot is at another place than this
abbrev pub has_other : ℕ → Option IntentsOn → Bool
has_other n None = false
has_other n (Some held) = not (held.first == n) || held.others
