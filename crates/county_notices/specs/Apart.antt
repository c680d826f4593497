-- Notices put in between the products of a desk.
use Rattle.std.specs.Prelude.{◌≡◌, ◌⊎◌, Bool, true, false, List, [], ◌∷◌, filter, is_some}
use Rattle.std.specs.List.{AllByRecursion}
use Rattle.hazard_types.specs.Hazards.{facts_of}
use Rattle.hazard_types.specs.ZoneLines.{ZoneLine}
use Rattle.hazard_types.specs.declared.hazard.Event.{Event}
use Rattle.hazard_types.specs.declared.hazard.Hazard.{Hazard}
use Rattle.event_life.specs.Products.{Product}

-- a hazard that the desk issues
abbrev pub is_desks : Hazard → Bool
is_desks h = is_some (facts_of h)

-- all lines of a product are of such hazards; none is
abbrev pub IsOfDesk : Product → Type 0
IsOfDesk p = AllByRecursion (λ (said : ZoneLine). is_desks said.vtec.hazard ≡ true) p.said

abbrev pub IsOfOthers : Product → Type 0
IsOfOthers p = AllByRecursion (λ (said : ZoneLine). is_desks said.vtec.hazard ≡ false) p.said

-- the events of the desk's hazards
abbrev pub desks_events : List Event → List Event
desks_events events = filter (λ (e : Event). is_desks e.hazard) events

-- These products are those of two lists, put in between each other: each list in its own order.
abbrev pub AreMerged : List Product → List Product → List Product → Type 0
AreMerged desk others [] = (desk ≡ []) × (others ≡ [])
AreMerged desk others (p ∷ all) = ((rest : List Product) × (desk ≡ p ∷ rest) × AreMerged rest others all) ⊎ ((rest : List Product) × (others ≡ p ∷ rest) × AreMerged desk rest all)
