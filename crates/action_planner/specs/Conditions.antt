-- What a draft, the board and the numbers are where a product is planned.
use Rattle.std.specs.Prelude.{◌≡◌, ◌&&◌, ◌≤◌, ℕ, Bool, true, false, IsTrue, List, length, nat_le, Option, Some, None, is_some, option_map}
use Rattle.std.specs.List.{All, AllByRecursion, IsDistinct}
use Rattle.hazard_types.specs.Hazards.{facts_of}
use Rattle.hazard_types.specs.Places.{Place}
use Rattle.hazard_types.specs.Same.{same_zone}
use Rattle.hazard_types.specs.declared.codes.Category.{Category}
use Rattle.hazard_types.specs.declared.facts.Facts.{Facts}
use Rattle.hazard_types.specs.declared.hazard.Event.{Event}
use Rattle.hazard_types.specs.declared.hazard.Hazard.{Hazard}
use Rattle.hazard_types.specs.declared.line.Flood.{Flood}
use Rattle.hazard_types.specs.declared.line.Row.{Row}
use Rattle.office_types.specs.declared.request.Intent.{Intent}
use Rattle.office_types.specs.declared.request.Intent.TheVariants.{Put, Finish, Restate, Routine}
use Rattle.office_types.specs.declared.request.Target.{Target}
use Rattle.office_types.specs.declared.request.Target.TheVariants.{Fresh, Join}
use Rattle.event_life.specs.Products.{has_rows}
use Rattle.event_numbers.specs.declared.Count.{Count}
use Rattle.event_numbers.specs.Counts.{count_of}
use Rattle.hazard_board.specs.Consistent.{IsConsistent, EachToLater}
use Rattle.action_planner.specs.Placed.{zones_of}

-- a hazard that the desk issues, of the draft's category: a new event by the category that opens it, another by the one that follows it
abbrev pub IsOpenedBy : Category → Hazard → Type 0
IsOpenedBy c h = (f : Facts) × (facts_of h ≡ Some f) × (f.opens ≡ c)

abbrev pub IsFollowedBy : Category → Hazard → Type 0
IsFollowedBy c h = (f : Facts) × (facts_of h ≡ Some f) × (f.follows ≡ c)

-- the zones are of the hazard's kind
abbrev pub AreOfKind : Hazard → List Place → Type 0
AreOfKind h zones = (f : Facts) → facts_of h ≡ Some f → All (λ (z : Place). z.kind ≡ f.kind) zones

abbrev pub FitsTarget : Category → Target → List Place → Type 0
FitsTarget c (Fresh h) zones = IsOpenedBy c h × AreOfKind h zones
FitsTarget c (Join e) zones = IsFollowedBy c e.hazard × AreOfKind e.hazard zones

abbrev pub Fits : Category → Intent → Type 0
Fits c (Put part) = FitsTarget c part.target part.zones
Fits c (Finish part) = IsFollowedBy c part.event.hazard × AreOfKind part.event.hazard part.zones
Fits c (Restate part) = IsFollowedBy c part.event.hazard × AreOfKind part.event.hazard part.zones
Fits c (Routine part) = IsFollowedBy c part.hazard × AreOfKind part.hazard part.zones

-- at least one zone and at most 600, each once
pub record AreZones (zones : List Place) : Type 0 where
  pub some : 1 ≤ length zones
  pub few : length zones ≤ 600
  pub once : IsDistinct same_zone zones

abbrev pub MayHold : Category → Intent → Type 0
MayHold c i = Fits c i × AreZones (zones_of i)

-- the events of each hazard and year that have rows are numbered from 1 without a gap, and the counts count them
abbrev pub AreNumbered : List Row → List Count → Type 0
AreNumbered rows counts = (e : Event) → has_rows rows e ≡ nat_le 1 e.etn && nat_le e.etn (count_of counts e.hazard e.year)

-- the hazard needs H-VTEC
abbrev pub needs_values : Option Facts → Bool
needs_values None = false
needs_values (Some facts) = facts.flood

abbrev pub site_of : Option Flood → Option (List ℕ)
site_of flood = option_map (λ (f : Flood). f.site) flood

-- the rows of an event whose hazard needs H-VTEC all have it, with one location
pub record AreSited (rows : List Row) : Type 0 where
  pub values : AllByRecursion (λ (row : Row). needs_values (facts_of row.event.hazard) ≡ true → IsTrue (is_some row.flood)) rows
  pub one : EachToLater (λ (a b : Row). needs_values (facts_of a.event.hazard) ≡ true → a.event ≡ b.event → site_of a.flood ≡ site_of b.flood) rows

pub record CanPlan (rows : List Row) (counts : List Count) (c : Category) (intents : List Intent) (t : ℕ) : Type 0 where
  pub few : length intents ≤ 64
  pub fitting : All (MayHold c) intents
  pub consistent : IsConsistent rows t
  pub numbered : AreNumbered rows counts
  pub sited : AreSited rows
  pub minute : t ≤ 52000000
