-- The steps of each event by zone, as the code holds them, and those of a run of lines.
use Rattle.std.specs.Prelude.{◌++◌, ◌<◌, ℕ, List, [], ◌∷◌, fold, map, get_or, unwrap_or, if◌then◌else◌}
use Rattle.std.specs.BTreeMap.{insert_entry, is_at}
use Rattle.std.specs.List.Sorted.{IsStrictlySortedBy}
use Rattle.std.specs.Map.{keys_of, lookup}
use Rattle.hazard_types.specs.Orders.{by_event}
use Rattle.hazard_types.specs.Places.{Place, by_place}
use Rattle.hazard_types.specs.declared.hazard.Event.{Event}
use Rattle.row_index.specs.declared.verdicts.Verdict.{Verdict}
use Rattle.row_index.specs.Verdicts.{leaves_row}
use Rattle.product_decoder.specs.Chains.{chains_of}
use Rattle.product_decoder.specs.declared.zone_steps.SharedStep.{SharedStep}
use Rattle.product_decoder.specs.Steps.{Step, Steps, with_step}

-- the steps of an event in each zone, by zone
abbrev pub Zones : Type 0
Zones = List (Place × List Step)

-- what the code holds of them: the place of the last in each zone
abbrev pub Lasts : Type 0
Lasts = List (Place × ℕ)

-- they end chains
abbrev pub zones_in : List (List Step) → Lasts → Zones
zones_in chains lasts = map (λ (e : Place × ℕ). (e.0, get_or chains e.1 [])) lasts

abbrev pub zones_told : List SharedStep → Lasts → Zones
zones_told shared lasts = zones_in (chains_of shared) lasts

-- the places are those of so many steps
abbrev pub AreWithin : ℕ → Lasts → Type 0
AreWithin count [] = Unit {0}
AreWithin count (e ∷ lasts) = (e.1 < count) × AreWithin count lasts

-- those in a zone, which has none where it does not stand
abbrev pub at_zone : Zones → Place → List Step
at_zone zones z = unwrap_or (lookup (is_at (by_place z)) zones) []

-- one step more in a zone
abbrev pub with_zone : Zones → Place → Step → Zones
with_zone zones z s = insert_entry by_place zones z (at_zone zones z ++ s ∷ [])

-- the same step more in each of these zones
abbrev pub with_zones : Step → Zones → List Place → Zones
with_zones step zones places = fold (λ (zones : Zones) (z : Place). with_zone zones z step) zones places

-- those of each event, by event
abbrev pub Events : Type 0
Events = List (Event × Zones)

abbrev pub AreAscending : Events → Type 0
AreAscending es = IsStrictlySortedBy by_event (keys_of es)

-- those of an event, which has none where it does not stand
abbrev pub zones_at : Events → Event → Zones
zones_at es e = unwrap_or (lookup (is_at (by_event e)) es) []

-- all of them, by event, then zone

abbrev pub under : Event → Zones → Steps
under e [] = []
under e (z ∷ zones) = (record { event = e; zone = z.0 }, z.1) ∷ under e zones

abbrev pub flat : Events → Steps
flat [] = []
flat (e ∷ es) = under e.0 e.1 ++ flat es

-- with the same step more of an event in each of these zones
abbrev pub with_run : Step → Event → Steps → List Place → Steps
with_run step e steps places = fold (λ (steps : Steps) (z : Place). with_step steps (record { event = e; zone = z }) step) steps places

-- with the step of a line, where it is lawful, in each of these zones
abbrev pub with_verdict : ℕ → List Place → Steps → Verdict → Steps
with_verdict issue zones steps v = if leaves_row v then with_run (v.line.action, issue) v.line.event steps zones else steps
