-- The rules on an intent in each of its zones, by their names.
use Rattle.std.specs.Prelude.{ℕ, Bool, List, find, Option}
use Rattle.hazard_types.specs.Places.{Place}
use Rattle.hazard_types.specs.declared.hazard.Event.{Event}
use Rattle.hazard_types.specs.declared.line.Row.{Row}
use Rattle.office_types.specs.declared.refusal.Refusal.{Refusal}
use Rattle.action_planner.specs.declared.zone_rules.ZoneRule.{ZoneRule}
use Rattle.action_planner.specs.declared.zone_rules.ZoneRule.TheVariants.{NotLive, LeftBefore, Twice, BegunMoved}
use Rattle.action_planner.specs.Placed.{Placed, zones_of}
use Rattle.action_planner.specs.Offences.{is_gone, was_left, is_shared, is_moved, zone_named, refused_not_live, refused_left_before, refused_twice, refused_begun_moved}

-- the intent breaks the rule in the zone
abbrev pub is_against : List Row → ℕ → List Placed → ZoneRule → Placed → Place → Bool
is_against rows t all NotLive p z = is_gone rows t p.event p.intent z
is_against rows t all LeftBefore p z = was_left rows t p.event p.intent z
is_against rows t all Twice p z = is_shared all p z
is_against rows t all BegunMoved p z = is_moved rows t p.event p.intent z

abbrev pub refused : ZoneRule → Event → Place → Refusal
refused NotLive e z = refused_not_live e z
refused LeftBefore e z = refused_left_before e z
refused Twice e z = refused_twice e z
refused BegunMoved e z = refused_begun_moved e z

-- what an intent is refused with under a rule: it names the first zone that breaks it
abbrev pub zone_offence : List Row → ℕ → List Placed → ZoneRule → Placed → Option Refusal
zone_offence rows t all rule p = zone_named (refused rule) p.event (find (is_against rows t all rule p) (zones_of p.intent))
