-- The tests `==` of zones, hazards and events. Each holds of identical values alone.
use Rattle.std.specs.Prelude.{Bool}
use Rattle.hazard_types.specs.Places.{Place}
use Rattle.hazard_types.specs.declared.hazard.Hazard.{Hazard}
use Rattle.hazard_types.specs.declared.hazard.Event.{Event}
use Rattle.hazard_types.specs.contracts.zone.ZonePartialEq.TheImpl as zone
use Rattle.hazard_types.specs.contracts.hazard.HazardPartialEq.TheImpl as hazard
use Rattle.hazard_types.specs.contracts.hazard.EventPartialEq.TheImpl as event

abbrev pub same_zone : Place → Place → Bool
same_zone = zone.eq-value.it

abbrev pub same_hazard : Hazard → Hazard → Bool
same_hazard = hazard.eq-value.it

abbrev pub same_event : Event → Event → Bool
same_event = event.eq-value.it
