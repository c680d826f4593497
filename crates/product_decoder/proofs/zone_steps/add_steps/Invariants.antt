use Rattle.std.proofs.Common.{◌≡◌, length, drop}
use Rattle.product_decoder.specs.ZoneSteps.{zones_told, AreWithin, with_zones}
use Rattle.product_decoder.proofs.zone_steps.add_steps.Given as goal

-- the zones that are left add what all of them do
abbrev pub invariant-loop-zone : goal.invariant-loop-zone
invariant-loop-zone l = record {
  put : with_zones (l.action, l.issue) (zones_told l.shared.items l.lasts) (drop l.zone-index l.zones) ≡ with_zones (l.action, l.issue) (zones_told l.initial.shared.items l.initial.lasts) l.zones;
  within : AreWithin (length l.shared.items) l.lasts;
}
