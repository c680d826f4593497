-- what is left decides as the whole does
use Rattle.std.proofs.Common.{◌≡◌, drop}
use Rattle.row_index.specs.Apart.{last_zone, zones_rise}
use Rattle.row_index.proofs.apart.zones_rise.Given as goal

abbrev pub invariant-loop-zone : goal.invariant-loop-zone
invariant-loop-zone l = record {
  rise : zones_rise l.last (drop l.zone-index l.zones) ≡ zones_rise l.fn.last l.zones;
  last : last_zone l.last (drop l.zone-index l.zones) ≡ last_zone l.fn.last l.zones;
}
