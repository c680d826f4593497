use Rattle.std.proofs.Common.{◌≡◌, map, take}
use Rattle.serde_json.specs.View.{view}
use Rattle.request_json.specs.Canonical.{zone_data}
use Rattle.request_json.proofs.canonical.zone_values.Given as goal

-- those so far are written
abbrev pub invariant-loop-zone : goal.invariant-loop-zone
invariant-loop-zone l = map view l.values.items ≡ map zone_data (take l.zone-index l.zones)
