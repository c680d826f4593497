use Rattle.std.proofs.Common.{◌≡◌, ◌++◌, false, drop}
use Rattle.serde_json.specs.Written.{items_text}
use Rattle.request_json.specs.Canonical.{zone_items}
use Rattle.request_json.proofs.pieces.write_zones.Given as goal

-- the zones that are left follow
abbrev pub invariant-loop-zone : goal.invariant-loop-zone
invariant-loop-zone l =
    l.initial.out ++ items_text false (zone_items l.zones) ≡ l.out ++ items_text l.later (zone_items (drop l.zone-index l.zones))
