use Rattle.std.proofs.Common.{◌≡◌, ◌++◌, map, drop}
use Rattle.warn_codes_c.specs.Fields.{zone_fields}
use Rattle.warn_codes_c.proofs.ugc.add_zones.Given as goal

-- what is left makes the list whole
abbrev pub invariant-loop-zone : goal.invariant-loop-zone
invariant-loop-zone l = l.rows ++ map zone_fields (drop l.zone-index l.zones) ≡ l.initial.rows ++ map zone_fields l.zones
