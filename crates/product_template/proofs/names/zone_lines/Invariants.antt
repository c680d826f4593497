use Rattle.std.proofs.Common.{◌≡◌, ◌++◌, drop, map}
use Rattle.product_template.specs.Bodies.{zone_names}
use Rattle.product_template.proofs.names.zone_lines.Given as goal

-- the names of what is left follow
abbrev pub invariant-loop-zone : goal.invariant-loop-zone
invariant-loop-zone l =
    zone_names l.settings.zones l.zones ≡ map (λ name. name.now) l.names.items ++ zone_names l.settings.zones (drop l.zone-index l.zones)
