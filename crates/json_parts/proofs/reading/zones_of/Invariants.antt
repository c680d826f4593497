use Rattle.std.proofs.Common.{◌≡◌, ◌++◌, List, drop, option_map}
use Rattle.hazard_types.specs.Places.{Place}
use Rattle.serde_json.specs.View.{items_view}
use Rattle.json_parts.specs.Json.{zones_of}
use Rattle.json_parts.proofs.reading.zones_of.Given as goal

-- the zones so far, and those of what is left
abbrev pub invariant-loop-value : goal.invariant-loop-value
invariant-loop-value l =
    zones_of (items_view l.values) ≡ option_map (λ (zs : List Place). l.zones ++ zs) (zones_of (items_view (drop l.value-index l.values)))
