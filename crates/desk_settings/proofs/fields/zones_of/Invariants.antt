use Rattle.std.proofs.Common.{◌≡◌, ◌++◌, ℕ, List, option_map}
use Rattle.toml.specs.View.{members_view}
use Rattle.hazard_types.specs.Places.{Place}
use Rattle.desk_settings.specs.Reading.{zone_pairs}
use Rattle.desk_settings.proofs.fields.zones_of.Given as goal

-- the zones so far, and those of what is left
abbrev pub invariant-loop-key : goal.invariant-loop-key
invariant-loop-key l =
    zone_pairs (members_view l.table.entries) ≡ option_map (λ (more : List (Place × List ℕ)). l.zones ++ more) (zone_pairs (members_view l.key-iterator))
