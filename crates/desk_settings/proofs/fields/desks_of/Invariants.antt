use Rattle.std.proofs.Common.{◌≡◌, ◌++◌, ℕ, List, drop, option_map}
use Rattle.toml.specs.View.{items_view}
use Rattle.desk_settings.specs.Reading.{names_of}
use Rattle.desk_settings.proofs.fields.desks_of.Given as goal

-- the desks so far, and those of what is left
abbrev pub invariant-loop-item : goal.invariant-loop-item
invariant-loop-item l =
    names_of (items_view l.items) ≡ option_map (λ (more : List (List ℕ)). l.desks ++ more) (names_of (items_view (drop l.item-index l.items)))
