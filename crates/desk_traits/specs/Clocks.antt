-- The readings of a clock.
use Rattle.std.specs.Prelude.{◌≡◌, ◌↔◌, ℤ, List, [], ◌∷◌, Option, None, Some}

-- the first of the readings ahead is given and taken away, unless it is the only one
abbrev pub Ticks : Option (List ℤ) → Option (List ℤ) → ℤ → Type 0
Ticks None None reading = Unit {0}
Ticks None (Some readings) reading = ⊥
Ticks (Some []) new reading = ⊥
Ticks (Some (only ∷ [])) new reading = (reading ≡ only) × (new ≡ Some (only ∷ []))
Ticks (Some (first ∷ second ∷ more)) new reading = (reading ≡ first) × (new ≡ Some (second ∷ more))

-- the same readings may come
abbrev pub GivesTheSame : (ℤ → Type 0) → (ℤ → Type 0) → Type 0
GivesTheSame old new = (reading : ℤ) → new reading ↔ old reading
