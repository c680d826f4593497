-- Lists in order against a key: an item put at the key, and the items without the one at the key.
use Rattle.std.specs.Prelude.{List, [], ◌∷◌}
use Rattle.std.specs.declared.cmp.Ordering.{Ordering}
use Rattle.std.specs.declared.cmp.Ordering.TheVariants.{Less, Equal, Greater}

-- behind a first item before the key, in the place of one at it, or before one behind it
abbrev pub placed_at : {X : Type 0} → Ordering → X → X → List X → List X → List X
placed_at Less y x xs behind = x ∷ behind
placed_at Equal y x xs behind = y ∷ xs
placed_at Greater y x xs behind = y ∷ x ∷ xs

-- the items with y at the key, where `ord` says how each stands against it
abbrev pub put_at : {X : Type 0} → (X → Ordering) → X → List X → List X
put_at ord y [] = y ∷ []
put_at ord y (x ∷ xs) = placed_at (ord x) y x xs (put_at ord y xs)

abbrev pub left_at : {X : Type 0} → Ordering → X → List X → List X → List X
left_at Less x xs behind = x ∷ behind
left_at Equal x xs behind = xs
left_at Greater x xs behind = x ∷ xs

-- the items without the one at the key
abbrev pub left_out : {X : Type 0} → (X → Ordering) → List X → List X
left_out ord [] = []
left_out ord (x ∷ xs) = left_at (ord x) x xs (left_out ord xs)
