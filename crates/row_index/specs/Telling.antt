-- Keys that are kept of a list of items, in whatever order.
use Rattle.std.specs.Prelude.{◌≡◌, ◌&&◌, Bool, List}
use Rattle.std.specs.List.{list_any}

-- a test finds one of the keys exactly where it finds the key of one of the items that count
abbrev pub Tells : {K X : Type 0} → (X → Bool) → (X → K) → List K → List X → Type 0
Tells {K} counts key keys items = (q : K → Bool) → list_any q keys ≡ list_any (λ x. counts x && q (key x)) items
