-- How many lives pass a test, before and after those of some zones come to one.
use Rattle.std.specs.Prelude.{◌≡◌, ◌+◌, ℕ, zero, suc, Bool, true, false, List, [], ◌∷◌, if◌then◌else◌, Option, Some, None}
use Rattle.hazard_types.specs.declared.line.Row.{Row}
use Rattle.event_life.specs.declared.life.Life.{Life}
use Rattle.event_life.specs.Products.{life_of}
use Rattle.row_index.specs.declared.standing.Before.{Before}

-- how many items pass a test
abbrev pub tally : {X : Type 0} → (X → Bool) → List X → ℕ
tally p [] = 0
tally p (x ∷ xs) = if p x then suc (tally p xs) else tally p xs

abbrev pub one : Bool → ℕ
one true = 1
one false = 0

-- one where there is an item that passes
abbrev pub one_of : {X : Type 0} → (X → Bool) → Option X → ℕ
one_of p None = 0
one_of p (Some x) = one (p x)

-- so many times a number
abbrev pub times : ℕ → ℕ → ℕ
times zero n = 0
times (suc k) n = n + times k n

-- how many of the zones had a life that passes
abbrev pub owed : (Life → Bool) → List Before → ℕ
owed p [] = 0
owed p (b ∷ bs) = times b.zones (one_of p b.life) + owed p bs

-- of the lives after, with those that zones had before, as many pass as of the lives before, with so many times this one
abbrev pub IsTallied : (Life → Bool) → List Life → List Life → List Before → ℕ → Life → Type 0
IsTallied p old new befores n life = tally p new + owed p befores ≡ tally p old + times n (one (p life))

abbrev pub passes : (Life → Bool) → Row → Bool
passes p r = p (life_of r)

-- the same of the lives of rows
abbrev pub AreTallied : (Life → Bool) → List Row → List Row → List Before → ℕ → Life → Type 0
AreTallied p old new befores n life = tally (passes p) new + owed p befores ≡ tally (passes p) old + times n (one (p life))
