-- What is found in a list is one of its items.
use Rattle.std.proofs.Common.{◌≡◌, Bool, true, false, List, [], ◌∷◌, Option, Some, None, if◌then◌else◌, subst, rules}
use Rattle.std.specs.List.{All, AllByRecursion, find}
use Rattle.std.proofs.lemmas.List.Elements.{recursion_from_All}

module _ {X : Type 0} where
  none_is_some : (x : X) → None ≡ Some x → ⊥
  none_is_some x h = search (rules, h)

  some_of : (x y : X) → Some x ≡ Some y → x ≡ y
  some_of x y h = search (rules, h)

module _ {X : Type 0} (P : X → Type 0) (test : X → Bool) where
  here : (b : Bool) (y x : X) (rest : Option X) → P y → (rest ≡ Some x → P x) → (if b then Some y else rest) ≡ Some x → P x
  here true y x rest p q e = subst P (some_of y x e) p
  here false y x rest p q e = q e

  among : (xs : List X) (x : X) → AllByRecursion P xs → find test xs ≡ Some x → P x
  among [] x all e = absurd (none_is_some x e)
  among (y ∷ ys) x all e = here (test y) y x (find test ys) all.0 (among ys x all.1) e

  -- what holds of all holds of the one that is found
  pub found_one : (xs : List X) (x : X) → All P xs → find test xs ≡ Some x → P x
  found_one xs x all e = among xs x (recursion_from_All P xs all) e
