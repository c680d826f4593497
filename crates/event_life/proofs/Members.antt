-- Members of a list, and tests that look at members alone.
use Rattle.std.proofs.Common.{◌≡◌, ◌⊎◌, inl, inr, ◌||◌, List, [], ◌∷◌, Bool, true, false, Some, None, refl, sym, subst, cond}
use Rattle.std.specs.List.{AllByRecursion, Contains, list_any, list_all, find}
use Rattle.std.proofs.lemmas.Bool.{and_parts}
use Rattle.std.proofs.lemmas.List.Elements.{All-contains_itself, All-contains, All-from_recursion, recursion_from_All}

abbrev pub IsIn : {X : Type 0} → X → List X → Type 0
IsIn x [] = ⊥
IsIn x (y ∷ ys) = (y ≡ x) ⊎ IsIn x ys

pub of_all : {X : Type 0} (P : X → Type 0) (xs : List X) (x : X) → AllByRecursion P xs → IsIn x xs → P x
of_all P [] x all h = absurd h
of_all P (y ∷ ys) x all (inl s) = subst P s all.0
of_all P (y ∷ ys) x all (inr h) = of_all P ys x all.1 h

pub all_of : {X : Type 0} (P : X → Type 0) (xs : List X) → ((x : X) → IsIn x xs → P x) → AllByRecursion P xs
all_of P [] each = tt
all_of P (y ∷ ys) each = (each y (inl refl), all_of P ys (λ x h. each x (inr h)))

pub in_contains : {X : Type 0} (xs : List X) (x : X) → IsIn x xs → Contains xs x
in_contains xs x h = of_all (Contains xs) xs x (recursion_from_All (Contains xs) xs (All-contains_itself xs)) h

pub contains_in : {X : Type 0} (xs : List X) (x : X) → Contains xs x → IsIn x xs
contains_in xs x h = All-contains (λ y. IsIn y xs) xs x (All-from_recursion (λ y. IsIn y xs) xs (all_of (λ y. IsIn y xs) xs (λ y g. g))) h

module _ {X : Type 0} (p : X → Bool) where
  -- a member that passes, where any does
  pub any_in : (xs : List X) → list_any p xs ≡ true → (x : X) × IsIn x xs × (p x ≡ true)
  any_in [] h = cc
  any_in (y ∷ ys) h =
      let step : (b : Bool) → p y ≡ b → (x : X) × IsIn x (y ∷ ys) × (p x ≡ true) =
      λ b. elim b as (λ b. p y ≡ b → (x : X) × IsIn x (y ∷ ys) × (p x ≡ true)) [
        | true ↦ λ e. (y, inl refl, e)
        | false ↦ λ e. let w = any_in ys (rw e at h) in (w.0, inr w.1, w.2)
      ] in
      step (p y) refl

  or_second : (a : Bool) → (a || true) ≡ true
  or_second true = refl
  or_second false = refl

  pub in_any : (xs : List X) (x : X) → IsIn x xs → p x ≡ true → list_any p xs ≡ true
  in_any [] x h e = absurd h
  in_any (y ∷ ys) x (inl s) e = rw (s, e) refl
  in_any (y ∷ ys) x (inr h) e = rw (in_any ys x h e) (or_second (p y))

  pub all_in : (xs : List X) → list_all p xs ≡ true → (x : X) → IsIn x xs → p x ≡ true
  all_in [] h x g = absurd g
  all_in (y ∷ ys) h x (inl s) = subst (λ (v : X). p v ≡ true) s (and_parts (p y) _ h).0
  all_in (y ∷ ys) h x (inr g) = all_in ys (and_parts (p y) _ h).1 x g

  pub in_all : (xs : List X) → ((x : X) → IsIn x xs → p x ≡ true) → list_all p xs ≡ true
  in_all [] each = refl
  in_all (y ∷ ys) each = rw (each y (inl refl)) (in_all ys (λ x h. each x (inr h)))

  -- what a search finds is a member that passes
  pub find_in : (xs : List X) (x : X) → find p xs ≡ Some x → IsIn x xs × (p x ≡ true)
  find_in [] x h = cc
  find_in (y ∷ ys) x h =
      let step : (b : Bool) → p y ≡ b → cond b (Some y) (find p ys) ≡ Some x → IsIn x (y ∷ ys) × (p x ≡ true) =
      λ b. elim b as (λ b. p y ≡ b → cond b (Some y) (find p ys) ≡ Some x → IsIn x (y ∷ ys) × (p x ≡ true)) [
        | true ↦ λ e g. let same : y ≡ x = cc in (inl same, subst (λ (v : X). p v ≡ true) same e)
        | false ↦ λ e g. let w = find_in ys x g in (inr w.0, w.1)
      ] in
      step (p y) refl h

  pub none_in : (xs : List X) → find p xs ≡ None → list_any p xs ≡ false
  none_in [] h = refl
  none_in (y ∷ ys) h =
      let step : (b : Bool) → p y ≡ b → cond b (Some y) (find p ys) ≡ None → (b || list_any p ys) ≡ false =
      λ b. elim b as (λ b. p y ≡ b → cond b (Some y) (find p ys) ≡ None → (b || list_any p ys) ≡ false) [
        | true ↦ λ e g. cc
        | false ↦ λ e g. none_in ys g
      ] in
      step (p y) refl h

pub one_way : (a b : Bool) → (a ≡ true → b ≡ true) → (b ≡ true → a ≡ true) → a ≡ b
one_way true true f g = refl
one_way false false f g = refl
one_way true false f g = sym (f refl)
one_way false true f g = g refl
