-- What a list has.
use Rattle.std.proofs.Common.{◌≡◌, ◌∙◌, ◌⊎◌, inl, inr, List, [], ◌∷◌, ◌++◌, Bool, true, false, cond, map, refl, ap, sym, subst, true≢false}
use Rattle.std.specs.Prelude.{◌≢◌}
use Rattle.std.specs.List.{filter, AllByRecursion}
use Rattle.segmenter.specs.Segments.{Has}

module _ {X : Type 0} where
  pub has_left : (xs : List X) (x y : X) → Has xs x → Has (xs ++ y ∷ []) x
  has_left [] x y h = absurd h
  has_left (z ∷ xs) x y (inl e) = inl e
  has_left (z ∷ xs) x y (inr h) = inr (has_left xs x y h)

  pub has_end : (xs : List X) (x y : X) → x ≡ y → Has (xs ++ y ∷ []) x
  has_end [] x y e = inl e
  has_end (z ∷ xs) x y e = inr (has_end xs x y e)

  pub has_pushed : (xs : List X) (x y : X) → Has (xs ++ y ∷ []) x → Has xs x ⊎ (x ≡ y)
  has_pushed [] x y (inl e) = inr e
  has_pushed [] x y (inr h) = absurd h
  has_pushed (z ∷ xs) x y (inl e) = inl (inl e)
  has_pushed (z ∷ xs) x y (inr h) = elim (has_pushed xs x y h) as (λ _. Has (z ∷ xs) x ⊎ (x ≡ y)) [ inl l ↦ inl (inr l) | inr e ↦ inr e ]

  kept_by : (p : X → Bool) (b : Bool) (y : X) (ys : List X) (x : X) → p y ≡ b → Has (cond b (y ∷ filter p ys) (filter p ys)) x → (Has (filter p ys) x → Has ys x × (p x ≡ true)) → Has (y ∷ ys) x × (p x ≡ true)
  kept_by p true y ys x is (inl e) later = (inl e, ap p e ∙ is)
  kept_by p true y ys x is (inr h) later = let r = later h in (inr r.0, r.1)
  kept_by p false y ys x is h later = let r = later h in (inr r.0, r.1)

  -- what a filter keeps stands in the list and passes
  pub has_kept : (p : X → Bool) (xs : List X) (x : X) → Has (filter p xs) x → Has xs x × (p x ≡ true)
  has_kept p [] x h = absurd h
  has_kept p (y ∷ ys) x h = kept_by p (p y) y ys x refl h (has_kept p ys x)

  keeps_by : (p : X → Bool) (b : Bool) (y : X) (ys : List X) (x : X) → p y ≡ b → p x ≡ true → (x ≡ y) ⊎ Has (filter p ys) x → Has (cond b (y ∷ filter p ys) (filter p ys)) x
  keeps_by p true y ys x is passes h = h
  keeps_by p false y ys x is passes (inl e) = absurd (true≢false (sym passes ∙ ap p e ∙ is))
  keeps_by p false y ys x is passes (inr h) = h

  pub keeps : (p : X → Bool) (xs : List X) (x : X) → Has xs x → p x ≡ true → Has (filter p xs) x
  keeps p [] x h passes = absurd h
  keeps p (y ∷ ys) x (inl e) passes = keeps_by p (p y) y ys x refl passes (inl e)
  keeps p (y ∷ ys) x (inr h) passes = keeps_by p (p y) y ys x refl passes (inr (keeps p ys x h passes))

  pub all_at : (P : X → Type 0) (xs : List X) (x : X) → AllByRecursion P xs → Has xs x → P x
  all_at P [] x all h = absurd h
  all_at P (y ∷ ys) x all (inl e) = subst P (sym e) all.0
  all_at P (y ∷ ys) x all (inr h) = all_at P ys x all.1 h

  pub all_from : (P : X → Type 0) (xs : List X) → ((x : X) → Has xs x → P x) → AllByRecursion P xs
  all_from P [] each = tt
  all_from P (y ∷ ys) each = (each y (inl refl), all_from P ys (λ x h. each x (inr h)))

  pub has_some : (xs : List X) → xs ≢ [] → (x : X) × Has xs x
  has_some [] some = absurd (some refl)
  has_some (x ∷ xs) some = (x, inl refl)

  pub not_empty : (xs : List X) (x : X) → Has xs x → xs ≢ []
  not_empty xs x h e = subst (λ (ys : List X). Has ys x) e h

module _ {X Y : Type 0} (f : X → Y) where
  pub has_mapped : (xs : List X) (x : X) → Has xs x → Has (map f xs) (f x)
  has_mapped [] x h = absurd h
  has_mapped (y ∷ ys) x (inl e) = inl (ap f e)
  has_mapped (y ∷ ys) x (inr h) = inr (has_mapped ys x h)

  pub mapped_from : (xs : List X) (y : Y) → Has (map f xs) y → (x : X) × Has xs x × (y ≡ f x)
  mapped_from [] y h = absurd h
  mapped_from (x ∷ xs) y (inl e) = (x, inl refl, e)
  mapped_from (x ∷ xs) y (inr h) = let r = mapped_from xs y h in (r.0, inr r.1, r.2)
