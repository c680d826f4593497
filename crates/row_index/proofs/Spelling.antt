-- What is written of a list, and of one item more.
use Rattle.std.proofs.Common.{◌≡◌, ◌∙◌, ℕ, ◌+◌, ◌<◌, List, [], ◌∷◌, ◌++◌, length, take, get_or, map, flat_map, ap, sym, append_assoc}
use Rattle.std.proofs.lemmas.List.{flat_map_more, map-append, take_more}

module _ {X : Type 0} where
  pub longer : (xs : List X) (i : ℕ) (x : X) → i < length xs → x ≡ get_or xs i x → take (i + 1) xs ≡ take i xs ++ x ∷ []
  longer xs i x lt is = take_more xs i x lt ∙ ap (λ (y : X). take i xs ++ y ∷ []) (sym is)

module _ {X A : Type 0} where
  pub flat_next : (f : X → List A) (xs : List X) (i : ℕ) (x : X) (start old new : List A) → i < length xs → x ≡ get_or xs i x → new ≡ old ++ f x → old ≡ start ++ flat_map f (take i xs) → new ≡ start ++ flat_map f (take (i + 1) xs)
  flat_next f xs i x start old new lt is made h =
      made ∙ ap (λ (t : List A). t ++ f x) h ∙ flat_map_more f start (take i xs) x ∙ ap (λ (t : List X). start ++ flat_map f t) (sym (longer xs i x lt is))

  pub map_next : (f : X → A) (xs : List X) (i : ℕ) (x : X) (a : A) (start old new : List A) → i < length xs → x ≡ get_or xs i x → a ≡ f x → new ≡ old ++ a ∷ [] → old ≡ start ++ map f (take i xs) → new ≡ start ++ map f (take (i + 1) xs)
  map_next f xs i x a start old new lt is is_of made h =
      made
      ∙ ap (λ (y : A). old ++ y ∷ []) is_of
      ∙ ap (λ (t : List A). t ++ f x ∷ []) h
      ∙ append_assoc start (map f (take i xs)) (f x ∷ [])
      ∙ ap (λ (t : List A). start ++ t) (sym (map-append f (take i xs) (x ∷ [])))
      ∙ ap (λ (t : List X). start ++ map f t) (sym (longer xs i x lt is))
