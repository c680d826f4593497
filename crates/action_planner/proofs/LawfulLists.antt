-- Lists: what holds of each element, of each pair, and of what is found.
use Rattle.std.proofs.Common.{◌≡◌, ◌⊎◌, inl, inr, ⊎_elim, ◌||◌, ℕ, zero, suc, ◌<◌, length, get_or, arith, List, [], ◌∷◌, ◌++◌, Bool, true, false, Option, Some, None, refl, ap, cond, map}
use Rattle.std.proofs.lemmas.Bool.{or_parts, or_from, or_left, or_right}
use Rattle.std.specs.List.{AllByRecursion, AllPairs, Any, Contains, cons_option, filter, filter_map, find, list_any}

module _ {X : Type 0} where
  pub all_append : (P : X → Type 0) (xs ys : List X) → AllByRecursion P xs → AllByRecursion P ys → AllByRecursion P (xs ++ ys)
  all_append P [] ys all more = more
  all_append P (x ∷ xs) ys all more = (all.0, all_append P xs ys all.1 more)

  pub all_weaker : (P Q : X → Type 0) → ((x : X) → P x → Q x) → (xs : List X) → AllByRecursion P xs → AllByRecursion Q xs
  all_weaker P Q f [] all = tt
  all_weaker P Q f (x ∷ xs) all = (f x all.0, all_weaker P Q f xs all.1)

  pub all_both : (P Q : X → Type 0) (xs : List X) → AllByRecursion P xs → AllByRecursion Q xs → AllByRecursion (λ x. P x × Q x) xs
  all_both P Q [] all more = tt
  all_both P Q (x ∷ xs) all more = ((all.0, more.0), all_both P Q xs all.1 more.1)

  pub all_each : (P : X → Type 0) → ((x : X) → P x) → (xs : List X) → AllByRecursion P xs
  all_each P f [] = tt
  all_each P f (x ∷ xs) = (f x, all_each P f xs)

  all_filter_step : (P : X → Type 0) (f : X → Bool) (x : X) (xs : List X) (b : Bool) → f x ≡ b → P x → AllByRecursion (λ y. P y × (f y ≡ true)) (filter f xs) → AllByRecursion (λ y. P y × (f y ≡ true)) (cond b (x ∷ filter f xs) (filter f xs))
  all_filter_step P f x xs true e own more = ((own, e), more)
  all_filter_step P f x xs false e own more = more

  -- of those that are kept, what held, and the test
  pub all_filter : (P : X → Type 0) (f : X → Bool) (xs : List X) → AllByRecursion P xs → AllByRecursion (λ x. P x × (f x ≡ true)) (filter f xs)
  all_filter P f [] all = tt
  all_filter P f (x ∷ xs) all = all_filter_step P f x xs (f x) refl all.0 (all_filter P f xs all.1)

  pub none_of : (f : X → Bool) (xs : List X) → list_any f xs ≡ false → AllByRecursion (λ x. f x ≡ false) xs
  none_of f [] h = tt
  none_of f (x ∷ xs) h = let p = or_parts (f x) (list_any f xs) h in (p.0, none_of f xs p.1)

  pub none_from : (f : X → Bool) (xs : List X) → AllByRecursion (λ x. f x ≡ false) xs → list_any f xs ≡ false
  none_from f [] all = refl
  none_from f (x ∷ xs) all = or_from (f x) (list_any f xs) all.0 (none_from f xs all.1)

  find_step : (b : Bool) (x : X) (o : Option X) → cond b (Some x) o ≡ None → (b ≡ false) × (o ≡ None)
  find_step true x o h = cc
  find_step false x o h = (refl, h)

  pub find_none : (f : X → Bool) (xs : List X) → find f xs ≡ None → AllByRecursion (λ x. f x ≡ false) xs
  find_none f [] h = tt
  find_none f (x ∷ xs) h = let p = find_step (f x) x (find f xs) h in (p.0, find_none f xs p.1)

  pub no_find : (f : X → Bool) (xs : List X) → AllByRecursion (λ x. f x ≡ false) xs → find f xs ≡ None
  no_find f [] all = refl
  no_find f (x ∷ xs) all = rw all.0 (no_find f xs all.1)

  found_step : (f : X → Bool) (b : Bool) (x y : X) (o : Option X) → f x ≡ b → cond b (Some x) o ≡ Some y → (o ≡ Some y → f y ≡ true) → f y ≡ true
  found_step f true x y o e h more = let same : x ≡ y = cc in rw same at e
  found_step f false x y o e h more = more h

  -- what is found passes the test
  pub found : (f : X → Bool) (xs : List X) (y : X) → find f xs ≡ Some y → f y ≡ true
  found f [] y h = cc
  found f (x ∷ xs) y h = found_step f (f x) x y (find f xs) refl h (found f xs y)

  -- each element against each later one
  abbrev pub EachPair : (X → X → Type 0) → List X → Type 0
  EachPair R [] = Unit {0}
  EachPair R (x ∷ xs) = AllByRecursion (R x) xs × EachPair R xs

  pub pair_append : (R : X → X → Type 0) (xs ys : List X) → EachPair R xs → EachPair R ys → AllByRecursion (λ x. AllByRecursion (R x) ys) xs → EachPair R (xs ++ ys)
  pair_append R [] ys own more across = more
  pair_append R (x ∷ xs) ys own more across = (all_append (R x) xs ys own.0 across.0, pair_append R xs ys own.1 more across.1)

  -- the element is in the list
  abbrev pub Has : List X → X → Type 0
  Has [] y = ⊥
  Has (x ∷ xs) y = (x ≡ y) ⊎ Has xs y

  pub has_left : (xs ys : List X) (y : X) → Has xs y → Has (xs ++ ys) y
  has_left [] ys y h = absurd h
  has_left (x ∷ xs) ys y (inl e) = inl e
  has_left (x ∷ xs) ys y (inr h) = inr (has_left xs ys y h)

  pub has_right : (xs ys : List X) (y : X) → Has ys y → Has (xs ++ ys) y
  has_right [] ys y h = h
  has_right (x ∷ xs) ys y h = inr (has_right xs ys y h)

  pub all_has : (P : X → Type 0) (xs : List X) (y : X) → AllByRecursion P xs → Has xs y → P y
  all_has P [] y all h = absurd h
  all_has P (x ∷ xs) y all (inl e) = let own : P x = all.0 in rw e at own
  all_has P (x ∷ xs) y all (inr h) = all_has P xs y all.1 h

  pub any_has : (f : X → Bool) (xs : List X) (y : X) → Has xs y → f y ≡ true → list_any f xs ≡ true
  any_has f [] y h t = absurd h
  any_has f (x ∷ xs) y (inl e) t = or_left (f x) (list_any f xs) (rw e t)
  any_has f (x ∷ xs) y (inr h) t = or_right (f x) (list_any f xs) (any_has f xs y h t)

  has_any_step : (f : X → Bool) (b : Bool) (x : X) (xs : List X) → f x ≡ b → (b || list_any f xs) ≡ true → (list_any f xs ≡ true → (y : X) × Has xs y × (f y ≡ true)) → (y : X) × Has (x ∷ xs) y × (f y ≡ true)
  has_any_step f true x xs e h more = (x, inl refl, e)
  has_any_step f false x xs e h more = let m = more h in (m.0, inr m.1, m.2)

  -- one that passes the test
  pub has_any : (f : X → Bool) (xs : List X) → list_any f xs ≡ true → (y : X) × Has xs y × (f y ≡ true)
  has_any f [] h = cc
  has_any f (x ∷ xs) h = has_any_step f (f x) x xs refl h (has_any f xs)

  has_filter_step : (f : X → Bool) (b : Bool) (x y : X) (xs : List X) → f x ≡ b → Has (cond b (x ∷ filter f xs) (filter f xs)) y → (Has (filter f xs) y → Has xs y × (f y ≡ true)) → Has (x ∷ xs) y × (f y ≡ true)
  has_filter_step f true x y xs e (inl same) more = (inl same, rw same at e)
  has_filter_step f true x y xs e (inr h) more = let m = more h in (inr m.0, m.1)
  has_filter_step f false x y xs e h more = let m = more h in (inr m.0, m.1)

  pub has_filter : (f : X → Bool) (xs : List X) (y : X) → Has (filter f xs) y → Has xs y × (f y ≡ true)
  has_filter f [] y h = absurd h
  has_filter f (x ∷ xs) y h = has_filter_step f (f x) x y xs refl h (has_filter f xs y)

  kept_step : (f : X → Bool) (b : Bool) (x y : X) (xs : List X) → f x ≡ b → Has (x ∷ xs) y → f y ≡ true → (Has xs y → Has (filter f xs) y) → Has (cond b (x ∷ filter f xs) (filter f xs)) y
  kept_step f true x y xs e (inl same) t more = inl same
  kept_step f true x y xs e (inr h) t more = inr (more h)
  kept_step f false x y xs e (inl same) t more = let g : f y ≡ false = rw same at e in cc
  kept_step f false x y xs e (inr h) t more = more h

  pub kept : (f : X → Bool) (xs : List X) (y : X) → Has xs y → f y ≡ true → Has (filter f xs) y
  kept f [] y h t = absurd h
  kept f (x ∷ xs) y h t = kept_step f (f x) x y xs refl h t (λ g. kept f xs y g t)

  pub has_split : (xs ys : List X) (y : X) → Has (xs ++ ys) y → Has xs y ⊎ Has ys y
  has_split [] ys y h = inr h
  has_split (x ∷ xs) ys y (inl e) = inl (inl e)
  has_split (x ∷ xs) ys y (inr h) = ⊎_elim (λ (g : Has xs y). inl (inr g)) (λ (g : Has ys y). inr g) (has_split xs ys y h)

  pub has_all : (xs : List X) → AllByRecursion (Has xs) xs
  has_all [] = tt
  has_all (x ∷ xs) = (inl refl, all_weaker (Has xs) (Has (x ∷ xs)) (λ y h. inr h) xs (has_all xs))

  pub pair_weaker : (R S : X → X → Type 0) → ((x y : X) → R x y → S x y) → (xs : List X) → EachPair R xs → EachPair S xs
  pair_weaker R S f [] all = tt
  pair_weaker R S f (x ∷ xs) all = (all_weaker (R x) (S x) (f x) xs all.0, pair_weaker R S f xs all.1)

  -- the same in the words of clauses
  pub contains_from : (xs : List X) (y : X) → Has xs y → Contains xs y
  contains_from [] y h = absurd h
  contains_from (x ∷ xs) y (inl e) = (0, omega arith, e)
  contains_from (x ∷ xs) y (inr h) = let m = contains_from xs y h in (suc m.0, omega (arith, m.1), m.2)

  pub any_from : (P : X → Type 0) (xs : List X) (y : X) → Has xs y → P y → Any P xs
  any_from P xs y h p = let m = contains_from xs y h in (m.0, y, m.1, m.2, p)

  -- what holds of each, and of each pair
  pub pair_both : (P : X → Type 0) (R : X → X → Type 0) (xs : List X) → AllByRecursion P xs → EachPair R xs → EachPair (λ x y. P y × R x y) xs
  pair_both P R [] all pairs = tt
  pair_both P R (x ∷ xs) all pairs = (all_both P (R x) xs all.1 pairs.0, pair_both P R xs all.1 pairs.1)

  all_kept_step : (P : X → Type 0) (f : X → Bool) (x : X) (xs : List X) (b : Bool) → P x → AllByRecursion P (filter f xs) → AllByRecursion P (cond b (x ∷ filter f xs) (filter f xs))
  all_kept_step P f x xs true own more = (own, more)
  all_kept_step P f x xs false own more = more

  pub all_kept : (P : X → Type 0) (f : X → Bool) (xs : List X) → AllByRecursion P xs → AllByRecursion P (filter f xs)
  all_kept P f [] all = tt
  all_kept P f (x ∷ xs) all = all_kept_step P f x xs (f x) all.0 (all_kept P f xs all.1)

  pair_filter_step : (R : X → X → Type 0) (f : X → Bool) (x : X) (xs : List X) (b : Bool) → AllByRecursion (R x) (filter f xs) → EachPair R (filter f xs) → EachPair R (cond b (x ∷ filter f xs) (filter f xs))
  pair_filter_step R f x xs true own more = (own, more)
  pair_filter_step R f x xs false own more = more

  pub pair_filter : (R : X → X → Type 0) (f : X → Bool) (xs : List X) → EachPair R xs → EachPair R (filter f xs)
  pair_filter R f [] all = tt
  pair_filter R f (x ∷ xs) all = pair_filter_step R f x xs (f x) (all_kept (R x) f xs all.0) (pair_filter R f xs all.1)

  -- the same by places
  all_at : (P : X → Type 0) (xs : List X) (j : ℕ) (d : X) → j < length xs → AllByRecursion P xs → P (get_or xs j d)
  all_at P [] j d lt all = absurd (omega (arith, lt))
  all_at P (x ∷ xs) zero d lt all = all.0
  all_at P (x ∷ xs) (suc j) d lt all = all_at P xs j d (omega (arith, lt)) all.1

  pub pairs_from : (R : X → X → Type 0) (xs : List X) → EachPair R xs → AllPairs R xs
  pairs_from R [] all i j d le lt = absurd (omega (arith, lt))
  pairs_from R (x ∷ xs) all zero zero d le lt = absurd (omega (arith, le))
  pairs_from R (x ∷ xs) all zero (suc j) d le lt = all_at (R x) xs j d (omega (arith, lt)) all.0
  pairs_from R (x ∷ xs) all (suc i) zero d le lt = absurd (omega (arith, le))
  pairs_from R (x ∷ xs) all (suc i) (suc j) d le lt = pairs_from R xs all.1 i j d (omega (arith, le)) (omega (arith, lt))

  all_places : (P : X → Type 0) (xs : List X) → ((j : ℕ) (d : X) → j < length xs → P (get_or xs j d)) → AllByRecursion P xs
  all_places P [] each = tt
  all_places P (x ∷ xs) each = (each 0 x (omega arith), all_places P xs (λ j d lt. each (suc j) d (omega (arith, lt))))

  pub pairs_to : (R : X → X → Type 0) (xs : List X) → AllPairs R xs → EachPair R xs
  pairs_to R [] each = tt
  pairs_to R (x ∷ xs) each = (
    all_places (R x) xs (λ j d lt. each 0 (suc j) d (omega arith) (omega (arith, lt))),
    pairs_to R xs (λ i j d le lt. each (suc i) (suc j) d (omega (arith, le)) (omega (arith, lt))),
  )

  pub every : (P : X → Type 0) (xs : List X) → ((x : X) → Has xs x → P x) → AllByRecursion P xs
  every P [] own = tt
  every P (x ∷ xs) own = (own x (inl refl), every P xs (λ y h. own y (inr h)))

module _ {Y : Type 0} where
  all_some_step : (P : Y → Type 0) (o : Option Y) (ys : List Y) → ((y : Y) → o ≡ Some y → P y) → AllByRecursion P ys → AllByRecursion P (cons_option o ys)
  all_some_step P None ys own rest = rest
  all_some_step P (Some y) ys own rest = (own y refl, rest)

  pair_some_step : (S : Y → Y → Type 0) (o : Option Y) (ys : List Y) → ((y : Y) → o ≡ Some y → AllByRecursion (S y) ys) → EachPair S ys → EachPair S (cons_option o ys)
  pair_some_step S None ys own rest = rest
  pair_some_step S (Some y) ys own rest = (own y refl, rest)

module _ {X Y : Type 0} where
  -- what a map that leaves some out keeps

  pub all_some : (P : Y → Type 0) (f : X → Option Y) (xs : List X) → ((x : X) → Has xs x → (y : Y) → f x ≡ Some y → P y) → AllByRecursion P (filter_map f xs)
  all_some P f [] own = tt
  all_some P f (x ∷ xs) own = all_some_step P (f x) (filter_map f xs) (own x (inl refl)) (all_some P f xs (λ z h. own z (inr h)))

  pub pair_some : (R : X → X → Type 0) (S : Y → Y → Type 0) (f : X → Option Y) → ((x z : X) (y w : Y) → R x z → f x ≡ Some y → f z ≡ Some w → S y w) → (xs : List X) → EachPair R xs → EachPair S (filter_map f xs)
  pair_some R S f across [] apart = tt
  pair_some R S f across (x ∷ xs) apart =
      pair_some_step S (f x) (filter_map f xs) (λ y e. all_some (S y) f xs (λ z h w g. across x z y w (all_has (R x) xs z apart.0 h) e g)) (pair_some R S f across xs apart.1)

module _ {X Y : Type 0} where
  pub all_map : (P : Y → Type 0) (f : X → Y) (xs : List X) → AllByRecursion (λ x. P (f x)) xs → AllByRecursion P (map f xs)
  all_map P f [] all = tt
  all_map P f (x ∷ xs) all = (all.0, all_map P f xs all.1)

  pub pair_map : (R : Y → Y → Type 0) (f : X → Y) (xs : List X) → EachPair (λ x y. R (f x) (f y)) xs → EachPair R (map f xs)
  pair_map R f [] all = tt
  pair_map R f (x ∷ xs) all = (all_map (R (f x)) f xs all.0, pair_map R f xs all.1)

  pub has_map : (f : X → Y) (xs : List X) (y : Y) → Has (map f xs) y → (x : X) × Has xs x × (f x ≡ y)
  has_map f [] y h = absurd h
  has_map f (x ∷ xs) y (inl e) = (x, inl refl, e)
  has_map f (x ∷ xs) y (inr h) = let m = has_map f xs y h in (m.0, inr m.1, m.2)

  pub map_has : (f : X → Y) (xs : List X) (x : X) → Has xs x → Has (map f xs) (f x)
  map_has f [] x h = absurd h
  map_has f (y ∷ xs) x (inl e) = inl (ap f e)
  map_has f (y ∷ xs) x (inr h) = inr (map_has f xs x h)
