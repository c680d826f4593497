-- Lists whose items rise against a key: the items at the key are a run, and the first of them is found at its front.
use Rattle.std.proofs.Common.{◌≡◌, ◌≢◌, ◌∙◌, ℕ, suc, zero, ◌+◌, ◌<◌, ◌≤◌, List, [], ◌∷◌, Bool, true, false, Some, None, Ordering, Less, Equal, Greater, refl, sym, ap, length, get_or, take, drop, insert, remove, slice_set, filter, find, is_eq, is_lt, is_le, arith, one-add, cond}
use Rattle.std.specs.List.{AllByRecursion, prefix_len}
use Rattle.std.specs.List.Sorted.{IsStrictlySortedBy, IsPartitionedBy}
use Rattle.std.specs.Ordering.{ordering_reverse}
use Rattle.std.specs.Cmp.{IsTotalOrder}
use Rattle.std.proofs.lemmas.List.Sums.{prefix_len_is}
use Rattle.hazard_board.specs.Seats.{placed_at, put_at, left_at, left_out}

-- how an item stands against a key, and how a later one may
abbrev pub Up : Ordering → Ordering → Type 0
Up Less o = Unit {0}
Up Equal Less = ⊥
Up Equal Equal = Unit {0}
Up Equal Greater = Unit {0}
Up Greater Less = ⊥
Up Greater Equal = ⊥
Up Greater Greater = Unit {0}

abbrev pub Rises : {X : Type 0} → (X → Ordering) → List X → Type 0
Rises ord [] = Unit {0}
Rises ord (x ∷ xs) = AllByRecursion (λ y. Up (ord x) (ord y)) xs × Rises ord xs

pub keeps_lt : (o q : Ordering) → Up o q → is_lt q ≡ true → is_lt o ≡ true
keeps_lt Less q up h = refl
keeps_lt Equal Less up h = absurd up
keeps_lt Greater Less up h = absurd up
keeps_lt _ Equal up h = cc
keeps_lt _ Greater up h = cc

pub keeps_le : (o q : Ordering) → Up o q → is_le q ≡ true → is_le o ≡ true
keeps_le Less q up h = refl
keeps_le Equal q up h = refl
keeps_le Greater Less up h = absurd up
keeps_le Greater Equal up h = absurd up
keeps_le Greater Greater up h = cc

module _ {X : Type 0} (ord : X → Ordering) where
  get_up : (o : Ordering) (xs : List X) (i : ℕ) (d : X) → AllByRecursion (λ y. Up o (ord y)) xs → i < length xs → Up o (ord (get_or xs i d))
  get_up o [] i d all within = absurd (omega (arith, within))
  get_up o (x ∷ xs) zero d all within = all.0
  get_up o (x ∷ xs) (suc i) d all within = get_up o xs i d all.1 (omega (arith, within))

  pub parted : (p : Ordering → Bool) → ((o q : Ordering) → Up o q → p q ≡ true → p o ≡ true) → (xs : List X) → Rises ord xs → IsPartitionedBy (λ x. p (ord x)) xs
  parted p keeps [] up i j d le within h = absurd (omega (arith, within))
  parted p keeps (x ∷ xs) up zero zero d le within h = h
  parted p keeps (x ∷ xs) up zero (suc j) d le within h = keeps (ord x) (ord (get_or xs j d)) (get_up (ord x) xs j d up.0 (omega (arith, within))) h
  parted p keeps (x ∷ xs) up (suc i) zero d le within h = absurd (omega (arith, le))
  parted p keeps (x ∷ xs) up (suc i) (suc j) d le within h = parted p keeps xs up.1 i j d (omega (arith, le)) (omega (arith, within)) h

  tied_up : (q : Ordering) → Up Equal q → is_lt q ≡ false
  tied_up Less up = absurd up
  tied_up Equal up = refl
  tied_up Greater up = refl

  pub above_up : (q : Ordering) → Up Greater q → (is_eq q ≡ false) × (is_le q ≡ false)
  above_up Less up = absurd up
  above_up Equal up = absurd up
  above_up Greater up = (refl, refl)

  none_before : (xs : List X) → AllByRecursion (λ y. Up Equal (ord y)) xs → prefix_len (λ x. is_lt (ord x)) xs ≡ 0
  none_before [] all = refl
  none_before (x ∷ xs) all = rw (tied_up (ord x) all.0) refl

  none_tied : (xs : List X) → AllByRecursion (λ y. Up Greater (ord y)) xs → filter (λ x. is_eq (ord x)) xs ≡ []
  none_tied [] all = refl
  none_tied (x ∷ xs) all = rw ((above_up (ord x) all.0).0) (none_tied xs all.1)

  abbrev pub front : List X → ℕ
  front xs = prefix_len (λ x. is_lt (ord x)) xs

  abbrev pub back : List X → ℕ
  back xs = prefix_len (λ x. is_le (ord x)) xs

  abbrev pub tied : X → Bool
  tied x = is_eq (ord x)

  back_step : (o : Ordering) (x : X) (xs : List X) → ord x ≡ o → AllByRecursion (λ y. Up (ord x) (ord y)) xs → Up Equal (ord x) → take (back xs) xs ≡ filter tied xs → take (back (x ∷ xs)) (x ∷ xs) ≡ filter tied (x ∷ xs)
  back_step Less x xs e all up more = absurd (rw e at up)
  back_step Equal x xs e all up more = rw (e, one-add (back xs)) (ap (λ (ys : List X). x ∷ ys) more)
  back_step Greater x xs e all up more = rw e (sym (none_tied xs (rw e at all)))

  back_tied : (xs : List X) → Rises ord xs → AllByRecursion (λ y. Up Equal (ord y)) xs → take (back xs) xs ≡ filter tied xs
  back_tied [] up all = refl
  back_tied (x ∷ xs) up all = back_step (ord x) x xs refl up.0 all.0 (back_tied xs up.1 all.1)

  run_step : (o : Ordering) (x : X) (xs : List X) → ord x ≡ o → AllByRecursion (λ y. Up o (ord y)) xs → Rises ord xs →
      take (back (drop (front xs) xs)) (drop (front xs) xs) ≡ filter tied xs →
      take (back (drop (front (x ∷ xs)) (x ∷ xs))) (drop (front (x ∷ xs)) (x ∷ xs)) ≡ filter tied (x ∷ xs)
  run_step Less x xs e all up more = rw (e, one-add (front xs)) more
  run_step Equal x xs e all up more = rw (e, e, one-add (back xs)) (ap (λ (ys : List X). x ∷ ys) (back_tied xs up all))
  run_step Greater x xs e all up more = rw (e, e) (sym (none_tied xs all))

  -- the items at the key stand between those before it and those behind it
  pub run : (xs : List X) → Rises ord xs → take (back (drop (front xs) xs)) (drop (front xs) xs) ≡ filter tied xs
  run [] up = refl
  run (x ∷ xs) up = run_step (ord x) x xs refl up.0 up.1 (run xs up.1)

-- an item put at the key, or the items without the one at the key
module _ {X : Type 0} (ord : X → Ordering) where
  none_past : (o : Ordering) (x : X) (xs : List X) (i : ℕ) → ord x ≡ o → suc i ≡ front ord (x ∷ xs) → (o ≡ Less) × (i ≡ front ord xs)
  none_past Less x xs i e place = let next : suc i ≡ 1 + front ord xs = rw e at place in (refl, omega (arith, next))
  none_past Equal x xs i e place = let none : suc i ≡ 0 = rw e at place in absurd (omega (arith, none))
  none_past Greater x xs i e place = let none : suc i ≡ 0 = rw e at place in absurd (omega (arith, none))

  not_past : (o : Ordering) (x : X) (xs : List X) → ord x ≡ o → 0 ≡ front ord (x ∷ xs) → o ≢ Less
  not_past Less x xs e place g = let none : 0 ≡ 1 + front ord xs = rw e at place in omega (arith, none)
  not_past Equal x xs e place g = cc
  not_past Greater x xs e place g = cc

  gap_here : (o : Ordering) (y x : X) (xs : List X) → o ≢ Less → is_eq o ≡ false → y ∷ x ∷ xs ≡ placed_at o y x xs (put_at ord y xs)
  gap_here Less y x xs less other = absurd (less refl)
  gap_here Equal y x xs less other = cc
  gap_here Greater y x xs less other = refl

  pub inserted : (y : X) (xs : List X) (i : ℕ) → i ≡ front ord xs → ((d : X) → i < length xs → tied ord (get_or xs i d) ≡ false) → insert xs i y ≡ put_at ord y xs
  inserted y [] zero place other = refl
  inserted y [] (suc i) place other = absurd (omega (arith, place))
  inserted y (x ∷ xs) zero place other = gap_here (ord x) y x xs (not_past (ord x) x xs refl place) (other x (omega arith))
  inserted y (x ∷ xs) (suc i) place other =
      let p = none_past (ord x) x xs i refl place in
      rw (p.0) (ap (λ (ys : List X). x ∷ ys) (inserted y xs i p.1 (λ d lt. other d (omega (arith, lt)))))

  set_here : (o : Ordering) (y x : X) (xs : List X) → is_eq o ≡ true → y ∷ xs ≡ placed_at o y x xs (put_at ord y xs)
  set_here Less y x xs own = cc
  set_here Equal y x xs own = refl
  set_here Greater y x xs own = cc

  pub replaced : (y : X) (xs : List X) (i : ℕ) (x : X) → i ≡ front ord xs → i < length xs → x ≡ get_or xs i x → tied ord x ≡ true → slice_set xs i y ≡ put_at ord y xs
  replaced y [] i z place within is own = absurd (omega (arith, within))
  replaced y (x ∷ xs) zero z place within is own = set_here (ord x) y x xs (ap (tied ord) (sym is) ∙ own)
  replaced y (x ∷ xs) (suc i) z place within is own =
      let p = none_past (ord x) x xs i refl place in
      rw (p.0) (ap (λ (ys : List X). x ∷ ys) (replaced y xs i z p.1 (omega (arith, within)) is own))

  left_here : (o : Ordering) (x : X) (xs : List X) → is_eq o ≡ true → xs ≡ left_at o x xs (left_out ord xs)
  left_here Less x xs own = cc
  left_here Equal x xs own = refl
  left_here Greater x xs own = cc

  pub removed : (xs : List X) (i : ℕ) (x : X) → i ≡ front ord xs → i < length xs → x ≡ get_or xs i x → tied ord x ≡ true → remove xs i ≡ left_out ord xs
  removed [] i z place within is own = absurd (omega (arith, within))
  removed (x ∷ xs) zero z place within is own = left_here (ord x) x xs (ap (tied ord) (sym is) ∙ own)
  removed (x ∷ xs) (suc i) z place within is own =
      let p = none_past (ord x) x xs i refl place in
      rw (p.0) (ap (λ (ys : List X). x ∷ ys) (removed xs i z p.1 (omega (arith, within)) is own))

  stays_here : (o : Ordering) (x : X) (xs : List X) → o ≢ Less → is_eq o ≡ false → left_at o x xs (left_out ord xs) ≡ x ∷ xs
  stays_here Less x xs less other = absurd (less refl)
  stays_here Equal x xs less other = cc
  stays_here Greater x xs less other = refl

  pub stays : (xs : List X) (i : ℕ) → i ≡ front ord xs → ((d : X) → i < length xs → tied ord (get_or xs i d) ≡ false) → left_out ord xs ≡ xs
  stays [] i place other = refl
  stays (x ∷ xs) zero place other = stays_here (ord x) x xs (not_past (ord x) x xs refl place) (other x (omega arith))
  stays (x ∷ xs) (suc i) place other =
      let p = none_past (ord x) x xs i refl place in
      rw (p.0) (ap (λ (ys : List X). x ∷ ys) (stays xs i p.1 (λ d lt. other d (omega (arith, lt)))))

  keeps_placed : (P : X → Type 0) (o : Ordering) (y x : X) (xs behind : List X) → P y → AllByRecursion P (x ∷ xs) → AllByRecursion P behind → AllByRecursion P (placed_at o y x xs behind)
  keeps_placed P Less y x xs behind p all more = (all.0, more)
  keeps_placed P Equal y x xs behind p all more = (p, all.1)
  keeps_placed P Greater y x xs behind p all more = (p, all)

  pub keeps_put : (P : X → Type 0) (y : X) (xs : List X) → P y → AllByRecursion P xs → AllByRecursion P (put_at ord y xs)
  keeps_put P y [] p all = (p, tt)
  keeps_put P y (x ∷ xs) p all = keeps_placed P (ord x) y x xs (put_at ord y xs) p all (keeps_put P y xs p all.1)

  keeps_rest : (P : X → Type 0) (o : Ordering) (x : X) (xs behind : List X) → AllByRecursion P (x ∷ xs) → AllByRecursion P behind → AllByRecursion P (left_at o x xs behind)
  keeps_rest P Less x xs behind all more = (all.0, more)
  keeps_rest P Equal x xs behind all more = all.1
  keeps_rest P Greater x xs behind all more = all

  pub keeps_left : (P : X → Type 0) (xs : List X) → AllByRecursion P xs → AllByRecursion P (left_out ord xs)
  keeps_left P [] all = tt
  keeps_left P (x ∷ xs) all = keeps_rest P (ord x) x xs (left_out ord xs) all (keeps_left P xs all.1)

-- the place of a partition
pub at_point : {X : Type 0} (p : X → Bool) (xs : List X) (n : ℕ) → n ≤ length xs →
    ((k : ℕ) (d : X) → 0 ≤ k → k < n → p (get_or xs k d) ≡ true) × ((k : ℕ) (d : X) → n ≤ k → k < length xs → p (get_or xs k d) ≡ false) → n ≡ prefix_len p xs
at_point p [] n bound point = omega (arith, bound)
at_point p (x ∷ xs) n bound point = sym (prefix_len_is p (x ∷ xs) n x bound (λ k lt. point.0 k x (omega arith) lt) (λ lt. point.1 n x (omega arith) lt))

-- a list in order rises against each key of its order
module _ {K : Type 0} {U : K → K → Ordering} (total : IsTotalOrder U) where
  turned : (a b : K) (o : Ordering) → U a b ≡ o → U b a ≡ ordering_reverse o
  turned a b o h = total.antisymm b a ∙ ap ordering_reverse h

  up_less : (a b k : K) (o q : Ordering) → U a b ≡ Less → U a k ≡ o → U b k ≡ q → Up o q
  up_less a b k Less q less h g = tt
  up_less a b k Equal Less less h g =
      let before : U k b ≡ Less = sym (total.congr a k b h) ∙ less in
      let behind : U k b ≡ Greater = turned b k Less g in
      absurd (let no_way : Less ≡ Greater = sym before ∙ behind in cc)
  up_less a b k Equal Equal less h g = tt
  up_less a b k Equal Greater less h g = tt
  up_less a b k Greater Less less h g = let whole : U a k ≡ Less = total.trans a b k less g in cc
  up_less a b k Greater Equal less h g =
      let tied : U b a ≡ U k a = total.congr b k a g in
      let back : U b a ≡ Greater = turned a b Less less in
      let front : U k a ≡ Less = turned a k Greater h in
      cc
  up_less a b k Greater Greater less h g = tt

  up_itself : (o : Ordering) → Up o o
  up_itself Less = tt
  up_itself Equal = tt
  up_itself Greater = tt

  up_tied : (a b k : K) → U a b ≡ Equal → Up (U a k) (U b k)
  up_tied a b k h = rw (total.congr a b k h) (up_itself (U b k))

  -- keys that do not fall
  pub up_by : (a b k : K) (o : Ordering) → U a b ≡ o → o ≢ Greater → Up (U a k) (U b k)
  up_by a b k Less h fall = up_less a b k (U a k) (U b k) h refl refl
  up_by a b k Equal h fall = up_tied a b k h
  up_by a b k Greater h fall = absurd (fall refl)

  module _ {X : Type 0} (R : X → X → Ordering) (f : X → K) (never_falls : (a b : X) → R a b ≡ Less → U (f a) (f b) ≢ Greater) (k : K) where
    all_up : (x : X) (xs : List X) → AllByRecursion (λ y. R x y ≡ Less) xs → AllByRecursion (λ y. Up (U (f x) k) (U (f y) k)) xs
    all_up x [] all = tt
    all_up x (y ∷ xs) all = (up_by (f x) (f y) k (U (f x) (f y)) refl (never_falls x y all.0), all_up x xs all.1)

    pub rises : (xs : List X) → IsStrictlySortedBy R xs → Rises (λ x. U (f x) k) xs
    unfolding IsStrictlySortedBy
    rises [] up = tt
    rises (x ∷ xs) up = (all_up x xs up.0, rises xs up.1)

-- the first item at a key stands at the front
module _ {X : Type 0} (ord : X → Ordering) where
  found_step : (o : Ordering) (y : X) (xs : List X) (i : ℕ) (x : X) → ord y ≡ o → i ≡ front ord (y ∷ xs) → i < length (y ∷ xs) → x ≡ get_or (y ∷ xs) i x → tied ord x ≡ true →
      ((j : ℕ) → j ≡ front ord xs → j < length xs → x ≡ get_or xs j x → find (tied ord) xs ≡ Some x) → find (tied ord) (y ∷ xs) ≡ Some x
  found_step Less y xs zero x e place within is own more = let none : 0 ≡ 1 + front ord xs = rw e at place in absurd (omega (arith, none))
  found_step Less y xs (suc j) x e place within is own more =
      let next : suc j ≡ 1 + front ord xs = rw e at place in
      rw e (more j (omega (arith, next)) (omega (arith, within)) is)
  found_step Equal y xs zero x e place within is own more = rw e (ap (λ (z : X). Some z) (sym is))
  found_step Equal y xs (suc j) x e place within is own more = let none : suc j ≡ 0 = rw e at place in absurd (omega (arith, none))
  found_step Greater y xs zero x e place within is own more =
      let above : ord x ≡ Greater = ap ord is ∙ e in
      let never : false ≡ true = rw above at own in cc
  found_step Greater y xs (suc j) x e place within is own more = let none : suc j ≡ 0 = rw e at place in absurd (omega (arith, none))

  pub found_there : (xs : List X) (i : ℕ) (x : X) → i ≡ front ord xs → i < length xs → x ≡ get_or xs i x → tied ord x ≡ true → find (tied ord) xs ≡ Some x
  found_there [] i x place within is own = absurd (omega (arith, within))
  found_there (y ∷ xs) i x place within is own = found_step (ord y) y xs i x refl place within is own (λ j p w h. found_there xs j x p w h own)

  none_above : (xs : List X) → AllByRecursion (λ y. Up Greater (ord y)) xs → find (tied ord) xs ≡ None
  none_above [] all = refl
  none_above (x ∷ xs) all = rw ((above_up ord (ord x) all.0).0) (none_above xs all.1)

  not_step : (o : Ordering) (y : X) (xs : List X) (i : ℕ) → ord y ≡ o → AllByRecursion (λ z. Up o (ord z)) xs → i ≡ front ord (y ∷ xs) → ((d : X) → i < length (y ∷ xs) → tied ord (get_or (y ∷ xs) i d) ≡ false) →
      ((j : ℕ) → j ≡ front ord xs → ((d : X) → j < length xs → tied ord (get_or xs j d) ≡ false) → find (tied ord) xs ≡ None) → find (tied ord) (y ∷ xs) ≡ None
  not_step Less y xs zero e all place none more = let never : 0 ≡ 1 + front ord xs = rw e at place in absurd (omega (arith, never))
  not_step Less y xs (suc j) e all place none more =
      let next : suc j ≡ 1 + front ord xs = rw e at place in
      rw e (more j (omega (arith, next)) (λ d lt. none d (omega (arith, lt))))
  not_step Equal y xs zero e all place none more =
      let other : tied ord y ≡ false = none y (omega arith) in
      let never : true ≡ false = rw e at other in cc
  not_step Equal y xs (suc j) e all place none more = let never : suc j ≡ 0 = rw e at place in absurd (omega (arith, never))
  not_step Greater y xs i e all place none more = rw e (none_above xs all)

  pub not_there : (xs : List X) (i : ℕ) → Rises ord xs → i ≡ front ord xs → ((d : X) → i < length xs → tied ord (get_or xs i d) ≡ false) → find (tied ord) xs ≡ None
  not_there [] i up place none = refl
  not_there (y ∷ xs) i up place none = not_step (ord y) y xs i refl up.0 place none (λ j p h. not_there xs j up.1 p h)

  pub default_free : (xs : List X) (i : ℕ) (c d : X) → i < length xs → get_or xs i c ≡ get_or xs i d
  default_free [] i c d within = absurd (omega (arith, within))
  default_free (x ∷ xs) zero c d within = refl
  default_free (x ∷ xs) (suc i) c d within = default_free xs i c d (omega (arith, within))

  pub not_this : (xs : List X) (i : ℕ) (x : X) → Rises ord xs → i ≡ front ord xs → i < length xs → x ≡ get_or xs i x → tied ord x ≡ false → find (tied ord) xs ≡ None
  not_this xs i x up place within is other = not_there xs i up place (λ d lt. ap (tied ord) (default_free xs i d x lt ∙ sym is) ∙ other)

  pub past_all : (xs : List X) (i : ℕ) → Rises ord xs → i ≡ front ord xs → length xs ≤ i → find (tied ord) xs ≡ None
  past_all xs i up place past = not_there xs i up place (λ d lt. absurd (omega (arith, lt, past)))

-- an item that is put in where none ties
module _ {X : Type 0} (ord : X → Ordering) (y : X) (xs : List X) (i : ℕ) (place : i ≡ front ord xs) where
  pub put_behind : length xs ≤ i → insert xs i y ≡ put_at ord y xs
  put_behind past = inserted ord y xs i place (λ d lt. absurd (omega (arith, lt, past)))

  pub put_before : (x : X) → i < length xs → x ≡ get_or xs i x → tied ord x ≡ false → insert xs i y ≡ put_at ord y xs
  put_before x within is other = inserted ord y xs i place (λ d lt. ap (tied ord) (default_free ord xs i d x lt ∙ sym is) ∙ other)

kept_if : {X : Type 0} (P : X → Type 0) (b : Bool) (x : X) (xs : List X) → (b ≡ true → P x) → AllByRecursion P xs → AllByRecursion P (cond b (x ∷ xs) xs)
kept_if P true x xs own more = (own refl, more)
kept_if P false x xs own more = more

-- what a test tells of an item holds of all that pass it
pub all_that_pass : {X : Type 0} (P : X → Type 0) (test : X → Bool) → ((x : X) → test x ≡ true → P x) → (xs : List X) → AllByRecursion P (filter test xs)
all_that_pass P test told [] = tt
all_that_pass P test told (x ∷ xs) = kept_if P (test x) x (filter test xs) (told x) (all_that_pass P test told xs)
