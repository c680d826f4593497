-- Tests of members: of a row that is put among rows, and of keys that are put into a set or taken out.
use Rattle.std.proofs.Common.{◌≡◌, ◌≢◌, ◌∙◌, inl, inr, List, [], ◌∷◌, ◌&&◌, ◌||◌, not, Bool, true, false, cond, Ordering, Less, Equal, Greater, Option, Some, None, refl, ap, sym, subst}
use Rattle.std.proofs.lemmas.Bool.{false_from_ne_true}
use Rattle.std.proofs.lemmas.Cmp.{tied_itself}
use Rattle.std.proofs.lemmas.Map.Views.{tells_apart}
use Rattle.std.specs.BTreeMap.{is_at}
use Rattle.std.specs.BTreeSet.{insert_key}
use Rattle.std.specs.Cmp.{IsTotalOrder}
use Rattle.std.specs.List.{AllByRecursion, filter, list_any}
use Rattle.std.specs.List.Sorted.{IsStrictlySortedBy}
use Rattle.std.specs.Ordering.{match_ordering, ordering_reverse}
use Rattle.std.specs.Map.{keys_of}
use Rattle.std.specs.Map.Iter.{TakesFirst}
use Rattle.std.specs.Option.{is_some}
use Rattle.std.specs.Set.{remove_key}
use Rattle.hazard_types.specs.declared.line.Row.{Row}
use Rattle.hazard_types.proofs.Equality.{zone_itself, event_itself}
use Rattle.event_life.specs.Products.{by_key, placed, put, row_at}
use Rattle.event_life.proofs.Keys.{by_key-total, key_exact, key_ties}
use Rattle.event_life.proofs.Members.{IsIn, in_any, of_all}
use Rattle.event_life.proofs.Puts.{at_key, at_key-parts}
use Rattle.event_life.proofs.Puts as puts

-- small tests

pub and_true : (a : Bool) → (a && true) ≡ a
and_true true = refl
and_true false = refl

pub and_false : (a : Bool) → (a && false) ≡ false
and_false true = refl
and_false false = refl

pub or_false : (a : Bool) → (a || false) ≡ a
or_false true = refl
or_false false = refl

pub and_not : (a b : Bool) → b ≡ false → (a && not b) ≡ a
and_not a b h = rw h (and_true a)

or_swap : (a b c : Bool) → (a || (b || c)) ≡ (b || (a || c))
or_swap true true c = refl
or_swap true false c = refl
or_swap false b c = refl

module _ {X : Type 0} where
  -- tests that agree on members
  pub any_alike : (p q : X → Bool) (xs : List X) → ((x : X) → IsIn x xs → p x ≡ q x) → list_any p xs ≡ list_any q xs
  any_alike p q [] each = refl
  any_alike p q (x ∷ xs) each =
      let first = each x (inl refl) in
      let later = any_alike p q xs (λ y h. each y (inr h)) in
      λ i. first i || later i

  pub any_same : (p q : X → Bool) (xs : List X) → ((x : X) → p x ≡ q x) → list_any p xs ≡ list_any q xs
  any_same p q xs each = any_alike p q xs (λ x _. each x)

  -- a member that a test finds none of
  pub any_none : (p : X → Bool) (xs : List X) (x : X) → list_any p xs ≡ false → IsIn x xs → p x ≡ false
  any_none p xs x h is = false_from_ne_true _ (λ g. let e : true ≡ false = sym (in_any p xs x is g) ∙ h in cc)

  pub any_filtered : (p q : X → Bool) (xs : List X) → list_any p (filter q xs) ≡ list_any (λ x. q x && p x) xs
  any_filtered p q [] = refl
  any_filtered p q (x ∷ xs) = first (q x) (any_filtered p q xs)
    where
      first : (b : Bool) → list_any p (filter q xs) ≡ list_any (λ x. q x && p x) xs → list_any p (cond b (x ∷ filter q xs) (filter q xs)) ≡ ((b && p x) || list_any (λ x. q x && p x) xs)
      first true later = ap (λ (c : Bool). p x || c) later
      first false later = later

module _ {A X : Type 0} (shows : A → X) (test : X → Bool) where
  none_left : (xs : List X) → filter test xs ≡ [] → list_any test xs ≡ false
  none_left [] h = refl
  none_left (x ∷ xs) h = first (test x) h (none_left xs)
    where
      first : (b : Bool) → cond b (x ∷ filter test xs) (filter test xs) ≡ [] → (filter test xs ≡ [] → list_any test xs ≡ false) → (b || list_any test xs) ≡ false
      first true h later = cc
      first false h later = later h

  one_left : (xs : List X) (y : X) (ys : List X) → filter test xs ≡ y ∷ ys → list_any test xs ≡ true
  one_left [] y ys h = cc
  one_left (x ∷ xs) y ys h = first (test x) h (one_left xs y ys)
    where
      first : (b : Bool) → cond b (x ∷ filter test xs) (filter test xs) ≡ y ∷ ys → (filter test xs ≡ y ∷ ys → list_any test xs ≡ true) → (b || list_any test xs) ≡ true
      first true h later = refl
      first false h later = later h

  -- the first of those that pass is there exactly where one does
  pub first_left : (xs left : List X) (o : Option A) → TakesFirst shows (filter test xs) o left → is_some o ≡ list_any test xs
  first_left xs left None h = sym (none_left xs h.0)
  first_left xs left (Some a) h = sym (one_left xs (shows a) left h)

-- tests of keys alone
pub any_keys : {K X : Type 0} (q : K → Bool) (es : List (K × X)) → list_any (λ (e : K × X). q e.0) es ≡ list_any q (keys_of es)
any_keys q [] = refl
any_keys q (e ∷ es) = ap (λ (b : Bool). q e.0 || b) (any_keys q es)

-- a row that is put

pub at_itself : (row : Row) → at_key row.event row.zone row ≡ true
at_itself row = rw (event_itself row.event, zone_itself row.zone) refl

pub at_tied : (row r : Row) → by_key row r ≡ Equal → at_key row.event row.zone r ≡ true
at_tied row r h =
    let k = key_exact row r h in
    rw (k.0, k.1, event_itself r.event, zone_itself r.zone) refl

pub at_apart : (row r : Row) → by_key row r ≢ Equal → at_key row.event row.zone r ≡ false
at_apart row r apart = false_from_ne_true _ (λ h.
    let p = at_key-parts row.event row.zone r h in
    apart (key_ties row r (sym p.1) (sym p.0)))

pub less_apart : (row r : Row) → by_key row r ≡ Less → by_key row r ≢ Equal
less_apart row r h g = let f : Less ≡ Equal = sym h ∙ g in cc

pub greater_apart : (row r : Row) → by_key row r ≡ Greater → by_key row r ≢ Equal
greater_apart row r h g = let f : Greater ≡ Equal = sym h ∙ g in cc

all_tied : (row r : Row) (rows : List Row) → by_key row r ≡ Equal → AllByRecursion (λ y. by_key r y ≡ Less) rows → AllByRecursion (λ y. by_key row y ≡ Less) rows
all_tied row r [] h all = tt
all_tied row r (y ∷ ys) h all = (by_key-total.congr row r y h ∙ all.0, all_tied row r ys h all.1)

-- rows behind a row are none of its zone and event
behind_all : (p : Row → Bool) (row : Row) (rows : List Row) → AllByRecursion (λ y. by_key row y ≡ Less) rows → list_any p rows ≡ list_any (λ r. p r && not (at_key row.event row.zone r)) rows
behind_all p row rows all = any_alike p (λ r. p r && not (at_key row.event row.zone r)) rows
    (λ r h. sym (and_not (p r) (at_key row.event row.zone r) (at_apart row r (less_apart row r (of_all (λ y. by_key row y ≡ Less) rows r all h)))))

abbrev pub but : (Row → Bool) → Row → Row → Bool
but p row r = p r && not (at_key row.event row.zone r)

any_placed : (p : Row → Bool) (row r : Row) (rows : List Row) (o : Ordering) → by_key row r ≡ o → AllByRecursion (λ y. by_key r y ≡ Less) rows
    → list_any p (put row rows) ≡ (p row || list_any (but p row) rows)
    → list_any p (placed o row r rows (put row rows)) ≡ (p row || (but p row r || list_any (but p row) rows))
any_placed p row r rows Less h all later =
    let first = and_not (p r) (at_key row.event row.zone r) (at_apart row r (less_apart row r h)) in
    let others = behind_all p row rows (puts.all_above row r rows h all) in
    λ i. p row || (sym first i || others i)
any_placed p row r rows Equal h all later =
    let own : but p row r ≡ false = rw (at_tied row r h) (and_false (p r)) in
    let others = behind_all p row rows (all_tied row r rows h all) in
    λ i. p row || (sym own i || others i)
any_placed p row r rows Greater h all later =
    let first = and_not (p r) (at_key row.event row.zone r) (at_apart row r (greater_apart row r h)) in
    ap (λ (b : Bool). p r || b) later ∙ or_swap (p r) (p row) (list_any (but p row) rows) ∙ ap (λ (b : Bool). p row || (b || list_any (but p row) rows)) (sym first)

-- one of the rows passes after a row was put, exactly where that row does or one in another place
pub any_put : (p : Row → Bool) (row : Row) (rows : List Row) → IsStrictlySortedBy by_key rows → list_any p (put row rows) ≡ (p row || list_any (but p row) rows)
unfolding IsStrictlySortedBy
any_put p row [] up = refl
any_put p row (r ∷ rows) up = any_placed p row r rows (by_key row r) refl up.0 (any_put p row rows up.1)

kept_or : (b : Bool) (p q : Row → Bool) (rows : List Row) → ((r : Row) → b ≡ false → p r ≡ q r) → (b || list_any p rows) ≡ (b || list_any q rows)
kept_or true p q rows each = refl
kept_or false p q rows each = any_same p q rows (λ r. each r refl)

-- the same of a test of zones and events
pub any_put_plain : (p : Row → Bool) → ((a b : Row) → a.zone ≡ b.zone → a.event ≡ b.event → p a ≡ p b) → (row : Row) (rows : List Row) → IsStrictlySortedBy by_key rows
    → list_any p (put row rows) ≡ (p row || list_any p rows)
any_put_plain p same row rows up =
    any_put p row rows up ∙ kept_or (p row) (but p row) p rows (λ r h. by_place r h (at_key row.event row.zone r) refl)
  where
    by_place : (r : Row) → p row ≡ false → (b : Bool) → at_key row.event row.zone r ≡ b → (p r && not (at_key row.event row.zone r)) ≡ p r
    by_place r h true at =
        let k = at_key-parts row.event row.zone r at in
        let left : p r ≡ false = same r row k.1 k.0 ∙ h in
        rw left refl
    by_place r h false at = rw at (and_true (p r))

-- a member is found at its zone and event
pub found_own : (rows : List Row) (r : Row) → IsStrictlySortedBy by_key rows → IsIn r rows → row_at rows r.event r.zone ≡ Some r
unfolding IsStrictlySortedBy
found_own [] r up h = absurd h
found_own (y ∷ ys) r up (inl is) = subst (λ (x : Row). cond (at_key x.event x.zone y) (Some y) (row_at ys x.event x.zone) ≡ Some x) is (rw (at_itself y) refl)
found_own (y ∷ ys) r up (inr h) =
    let less : by_key y r ≡ Less = of_all (λ z. by_key y z ≡ Less) ys r up.0 h in
    let apart : at_key r.event r.zone y ≡ false = at_apart r y (λ e. let k = key_exact r y e in less_apart y r less (key_ties y r (sym k.0) (sym k.1))) in
    rw apart (found_own ys r up.1 h)

-- keys of a set

module _ {K : Type 0} (cmp : K → K → Ordering) (total : IsTotalOrder cmp) (ties : (a b : K) → cmp a b ≡ Equal → a ≡ b) where
  put_by : (q : K → Bool) (o : Ordering) (k x : K) (xs : List K) → cmp k x ≡ o → list_any q (insert_key cmp xs k) ≡ (q k || list_any q xs)
      → list_any q (match_ordering o (k ∷ x ∷ xs) (x ∷ xs) (x ∷ insert_key cmp xs k)) ≡ (q k || (q x || list_any q xs))
  put_by q Less k x xs h later = refl
  put_by q Equal k x xs h later = subst (λ (y : K). (q y || list_any q xs) ≡ (q k || (q y || list_any q xs))) (ties k x h) (twice (q k) (list_any q xs))
    where
      twice : (a b : Bool) → (a || b) ≡ (a || (a || b))
      twice true b = refl
      twice false b = refl
  put_by q Greater k x xs h later = ap (λ (b : Bool). q x || b) later ∙ or_swap (q x) (q k) (list_any q xs)

  pub any_insert : (q : K → Bool) (k : K) (xs : List K) → list_any q (insert_key cmp xs k) ≡ (q k || list_any q xs)
  any_insert q k [] = refl
  any_insert q k (x ∷ xs) = put_by q (cmp k x) k x xs refl (any_insert q k xs)

  pub at_one : (k x : K) → is_at (cmp k) x ≡ true → k ≡ x
  at_one k x h = tells_apart ties k x h

  pub at_own : (k : K) → is_at (cmp k) k ≡ true
  at_own k = rw (tied_itself total k) refl

  all_above : (k x : K) (xs : List K) → cmp k x ≡ Less → AllByRecursion (λ y. cmp x y ≡ Less) xs → AllByRecursion (λ y. cmp k y ≡ Less) xs
  all_above k x [] h all = tt
  all_above k x (y ∷ ys) h all = (total.trans k x y h all.0, all_above k x ys h all.1)

  all_put : (P : K → Type 0) (o : Ordering) (k x : K) (xs behind : List K) → P k → AllByRecursion P (x ∷ xs) → AllByRecursion P behind → AllByRecursion P (match_ordering o (k ∷ x ∷ xs) (x ∷ xs) (x ∷ behind))
  all_put P Less k x xs behind p all more = (p, all)
  all_put P Equal k x xs behind p all more = all
  all_put P Greater k x xs behind p all more = (all.0, more)

  all_insert : (P : K → Type 0) (k : K) (xs : List K) → P k → AllByRecursion P xs → AllByRecursion P (insert_key cmp xs k)
  all_insert P k [] p all = (p, tt)
  all_insert P k (x ∷ xs) p all = all_put P (cmp k x) k x xs (insert_key cmp xs k) p all (all_insert P k xs p all.1)

  up_put : (o : Ordering) (k x : K) (xs : List K) → cmp k x ≡ o → IsStrictlySortedBy cmp (x ∷ xs) → IsStrictlySortedBy cmp (insert_key cmp xs k) → IsStrictlySortedBy cmp (match_ordering o (k ∷ x ∷ xs) (x ∷ xs) (x ∷ insert_key cmp xs k))
  unfolding IsStrictlySortedBy
  up_put Less k x xs h up more = ((h, all_above k x xs h up.0), up)
  up_put Equal k x xs h up more = up
  up_put Greater k x xs h up more = (all_insert (λ y. cmp x y ≡ Less) k xs (total.antisymm x k ∙ ap ordering_reverse h) up.0, more)

  pub insert-sorted : (k : K) (xs : List K) → IsStrictlySortedBy cmp xs → IsStrictlySortedBy cmp (insert_key cmp xs k)
  unfolding IsStrictlySortedBy
  insert-sorted k [] up = (tt, tt)
  insert-sorted k (x ∷ xs) up = up_put (cmp k x) k x xs refl up (insert-sorted k xs up.1)

  all_taken : (P : K → Type 0) (b : Bool) (x : K) (xs behind : List K) → AllByRecursion P (x ∷ xs) → AllByRecursion P behind → AllByRecursion P (cond b xs (x ∷ behind))
  all_taken P true x xs behind all more = all.1
  all_taken P false x xs behind all more = (all.0, more)

  all_removed : (P : K → Type 0) (test : K → Bool) (xs : List K) → AllByRecursion P xs → AllByRecursion P (remove_key test xs)
  all_removed P test [] all = tt
  all_removed P test (x ∷ xs) all = all_taken P (test x) x xs (remove_key test xs) all (all_removed P test xs all.1)

  up_taken : (b : Bool) (test : K → Bool) (x : K) (xs : List K) → IsStrictlySortedBy cmp (x ∷ xs) → IsStrictlySortedBy cmp (remove_key test xs) → IsStrictlySortedBy cmp (cond b xs (x ∷ remove_key test xs))
  unfolding IsStrictlySortedBy
  up_taken true test x xs up more = up.1
  up_taken false test x xs up more = (all_removed (λ y. cmp x y ≡ Less) test xs up.0, more)

  pub remove-sorted : (test : K → Bool) (xs : List K) → IsStrictlySortedBy cmp xs → IsStrictlySortedBy cmp (remove_key test xs)
  unfolding IsStrictlySortedBy
  remove-sorted test [] up = tt
  remove-sorted test (x ∷ xs) up = up_taken (test x) test x xs up (remove-sorted test xs up.1)
