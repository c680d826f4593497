-- The sum over all is the sum over the keys of what belongs to each.
use Rattle.std.proofs.Common.{◌≡◌, ◌∙◌, ℕ, ◌+◌, ◌||◌, Bool, true, false, cond, List, [], ◌∷◌, fold, Ordering, Less, Equal, Greater, refl, ap, sym, subst, arith}
use Rattle.std.proofs.lemmas.Bool.{false_from_ne_true}
use Rattle.std.proofs.lemmas.Cmp.{tied_itself}
use Rattle.std.specs.BTreeMap.{is_at}
use Rattle.std.specs.BTreeSet.{insert_key}
use Rattle.std.specs.Cmp.{IsTotalOrder}
use Rattle.std.specs.List.{AllByRecursion, list_any}
use Rattle.std.specs.Ordering.{match_ordering, ordering_reverse, is_eq}
use Rattle.hazard_types.specs.Orders.{by_hazard}
use Rattle.hazard_types.specs.Places.{Place, by_place}
use Rattle.hazard_types.specs.Same.{same_zone, same_hazard}
use Rattle.hazard_types.specs.declared.hazard.Hazard.{Hazard}
use Rattle.hazard_types.specs.declared.line.Row.{Row}
use Rattle.hazard_types.proofs.OrderLaws.{by_place_total, by_place_ties, by_hazard_total, by_hazard_ties}
use Rattle.event_life.specs.Products.{Product, rows_of}
use Rattle.stats_report.specs.Adding.{sum_where}
use Rattle.stats_report.specs.Report.{hazards_in, zones_in, minutes_in, hazard_minutes, zone_minutes, total_minutes}
use Rattle.stats_report.proofs.Amounts.{sum_alike, hazard_tied, zone_tied}

abbrev all : {A : Type 0} → A → Bool
all x = true

tied_to : (o : Ordering) → is_eq o ≡ true → o ≡ Equal
tied_to Less h = cc
tied_to Equal h = refl
tied_to Greater h = cc

module _ {K : Type 0} (cmp : K → K → Ordering) (total : IsTotalOrder cmp) (ties : (a b : K) → cmp a b ≡ Equal → a ≡ b) where
  abbrev Above : K → List K → Type 0
  Above k ks = AllByRecursion (λ (y : K). cmp k y ≡ Less) ks

  abbrev Up : List K → Type 0
  Up [] = Unit {0}
  Up (k ∷ ks) = Above k ks × Up ks

  -- keys that are put in stay in order, each once

  above_less : (k x : K) (ks : List K) → cmp k x ≡ Less → Above x ks → Above k ks
  above_less k x [] h above = tt
  above_less k x (y ∷ ks) h above = (total.trans k x y h above.0, above_less k x ks h above.1)

  above_by : (o : Ordering) (k x y : K) (ks tail : List K) → cmp x k ≡ Less → Above x (y ∷ ks) → Above x tail → Above x (match_ordering o (k ∷ y ∷ ks) (y ∷ ks) (y ∷ tail))
  above_by Less k x y ks tail h above later = (h, above)
  above_by Equal k x y ks tail h above later = above
  above_by Greater k x y ks tail h above later = (above.0, later)

  above_put : (k x : K) (ks : List K) → cmp x k ≡ Less → Above x ks → Above x (insert_key cmp ks k)
  above_put k x [] h above = (h, tt)
  above_put k x (y ∷ ks) h above = above_by (cmp k y) k x y ks (insert_key cmp ks k) h above (above_put k x ks h above.1)

  up_by : (o : Ordering) (k x : K) (ks : List K) → cmp k x ≡ o → Up (x ∷ ks) → Up (insert_key cmp ks k) → Up (match_ordering o (k ∷ x ∷ ks) (x ∷ ks) (x ∷ insert_key cmp ks k))
  up_by Less k x ks h up later = ((h, above_less k x ks h up.0), up)
  up_by Equal k x ks h up later = up
  up_by Greater k x ks h up later = (above_put k x ks (total.antisymm x k ∙ ap ordering_reverse h) up.0, later)

  up_put : (k : K) (ks : List K) → Up ks → Up (insert_key cmp ks k)
  up_put k [] up = (tt, tt)
  up_put k (x ∷ ks) up = up_by (cmp k x) k x ks refl up (up_put k ks up.1)

  -- a key that was put in is there, and so are the others

  abbrev has : K → List K → Bool
  has q ks = list_any (λ (k : K). is_at (cmp k) q) ks

  at_itself : (k : K) → is_at (cmp k) k ≡ true
  at_itself k = rw (tied_itself total k) refl

  or_true : (b : Bool) → (b || true) ≡ true
  or_true true = refl
  or_true false = refl

  new_by : (o : Ordering) (k x : K) (ks : List K) → cmp k x ≡ o → has k (insert_key cmp ks k) ≡ true → has k (match_ordering o (k ∷ x ∷ ks) (x ∷ ks) (x ∷ insert_key cmp ks k)) ≡ true
  new_by Less k x ks h later = rw (at_itself k) refl
  new_by Equal k x ks h later = let same = ties k x h in subst (λ (y : K). (is_at (cmp y) k || has k ks) ≡ true) same (rw (at_itself k) refl)
  new_by Greater k x ks h later = rw later (or_true (is_at (cmp x) k))

  has_new : (k : K) (ks : List K) → has k (insert_key cmp ks k) ≡ true
  has_new k [] = rw (at_itself k) refl
  has_new k (x ∷ ks) = new_by (cmp k x) k x ks refl (has_new k ks)

  or_old : (a b c : Bool) → (b ≡ true → c ≡ true) → (a || b) ≡ true → (a || c) ≡ true
  or_old true b c f h = refl
  or_old false b c f h = f h

  old_by : (o : Ordering) (q k x : K) (ks : List K) → has q (x ∷ ks) ≡ true → (has q ks ≡ true → has q (insert_key cmp ks k) ≡ true) → has q (match_ordering o (k ∷ x ∷ ks) (x ∷ ks) (x ∷ insert_key cmp ks k)) ≡ true
  old_by Less q k x ks h later = rw h (or_true (is_at (cmp k) q))
  old_by Equal q k x ks h later = h
  old_by Greater q k x ks h later = or_old (is_at (cmp x) q) (has q ks) (has q (insert_key cmp ks k)) later h

  has_old : (q k : K) (ks : List K) → has q ks ≡ true → has q (insert_key cmp ks k) ≡ true
  has_old q k [] h = cc
  has_old q k (x ∷ ks) h = old_by (cmp k x) q k x ks h (has_old q k ks)

  module _ {A : Type 0} (key : A → K) (amount : A → ℕ) where
    abbrev keys_from : List K → List A → List K
    keys_from ks xs = fold (λ (ks : List K) (x : A). insert_key cmp ks (key x)) ks xs

    up_keys : (ks : List K) (xs : List A) → Up ks → Up (keys_from ks xs)
    up_keys ks [] up = up
    up_keys ks (x ∷ xs) up = up_keys (insert_key cmp ks (key x)) xs (up_put (key x) ks up)

    still_has : (q : K) (ks : List K) (xs : List A) → has q ks ≡ true → has q (keys_from ks xs) ≡ true
    still_has q ks [] h = h
    still_has q ks (x ∷ xs) h = still_has q (insert_key cmp ks (key x)) xs (has_old q (key x) ks h)

    has_all : (ks : List K) (xs : List A) → AllByRecursion (λ (x : A). has (key x) (keys_from ks xs) ≡ true) xs
    has_all ks [] = tt
    has_all ks (x ∷ xs) = (still_has (key x) (insert_key cmp ks (key x)) xs (has_new (key x) ks), has_all (insert_key cmp ks (key x)) xs)

    -- the sum at a key
    abbrev at : List A → K → ℕ
    at xs k = sum_where (λ (x : A). is_at (cmp k) (key x)) amount xs

    abbrev over : (K → ℕ) → List K → ℕ
    over f ks = sum_where (λ (k : K). true) f ks

    over_none : (ks : List K) → over (at []) ks ≡ 0
    over_none [] = refl
    over_none (k ∷ ks) = let later = over_none ks in omega (arith, later)

    abbrev one : A → K → ℕ
    one x k = cond (is_at (cmp k) (key x)) (amount x) 0

    over_both : (x : A) (xs : List A) (ks : List K) → over (at (x ∷ xs)) ks ≡ over (one x) ks + over (at xs) ks
    over_both x xs [] = refl
    over_both x xs (k ∷ ks) = let later = over_both x xs ks in omega (arith, later)

    behind : (x : A) (k : K) (ks : List K) → k ≡ key x → Above k ks → over (one x) ks ≡ 0
    behind x k [] h above = refl
    behind x k (y ∷ ks) h above =
        let apart : is_at (cmp y) (key x) ≡ false = false_from_ne_true _ (λ g.
        let same : y ≡ key x = ties y (key x) (tied_to (cmp y (key x)) g) in
        let tied : cmp k y ≡ Equal = subst (λ (z : K). cmp k z ≡ Equal) (h ∙ sym same) (tied_itself total k) in
        let f : Less ≡ Equal = sym above.0 ∙ tied in cc) in
        let first : one x y ≡ 0 = ap (λ (b : Bool). cond b (amount x) 0) apart in
        let later = behind x k ks h above.1 in
        omega (arith, first, later)

    once_by : (b : Bool) (x : A) (k : K) (ks : List K) → is_at (cmp k) (key x) ≡ b → Up (k ∷ ks) → (b || has (key x) ks) ≡ true → (has (key x) ks ≡ true → over (one x) ks ≡ amount x)
        → cond b (amount x) 0 + over (one x) ks ≡ amount x
    once_by true x k ks h up there later = let none = behind x k ks (ties k (key x) (tied_to (cmp k (key x)) h)) up.0 in omega (arith, none)
    once_by false x k ks h up there later = let rest = later there in omega (arith, rest)

    once : (x : A) (ks : List K) → Up ks → has (key x) ks ≡ true → over (one x) ks ≡ amount x
    once x [] up h = cc
    once x (k ∷ ks) up h = once_by (is_at (cmp k) (key x)) x k ks refl up h (once x ks up.1)

    shared : (xs : List A) (ks : List K) → Up ks → AllByRecursion (λ (x : A). has (key x) ks ≡ true) xs → over (at xs) ks ≡ sum_where (λ (x : A). true) amount xs
    shared [] ks up there = over_none ks
    shared (x ∷ xs) ks up there =
        let both = over_both x xs ks in
        let first = once x ks up there.0 in
        let later = shared xs ks up there.1 in
        omega (arith, both, first, later)

    pub all_shared : (xs : List A) → over (at xs) (keys_from [] xs) ≡ sum_where (λ (x : A). true) amount xs
    all_shared xs = shared xs (keys_from [] xs) (up_keys [] xs tt) (has_all [] xs)

over_alike : {K : Type 0} (f g : K → ℕ) (ks : List K) → ((k : K) → f k ≡ g k) → sum_where (λ (k : K). true) f ks ≡ sum_where (λ (k : K). true) g ks
over_alike f g [] h = refl
over_alike f g (k ∷ ks) h = let first = h k in let later = over_alike f g ks h in omega (arith, first, later)

pub hazards_shared : (stamp : ℕ) (products : List Product) → sum_where (λ (h : Hazard). true) (λ (h : Hazard). hazard_minutes stamp h products) (hazards_in (rows_of products)) ≡ total_minutes stamp products
hazards_shared stamp products =
    over_alike (λ (h : Hazard). hazard_minutes stamp h products) (λ (h : Hazard). sum_where (λ (r : Row). is_at (by_hazard h) r.event.hazard) (minutes_in stamp products) (rows_of products)) (hazards_in (rows_of products))
    (λ h. sym (sum_alike (λ (r : Row). is_at (by_hazard h) r.event.hazard) (λ (r : Row). same_hazard r.event.hazard h) (minutes_in stamp products) (rows_of products) (λ r. hazard_tied h r.event.hazard)))
    ∙ all_shared by_hazard by_hazard_total by_hazard_ties (λ (r : Row). r.event.hazard) (minutes_in stamp products) (rows_of products)

pub zones_shared : (stamp : ℕ) (products : List Product) → sum_where (λ (z : Place). true) (λ (z : Place). zone_minutes stamp z products) (zones_in (rows_of products)) ≡ total_minutes stamp products
zones_shared stamp products =
    over_alike (λ (z : Place). zone_minutes stamp z products) (λ (z : Place). sum_where (λ (r : Row). is_at (by_place z) r.zone) (minutes_in stamp products) (rows_of products)) (zones_in (rows_of products))
    (λ z. sym (sum_alike (λ (r : Row). is_at (by_place z) r.zone) (λ (r : Row). same_zone r.zone z) (minutes_in stamp products) (rows_of products) (λ r. zone_tied z r.zone)))
    ∙ all_shared by_place by_place_total by_place_ties (λ (r : Row). r.zone) (minutes_in stamp products) (rows_of products)
