-- What amounts that are added at keys come to.
use Rattle.std.proofs.Common.{◌≡◌, ◌∙◌, ℕ, ◌+◌, Bool, true, false, cond, List, [], ◌∷◌, fold, Option, Some, unwrap_or, Ordering, Less, Equal, Greater, refl, ap, sym, subst, arith}
use Rattle.std.proofs.lemmas.Bool.{false_from_ne_true}
use Rattle.std.proofs.lemmas.Cmp.{tied_itself}
use Rattle.std.specs.BTreeMap.{insert_entry, is_at}
use Rattle.std.specs.Cmp.{IsTotalOrder}
use Rattle.std.specs.Map.{lookup}
use Rattle.std.specs.Ordering.{match_ordering, is_eq}
use Rattle.hazard_types.specs.Orders.{by_hazard}
use Rattle.hazard_types.specs.Places.{Place, by_place}
use Rattle.hazard_types.specs.Same.{same_zone, same_hazard}
use Rattle.hazard_types.specs.declared.hazard.Hazard.{Hazard}
use Rattle.hazard_types.proofs.Equality.{zone_one, zone_itself, hazard_one, hazard_itself}
use Rattle.hazard_types.proofs.OrderLaws.{by_place_total, by_place_ties, by_hazard_total, by_hazard_ties}
use Rattle.stats_report.specs.Adding.{sum_where, sum_at, with_amount}

tied_to : (o : Ordering) → is_eq o ≡ true → o ≡ Equal
tied_to Less h = cc
tied_to Equal h = refl
tied_to Greater h = cc

module _ {K : Type 0} (cmp : K → K → Ordering) (total : IsTotalOrder cmp) (ties : (a b : K) → cmp a b ≡ Equal → a ≡ b) where
  abbrev Sums : Type 0
  Sums = List (K × ℕ)

  at_itself : (k : K) → is_at (cmp k) k ≡ true
  at_itself k = rw (tied_itself total k) refl

  same_by : (o : Ordering) (k : K) (e : K × ℕ) (es : Sums) (n : ℕ) → cmp k e.0 ≡ o → sum_at cmp (insert_entry cmp es k n) k ≡ n
      → sum_at cmp (match_ordering o ((k, n) ∷ e ∷ es) ((e.0, n) ∷ es) (e ∷ insert_entry cmp es k n)) k ≡ n
  same_by Less k e es n h later = rw (at_itself k) refl
  same_by Equal k e es n h later = rw h refl
  same_by Greater k e es n h later = rw h later

  at_same : (k : K) (es : Sums) (n : ℕ) → sum_at cmp (insert_entry cmp es k n) k ≡ n
  at_same k [] n = rw (at_itself k) refl
  at_same k (e ∷ es) n = same_by (cmp k e.0) k e es n refl (at_same k es n)

  other_first : (b : Bool) (n : ℕ) (o p : Option ℕ) → unwrap_or o 0 ≡ unwrap_or p 0 → unwrap_or (cond b (Some n) o) 0 ≡ unwrap_or (cond b (Some n) p) 0
  other_first true n o p h = refl
  other_first false n o p h = h

  other_by : (o : Ordering) (q k : K) (e : K × ℕ) (es : Sums) (n : ℕ) → cmp k e.0 ≡ o → is_at (cmp q) k ≡ false → sum_at cmp (insert_entry cmp es k n) q ≡ sum_at cmp es q
      → sum_at cmp (match_ordering o ((k, n) ∷ e ∷ es) ((e.0, n) ∷ es) (e ∷ insert_entry cmp es k n)) q ≡ sum_at cmp (e ∷ es) q
  other_by Less q k e es n h f later = rw f refl
  other_by Equal q k e es n h f later =
      let g : is_at (cmp q) e.0 ≡ false = subst (λ (y : K). is_at (cmp q) y ≡ false) (ties k e.0 h) f in
      rw g refl
  other_by Greater q k e es n h f later = other_first (is_at (cmp q) e.0) e.1 (lookup (is_at (cmp q)) (insert_entry cmp es k n)) (lookup (is_at (cmp q)) es) later

  at_other : (q k : K) (es : Sums) (n : ℕ) → is_at (cmp q) k ≡ false → sum_at cmp (insert_entry cmp es k n) q ≡ sum_at cmp es q
  at_other q k [] n f = rw f refl
  at_other q k (e ∷ es) n f = other_by (cmp k e.0) q k e es n refl f (at_other q k es n f)

  at_by : (b : Bool) (q k : K) (es : Sums) (n : ℕ) → is_at (cmp q) k ≡ b → sum_at cmp (with_amount cmp es k n) q ≡ sum_at cmp es q + cond b n 0
  at_by true q k es n h =
      let same : q ≡ k = ties q k (tied_to (cmp q k) h) in
      subst (λ (y : K). sum_at cmp (with_amount cmp es k n) y ≡ sum_at cmp es y + n) (sym same) (at_same k es (sum_at cmp es k + n))
  at_by false q k es n h = at_other q k es (sum_at cmp es k + n) h ∙ no_more (sum_at cmp es q)
    where
      no_more : (m : ℕ) → m ≡ m + 0
      no_more m = omega arith

  -- what was added item by item
  pub sum_folded : {A : Type 0} (key : A → K) (amount : A → ℕ) (xs : List A) (es : Sums) (q : K)
      → sum_at cmp (fold (λ (s : List (K × ℕ)) (x : A). with_amount cmp s (key x) (amount x)) es xs) q ≡ sum_at cmp es q + sum_where (λ (x : A). is_at (cmp q) (key x)) amount xs
  sum_folded {A} key amount [] es q = no_more (sum_at cmp es q)
    where
      no_more : (m : ℕ) → m ≡ m + 0
      no_more m = omega arith
  sum_folded {A} key amount (x ∷ xs) es q =
      let later = sum_folded key amount xs (with_amount cmp es (key x) (amount x)) q in
      let first = at_by (is_at (cmp q) (key x)) q (key x) es (amount x) refl in
      omega (arith, later, first)

-- sums of tests and amounts that are alike
pub sum_alike : {A : Type 0} (p q : A → Bool) (f : A → ℕ) (xs : List A) → ((x : A) → p x ≡ q x) → sum_where p f xs ≡ sum_where q f xs
sum_alike p q f [] h = refl
sum_alike p q f (x ∷ xs) h = rw (h x) (ap (λ (n : ℕ). cond (q x) (f x) 0 + n) (sum_alike p q f xs h))

hazard_by : (o : Ordering) (h g : Hazard) → by_hazard h g ≡ o → is_eq o ≡ same_hazard g h
hazard_by Equal h g is = let e = by_hazard_ties h g is in sym (subst (λ (x : Hazard). same_hazard x h ≡ true) e (hazard_itself h))
hazard_by Less h g is = sym (false_from_ne_true _ (λ t. let e = hazard_one g h t in let f : Less ≡ Equal = sym is ∙ ap (by_hazard h) e ∙ tied_itself by_hazard_total h in cc))
hazard_by Greater h g is = sym (false_from_ne_true _ (λ t. let e = hazard_one g h t in let f : Greater ≡ Equal = sym is ∙ ap (by_hazard h) e ∙ tied_itself by_hazard_total h in cc))

zone_by : (o : Ordering) (z y : Place) → by_place z y ≡ o → is_eq o ≡ same_zone y z
zone_by Equal z y is = let e = by_place_ties z y is in sym (subst (λ (x : Place). same_zone x z ≡ true) e (zone_itself z))
zone_by Less z y is = sym (false_from_ne_true _ (λ t. let e = zone_one y z t in let f : Less ≡ Equal = sym is ∙ ap (by_place z) e ∙ tied_itself by_place_total z in cc))
zone_by Greater z y is = sym (false_from_ne_true _ (λ t. let e = zone_one y z t in let f : Greater ≡ Equal = sym is ∙ ap (by_place z) e ∙ tied_itself by_place_total z in cc))

pub hazard_tied : (h g : Hazard) → is_at (by_hazard h) g ≡ same_hazard g h
hazard_tied h g = hazard_by (by_hazard h g) h g refl

pub zone_tied : (z y : Place) → is_at (by_place z) y ≡ same_zone y z
zone_tied z y = zone_by (by_place z y) z y refl

from_none : (n : ℕ) → 0 + n ≡ n
from_none n = omega arith

-- what was added at a key, by a test of keys that tells the same as their order
folded_at : {A K : Type 0} (cmp : K → K → Ordering) (total : IsTotalOrder cmp) (ties : (a b : K) → cmp a b ≡ Equal → a ≡ b) (same : K → K → Bool) → ((k j : K) → is_at (cmp k) j ≡ same j k) → (key : A → K) (amount : A → ℕ) (xs : List A) (k : K)
    → sum_at cmp (fold (λ (s : List (K × ℕ)) (x : A). with_amount cmp s (key x) (amount x)) [] xs) k ≡ sum_where (λ (x : A). same (key x) k) amount xs
folded_at {A} cmp total ties same tied key amount xs k =
    sum_folded cmp total ties key amount xs [] k
    ∙ from_none (sum_where (λ (x : A). is_at (cmp k) (key x)) amount xs)
    ∙ sum_alike (λ (x : A). is_at (cmp k) (key x)) (λ (x : A). same (key x) k) amount xs (λ x. tied k (key x))

-- what was added for a hazard, and for a zone

pub hazard_folded : {A : Type 0} (key : A → Hazard) (amount : A → ℕ) (xs : List A) (h : Hazard)
    → sum_at by_hazard (fold (λ (s : List (Hazard × ℕ)) (x : A). with_amount by_hazard s (key x) (amount x)) [] xs) h ≡ sum_where (λ (x : A). same_hazard (key x) h) amount xs
hazard_folded key amount xs h = folded_at by_hazard by_hazard_total by_hazard_ties same_hazard hazard_tied key amount xs h

pub zone_folded : {A : Type 0} (key : A → Place) (amount : A → ℕ) (xs : List A) (z : Place)
    → sum_at by_place (fold (λ (s : List (Place × ℕ)) (x : A). with_amount by_place s (key x) (amount x)) [] xs) z ≡ sum_where (λ (x : A). same_zone (key x) z) amount xs
zone_folded key amount xs z = folded_at by_place by_place_total by_place_ties same_zone zone_tied key amount xs z
