-- Maps and sets as lists of keys in order: what is found of a key when another is added.
use Rattle.std.proofs.Common.{◌≡◌, ◌∙◌, ◌||◌, Bool, true, false, List, [], ◌∷◌, Option, Some, Ordering, Less, Equal, Greater, cond, refl, sym, ap}
use Rattle.std.specs.BTreeMap.{insert_entry, is_at}
use Rattle.std.specs.BTreeSet.{insert_key}
use Rattle.std.specs.Cmp.{IsTotalOrder}
use Rattle.std.specs.List.{list_any}
use Rattle.std.specs.Map.{lookup}
use Rattle.std.specs.Ordering.{match_ordering, is_eq}
use Rattle.std.proofs.lemmas.Cmp.{tied_itself}
use Rattle.hazard_types.specs.Places.{Place, by_place}
use Rattle.hazard_types.specs.Same.{same_zone}
use Rattle.hazard_types.proofs.Equality.{zone_one, zone_itself}
use Rattle.hazard_types.proofs.OrderLaws.{by_place_total, by_place_ties}

-- what is found at a key when another has got a value

tied_to : (o : Ordering) → is_eq o ≡ true → o ≡ Equal
tied_to Less h = cc
tied_to Equal h = refl
tied_to Greater h = cc

module _ {K : Type 0} (cmp : K → K → Ordering) (total : IsTotalOrder cmp) (ties : (a b : K) → cmp a b ≡ Equal → a ≡ b) where
  pub at_one : (q k : K) → is_at (cmp q) k ≡ true → q ≡ k
  at_one q k h = ties q k (tied_to (cmp q k) h)

  pub at_itself : (k : K) → is_at (cmp k) k ≡ true
  at_itself k = ap is_eq (tied_itself total k)

  passes : (b c : Bool) {X : Type 0} (v w : X) (o : Option X) → (c ≡ true → b ≡ true → ⊥) → cond c (Some w) (cond b (Some v) o) ≡ cond b (Some v) (cond c (Some w) o)
  passes true true v w o apart = absurd (apart refl refl)
  passes true false v w o apart = refl
  passes false c v w o apart = refl

  replaced : (b : Bool) {X : Type 0} (v w : X) (o : Option X) → cond b (Some w) o ≡ cond b (Some w) (cond b (Some v) o)
  replaced true v w o = refl
  replaced false v w o = refl

  by_order : {X : Type 0} (o : Ordering) (q k : K) (v : X) (e : K × X) (es : List (K × X)) → cmp k e.0 ≡ o → lookup (is_at (cmp q)) (insert_entry cmp es k v) ≡ cond (is_at (cmp q) k) (Some v) (lookup (is_at (cmp q)) es)
      → lookup (is_at (cmp q)) (match_ordering o ((k, v) ∷ e ∷ es) ((e.0, v) ∷ es) (e ∷ insert_entry cmp es k v)) ≡ cond (is_at (cmp q) k) (Some v) (lookup (is_at (cmp q)) (e ∷ es))
  by_order Less q k v e es is later = refl
  by_order Equal q k v e es is later =
      let same : k ≡ e.0 = ties k e.0 is in
      rw same (replaced (is_at (cmp q) e.0) e.1 v (lookup (is_at (cmp q)) es))
  by_order Greater q k v e es is later =
      ap (λ o. cond (is_at (cmp q) e.0) (Some e.1) o) later
      ∙ passes (is_at (cmp q) k) (is_at (cmp q) e.0) v e.1 (lookup (is_at (cmp q)) es) (λ at_e at_k.
      let same : k ≡ e.0 = sym (at_one q k at_k) ∙ at_one q e.0 at_e in
      let tied : cmp k e.0 ≡ Equal = ap (cmp k) (sym same) ∙ tied_itself total k in cc)

  pub found_after : {X : Type 0} (q k : K) (v : X) (es : List (K × X)) → lookup (is_at (cmp q)) (insert_entry cmp es k v) ≡ cond (is_at (cmp q) k) (Some v) (lookup (is_at (cmp q)) es)
  found_after q k v [] = refl
  found_after q k v (e ∷ es) = by_order (cmp k e.0) q k v e es refl (found_after q k v es)

  -- what is found of a key when another is added

  first_of_two : (b c d : Bool) → (c || (b || d)) ≡ (b || (c || d))
  first_of_two true true d = refl
  first_of_two true false d = refl
  first_of_two false c d = refl

  twice : (b d : Bool) → (b || d) ≡ (b || (b || d))
  twice true d = refl
  twice false d = refl

  by_place_of : (o : Ordering) (q k x : K) (xs : List K) → cmp k x ≡ o → list_any (is_at (cmp q)) (insert_key cmp xs k) ≡ (is_at (cmp q) k || list_any (is_at (cmp q)) xs)
      → list_any (is_at (cmp q)) (match_ordering o (k ∷ x ∷ xs) (x ∷ xs) (x ∷ insert_key cmp xs k)) ≡ (is_at (cmp q) k || list_any (is_at (cmp q)) (x ∷ xs))
  by_place_of Less q k x xs is later = refl
  by_place_of Equal q k x xs is later =
      let same : k ≡ x = ties k x is in
      rw same (twice (is_at (cmp q) x) (list_any (is_at (cmp q)) xs))
  by_place_of Greater q k x xs is later =
      ap (λ b. is_at (cmp q) x || b) later ∙ first_of_two (is_at (cmp q) k) (is_at (cmp q) x) (list_any (is_at (cmp q)) xs)

  pub has_after : (q k : K) (xs : List K) → list_any (is_at (cmp q)) (insert_key cmp xs k) ≡ (is_at (cmp q) k || list_any (is_at (cmp q)) xs)
  has_after q k [] = refl
  has_after q k (x ∷ xs) = by_place_of (cmp k x) q k x xs refl (has_after q k xs)

-- two tests that hold of the same

pub same_tests : (a b : Bool) → (a ≡ true → b ≡ true) → (b ≡ true → a ≡ true) → a ≡ b
same_tests true b to from = sym (to refl)
same_tests false true to from = from refl
same_tests false false to from = refl

pub zone_at : (q k : Place) → is_at (by_place q) k ≡ same_zone k q
zone_at q k = same_tests (is_at (by_place q) k) (same_zone k q)
    (λ h. rw (at_one by_place by_place_total by_place_ties q k h) (zone_itself k))
    (λ h. rw (zone_one k q h) (at_itself by_place by_place_total by_place_ties q))
