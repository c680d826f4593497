-- What a search by halves may rest on in a list in order by zone: where it misses, no zone ties.
use Rattle.std.proofs.Common.{◌≡◌, ◌∙◌, ℕ, zero, suc, ◌<◌, ◌≤◌, List, [], ◌∷◌, true, false, length, get_or, Err, refl, sym, ap, ⊎_elim, nat_lt, arith}
use Rattle.std.specs.declared.cmp.Ordering.{Ordering}
use Rattle.std.specs.declared.cmp.Ordering.TheVariants.{Less, Equal, Greater}
use Rattle.std.specs.Ordering.{is_eq, ordering_index, ordering_reverse}
use Rattle.std.specs.List.{AllByRecursion}
use Rattle.std.specs.List.Sorted.{IsStrictlySortedBy, IsBinarySearchResult}
use Rattle.std.specs.Map.{keys_of}
use Rattle.std.proofs.lemmas.Bool.{cases_Bool}
use Rattle.std.proofs.lemmas.Bool.Decides.{nat_tests}
use Rattle.hazard_types.specs.Places.{Place, by_place}
use Rattle.hazard_types.proofs.OrderLaws.{by_place_total}

-- along an order, what is before comes no later than what is behind
rises : (x y z : Place) (o : Ordering) → by_place x y ≡ Less → by_place y z ≡ o → ordering_index (by_place x z) ≤ ordering_index o
rises x y z Less h is = rw (by_place_total.trans x y z h is) (omega arith)
rises x y z Equal h is =
    let back : by_place z y ≡ Equal = by_place_total.antisymm z y ∙ ap ordering_reverse is in
    let turned : by_place y x ≡ Greater = by_place_total.antisymm y x ∙ ap ordering_reverse h in
    let same : by_place y x ≡ by_place z x = by_place_total.congr y z x is in
    let first : by_place x z ≡ Less = by_place_total.antisymm x z ∙ ap ordering_reverse (sym same ∙ turned) in
    rw first (omega arith)
rises x y z Greater h is = any_least (by_place x z)
  where
    any_least : (o : Ordering) → ordering_index o ≤ ordering_index Greater
    any_least Less = omega arith
    any_least Equal = omega arith
    any_least Greater = omega arith

same_index : (n : ℕ) → n ≤ n
same_index n = omega arith

lower : (m n : ℕ) → nat_lt m n ≡ true → m < n
lower m n h = grind (arith, nat_tests)

no_lower : (m n : ℕ) → nat_lt m n ≡ false → n ≤ m
no_lower m n h = grind (arith, nat_tests)

module _ {V : Type 0} where
  -- the zones before come first
  pub before : (p : Place) (es : List (Place × V)) (j : ℕ) (d : Place × V) → AllByRecursion (λ (y : Place). by_place p y ≡ Less) (keys_of es) → j < length es → by_place p (get_or es j d).0 ≡ Less
  before p [] j d all lt = absurd (omega arith)
  before p (e ∷ es) zero d all lt = all.0
  before p (e ∷ es) (suc j) d all lt = before p es j d all.1 (omega arith)

  -- a zone is compared with ever later ones in order
  pub rising : (z : Place) (es : List (Place × V)) (i j : ℕ) (d : Place × V) → IsStrictlySortedBy by_place (keys_of es) → i ≤ j → j < length es → ordering_index (by_place (get_or es i d).0 z) ≤ ordering_index (by_place (get_or es j d).0 z)
  unfolding IsStrictlySortedBy
  rising z [] i j d up le lt = absurd (omega arith)
  rising z (e ∷ es) zero zero d up le lt = same_index (ordering_index (by_place e.0 z))
  rising z (e ∷ es) zero (suc j) d up le lt = rises e.0 (get_or es j d).0 z (by_place (get_or es j d).0 z) (before e.0 es j d up.0 (omega arith)) refl
  rising z (e ∷ es) (suc i) zero d up le lt = absurd (omega arith)
  rising z (e ∷ es) (suc i) (suc j) d up le lt = rising z es i j d up.1 (omega arith) (omega arith)

  -- where a search misses, no zone ties
  pub none_ties : (z : Place) (es : List (Place × V)) (i : ℕ) → IsStrictlySortedBy by_place (keys_of es) → IsBinarySearchResult (λ (e : Place × V). by_place e.0 z) es (Err i) → (k : ℕ) (d : Place × V) → k < length es → is_eq (by_place (get_or es k d).0 z) ≡ false
  none_ties z es i up parted k d lt =
      let p = parted (λ a b d le lt. rising z es a b d up le lt) in
      ⊎_elim (λ (low : nat_lt k i ≡ true). ap is_eq (p.0 k d (omega arith) (lower k i low))) (λ (high : nat_lt k i ≡ false). ap is_eq (p.1 k d (no_lower k i high) lt)) (cases_Bool (nat_lt k i))
