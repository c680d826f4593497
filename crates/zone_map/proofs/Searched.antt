-- What a search by halves finds in a list in order by zone, and such a list taken entry by entry.
use Rattle.std.proofs.Common.{◌≡◌, ◌∙◌, ℕ, zero, suc, ◌+◌, ◌<◌, ◌≤◌, List, [], ◌∷◌, true, false, length, get_or, take, None, Ok, Err, refl, sym, ap, arith}
use Rattle.std.specs.BTreeMap.{insert_entry, is_at}
use Rattle.std.specs.declared.cmp.Ordering.{Ordering}
use Rattle.std.specs.declared.cmp.Ordering.TheVariants.{Less, Equal, Greater}
use Rattle.std.specs.Ordering.{is_eq, ordering_reverse}
use Rattle.std.specs.List.{AllByRecursion}
use Rattle.std.specs.List.Sorted.{IsStrictlySortedBy, IsBinarySearchResult}
use Rattle.std.specs.Map.{keys_of, lookup}
use Rattle.std.proofs.lemmas.List.{take_more}
use Rattle.hazard_types.specs.Places.{Place, by_place}
use Rattle.hazard_types.proofs.OrderLaws.{by_place_total}
use Rattle.hazard_types.proofs.Sorted.{rising, none_ties}
use Rattle.zone_map.specs.Rising.{is_entry_at, is_seat}
use Rattle.zone_map.proofs.Seated.{IsBehind, put_behind}

turned_eq : (o : Ordering) → is_eq (ordering_reverse o) ≡ is_eq o
turned_eq Less = refl
turned_eq Equal = refl
turned_eq Greater = refl

turned : (p z : Place) → is_at (by_place z) p ≡ is_eq (by_place p z)
turned p z = ap is_eq (by_place_total.antisymm z p) ∙ turned_eq (by_place p z)

module _ {V : Type 0} where
  no_tie : (z : Place) (es : List (Place × V)) → ((k : ℕ) (d : Place × V) → k < length es → is_eq (by_place (get_or es k d).0 z) ≡ false) → lookup (is_at (by_place z)) es ≡ None
  no_tie z [] each = refl
  no_tie z (e ∷ es) each = rw (turned e.0 z ∙ each 0 e (omega arith)) (no_tie z es (λ k d lt. each (suc k) d (omega arith)))

  tied : (z : Place) (es : List (Place × V)) (i : ℕ) → i < length es → ((d : Place × V) → by_place (get_or es i d).0 z ≡ Equal) → is_entry_at es i z ≡ true
  tied z [] i lt tie = absurd (omega arith)
  tied z (e ∷ es) zero lt tie = turned e.0 z ∙ ap is_eq (tie e)
  tied z (e ∷ es) (suc i) lt tie = tied z es i (omega arith) tie

  pub searched : (z : Place) (es : List (Place × V)) (i : ℕ) → i < length es → IsBinarySearchResult (λ (e : Place × V). by_place e.0 z) es (Ok i) → is_entry_at es i z ≡ true
  searched z es i lt there = tied z es i lt there

  pub missed : (z : Place) (es : List (Place × V)) (i : ℕ) → IsStrictlySortedBy by_place (keys_of es) → IsBinarySearchResult (λ (e : Place × V). by_place e.0 z) es (Err i) → lookup (is_at (by_place z)) es ≡ None
  missed z es i up parted = no_tie z es (none_ties z es i up parted)

  seat_of_parts : (z : Place) (es : List (Place × V)) (i : ℕ) → i ≤ length es → ((k : ℕ) (d : Place × V) → k < i → by_place (get_or es k d).0 z ≡ Less) → ((k : ℕ) (d : Place × V) → i ≤ k → k < length es → by_place (get_or es k d).0 z ≡ Greater) → is_seat es i z ≡ true
  seat_of_parts z [] zero le low high = refl
  seat_of_parts z [] (suc i) le low high = absurd (omega arith)
  seat_of_parts z (e ∷ es) zero le low high = rw (high 0 e (omega arith) (omega arith)) refl
  seat_of_parts z (e ∷ es) (suc i) le low high = rw (low 0 e (omega arith)) (seat_of_parts z es i (omega arith) (λ k d lt. low (suc k) d (omega arith)) (λ k d at lt. high (suc k) d (omega arith) (omega arith)))

  pub seat_missed : (z : Place) (es : List (Place × V)) (i : ℕ) → IsStrictlySortedBy by_place (keys_of es) → i ≤ length es → IsBinarySearchResult (λ (e : Place × V). by_place e.0 z) es (Err i) → is_seat es i z ≡ true
  seat_missed z es i up le parted =
      let p = parted (λ a b d le lt. rising z es a b d up le lt) in
      seat_of_parts z es i le (λ k d lt. p.0 k d (omega arith) lt) (λ k d at lt. p.1 k d at lt)

  -- entries in order, one after another

  all_at : (P : Place → Type 0) (es : List (Place × V)) (i : ℕ) (d : Place × V) → AllByRecursion P (keys_of es) → i < length es → P (get_or es i d).0
  all_at P [] i d all lt = absurd (omega arith)
  all_at P (e ∷ es) zero d all lt = all.0
  all_at P (e ∷ es) (suc i) d all lt = all_at P es i d all.1 (omega arith)

  taken_behind : (es : List (Place × V)) (i : ℕ) (d : Place × V) → IsStrictlySortedBy by_place (keys_of es) → i < length es → IsBehind (get_or es i d).0 (take i es)
  unfolding IsStrictlySortedBy
  taken_behind [] i d up lt = absurd (omega arith)
  taken_behind (e ∷ es) zero d up lt = tt
  taken_behind (e ∷ es) (suc i) d up lt = (all_at (λ (q : Place). by_place e.0 q ≡ Less) es i d up.0 (omega arith), taken_behind es i d up.1 (omega arith))

  pub taken_more : (es : List (Place × V)) (i : ℕ) (d : Place × V) → IsStrictlySortedBy by_place (keys_of es) → i < length es → insert_entry by_place (take i es) (get_or es i d).0 (get_or es i d).1 ≡ take (i + 1) es
  taken_more es i d up lt = sym (put_behind (get_or es i d).0 (get_or es i d).1 (take i es) (taken_behind es i d up lt)) ∙ sym (take_more es i d lt)
