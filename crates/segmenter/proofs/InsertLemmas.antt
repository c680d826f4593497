-- One more entry among entries in order.
use Rattle.std.proofs.Common.{◌≡◌, ◌∙◌, ◌⊎◌, inl, inr, List, [], ◌∷◌, Ordering, Less, Equal, Greater, map, refl, ap, sym}
use Rattle.std.specs.Prelude.{◌≢◌}
use Rattle.std.specs.BTreeMap.{insert_entry}
use Rattle.std.specs.Cmp.{IsTotalOrder}
use Rattle.std.specs.List.{AllByRecursion}
use Rattle.std.specs.List.Sorted.{IsStrictlySortedBy}
use Rattle.std.specs.Ordering.{match_ordering, ordering_reverse}
use Rattle.segmenter.specs.Segments.{Has}

all_above : {K : Type 0} (R : K → K → Ordering) → IsTotalOrder R → (k m : K) (ks : List K) → R k m ≡ Less → AllByRecursion (λ y. R m y ≡ Less) ks → AllByRecursion (λ y. R k y ≡ Less) ks
all_above R total k m [] less all = tt
all_above R total k m (y ∷ ys) less all = (total.trans k m y less all.0, all_above R total k m ys less all.1)

module _ {K V : Type 0} (R : K → K → Ordering) (total : IsTotalOrder R) (ties : (a b : K) → R a b ≡ Equal → a ≡ b) where
  abbrev keys_of : List (K × V) → List K
  keys_of es = map (λ e. e.0) es

  from_by : (o : Ordering) (k : K) (v : V) (e : K × V) (es : List (K × V)) (x : K × V) → R k e.0 ≡ o → (Has (insert_entry R es k v) x → (x ≡ (k, v)) ⊎ Has es x)
      → Has (match_ordering o ((k, v) ∷ e ∷ es) ((e.0, v) ∷ es) (e ∷ insert_entry R es k v)) x → (x ≡ (k, v)) ⊎ Has (e ∷ es) x
  from_by Less k v e es x is later (inl q) = inl q
  from_by Less k v e es x is later (inr h) = inr h
  from_by Equal k v e es x is later (inl q) = let same = ties k e.0 is in inl (q ∙ (λ i. (sym same i, v)))
  from_by Equal k v e es x is later (inr h) = inr (inr h)
  from_by Greater k v e es x is later (inl q) = inr (inl q)
  from_by Greater k v e es x is later (inr h) = elim (later h) as (λ _. (x ≡ (k, v)) ⊎ Has (e ∷ es) x) [ inl q ↦ inl q | inr r ↦ inr (inr r) ]

  -- what stands there afterwards is the new entry, or stood there
  pub inserted_from : (es : List (K × V)) (k : K) (v : V) (x : K × V) → Has (insert_entry R es k v) x → (x ≡ (k, v)) ⊎ Has es x
  inserted_from [] k v x h = h
  inserted_from (e ∷ es) k v x h = from_by (R k e.0) k v e es x refl (inserted_from es k v x) h

  to_by : (o : Ordering) (k : K) (v : V) (e : K × V) (es : List (K × V)) (x : K × V) → R k e.0 ≡ o → k ≢ e.0 → ((x ≡ (k, v)) ⊎ Has es x → Has (insert_entry R es k v) x)
      → (x ≡ (k, v)) ⊎ Has (e ∷ es) x → Has (match_ordering o ((k, v) ∷ e ∷ es) ((e.0, v) ∷ es) (e ∷ insert_entry R es k v)) x
  to_by Less k v e es x is new later h = h
  to_by Equal k v e es x is new later h = absurd (new (ties k e.0 is))
  to_by Greater k v e es x is new later (inl q) = inr (later (inl q))
  to_by Greater k v e es x is new later (inr (inl q)) = inl q
  to_by Greater k v e es x is new later (inr (inr h)) = inr (later (inr h))

  -- where the key is new, all that stood there stays
  pub inserted : (es : List (K × V)) (k : K) (v : V) (x : K × V) → AllByRecursion (λ e. k ≢ e.0) es → (x ≡ (k, v)) ⊎ Has es x → Has (insert_entry R es k v) x
  inserted [] k v x new h = h
  inserted (e ∷ es) k v x new h = to_by (R k e.0) k v e es x refl new.0 (inserted es k v x new.1) h

  all_by : (P : K → Type 0) (o : Ordering) (k : K) (v : V) (e : K × V) (es : List (K × V)) → P k → AllByRecursion P (keys_of (e ∷ es)) → AllByRecursion P (keys_of (insert_entry R es k v))
      → AllByRecursion P (keys_of (match_ordering o ((k, v) ∷ e ∷ es) ((e.0, v) ∷ es) (e ∷ insert_entry R es k v)))
  all_by P Less k v e es here all later = (here, all)
  all_by P Equal k v e es here all later = all
  all_by P Greater k v e es here all later = (all.0, later)

  all_inserted : (P : K → Type 0) (es : List (K × V)) (k : K) (v : V) → P k → AllByRecursion P (keys_of es) → AllByRecursion P (keys_of (insert_entry R es k v))
  all_inserted P [] k v here all = (here, tt)
  all_inserted P (e ∷ es) k v here all = all_by P (R k e.0) k v e es here all (all_inserted P es k v here all.1)

  rises_by : (o : Ordering) (k : K) (v : V) (e : K × V) (es : List (K × V)) → R k e.0 ≡ o → IsStrictlySortedBy R (keys_of (e ∷ es)) → IsStrictlySortedBy R (keys_of (insert_entry R es k v))
      → IsStrictlySortedBy R (keys_of (match_ordering o ((k, v) ∷ e ∷ es) ((e.0, v) ∷ es) (e ∷ insert_entry R es k v)))
  unfolding IsStrictlySortedBy
  rises_by Less k v e es is sorted later = ((is, all_above R total k e.0 (keys_of es) is sorted.0), sorted)
  rises_by Equal k v e es is sorted later = sorted
  rises_by Greater k v e es is sorted later = (all_inserted (λ y. R e.0 y ≡ Less) es k v (total.antisymm e.0 k ∙ ap ordering_reverse is) sorted.0, later)

  pub inserted_rises : (es : List (K × V)) (k : K) (v : V) → IsStrictlySortedBy R (keys_of es) → IsStrictlySortedBy R (keys_of (insert_entry R es k v))
  unfolding IsStrictlySortedBy
  inserted_rises [] k v sorted = (tt, tt)
  inserted_rises (e ∷ es) k v sorted = rises_by (R k e.0) k v e es refl sorted (inserted_rises es k v sorted.1)
