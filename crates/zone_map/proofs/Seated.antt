-- A zone at its place in a list in order, or behind the last.
use Rattle.std.proofs.Common.{◌≡◌, ◌∙◌, ℕ, zero, suc, ◌-◌, ◌<◌, ◌≤◌, List, [], ◌∷◌, ◌++◌, Bool, true, false, not, ◌&&◌, length, get_or, slice_set, Some, None, refl, sym, ap, subst, arith}
use Rattle.std.specs.Prelude.{slice_get}
use Rattle.std.specs.BTreeMap.{insert_entry, is_at}
use Rattle.std.specs.declared.cmp.Ordering.{Ordering}
use Rattle.std.specs.declared.cmp.Ordering.TheVariants.{Less, Equal, Greater}
use Rattle.std.specs.Ordering.{is_eq, is_lt, ordering_reverse}
use Rattle.std.specs.List.{AllByRecursion, insert}
use Rattle.std.specs.List.Sorted.{IsStrictlySortedBy}
use Rattle.std.specs.Map.{keys_of, lookup}
use Rattle.hazard_types.specs.Places.{Place, by_place}
use Rattle.hazard_types.proofs.OrderLaws.{by_place_total, by_place_ties}
use Rattle.zone_map.specs.Rising.{is_entry_at, is_behind_last, comes_after_all, is_seat}

equal_is : (o : Ordering) → is_eq o ≡ true → o ≡ Equal
equal_is Less h = cc
equal_is Equal h = refl
equal_is Greater h = cc

less_is : (o : Ordering) → is_lt o ≡ true → o ≡ Less
less_is Less h = refl
less_is Equal h = cc
less_is Greater h = cc

equal_back : (p z : Place) → is_eq (by_place z p) ≡ true → by_place p z ≡ Equal
equal_back p z h = by_place_total.antisymm p z ∙ ap ordering_reverse (equal_is (by_place z p) h)

both : (a b : Bool) → a && b ≡ true → (a ≡ true) × (b ≡ true)
both true b h = (refl, h)
both false b h = cc

behind_is : (p z : Place) → by_place p z ≡ Less → by_place z p ≡ Greater
behind_is p z h = by_place_total.antisymm z p ∙ ap ordering_reverse h

-- a zone that is neither behind another nor the same is before it
before_is : (p z : Place) → not (is_lt (by_place p z)) ≡ true → is_at (by_place z) p ≡ false → by_place z p ≡ Less
before_is p z h n = by_order (by_place z p) (by_place p z) (by_place_total.antisymm p z) h n
  where
    by_order : (o q : Ordering) → q ≡ ordering_reverse o → not (is_lt q) ≡ true → is_eq o ≡ false → o ≡ Less
    by_order Less q is h n = refl
    by_order Equal q is h n = cc
    by_order Greater q is h n = let low : q ≡ Less = is in cc

low_too : (z p : Place) (ps : List Place) → by_place z p ≡ Less → AllByRecursion (λ (y : Place). by_place p y ≡ Less) ps → AllByRecursion (λ (y : Place). by_place z y ≡ Less) ps
low_too z p [] low all = tt
low_too z p (q ∷ ps) low all = (by_place_total.trans z p q low all.0, low_too z p ps low all.1)

module _ {V : Type 0} where
  -- a zone that stands among others which are all behind one
  behind_first : (p z : Place) (es : List (Place × V)) (i : ℕ) → AllByRecursion (λ (y : Place). by_place p y ≡ Less) (keys_of es) → is_entry_at es i z ≡ true → by_place p z ≡ Less
  behind_first p z [] i all h = cc
  behind_first p z (e ∷ es) zero all h = let one : z ≡ e.0 = by_place_ties z e.0 (equal_is (by_place z e.0) h) in subst (λ (q : Place). by_place p q ≡ Less) (sym one) all.0
  behind_first p z (e ∷ es) (suc i) all h = behind_first p z es i all.1 h

  pub within : (z : Place) (es : List (Place × V)) (i : ℕ) → is_entry_at es i z ≡ true → i < length es
  within z [] i h = cc
  within z (e ∷ es) zero h = omega arith
  within z (e ∷ es) (suc i) h = let more = within z es i h in omega (arith, more)

  pub found : (z : Place) (es : List (Place × V)) (i : ℕ) (d : Place × V) → IsStrictlySortedBy by_place (keys_of es) → is_entry_at es i z ≡ true → Some (get_or es i d).1 ≡ lookup (is_at (by_place z)) es
  unfolding IsStrictlySortedBy
  found z [] i d up h = cc
  found z (e ∷ es) zero d up h = rw h refl
  found z (e ∷ es) (suc i) d up h = rw (behind_is e.0 z (behind_first e.0 z es i up.0 h)) (found z es i d up.1 h)

  pub put : (z : Place) (v : V) (es : List (Place × V)) (i : ℕ) → IsStrictlySortedBy by_place (keys_of es) → is_entry_at es i z ≡ true → slice_set es i (z, v) ≡ insert_entry by_place es z v
  unfolding IsStrictlySortedBy
  put z v [] i up h = cc
  put z v (e ∷ es) zero up h =
      let tied : by_place z e.0 ≡ Equal = equal_is (by_place z e.0) h in
      rw tied (ap (λ (q : Place). (q, v) ∷ es) (by_place_ties z e.0 tied))
  put z v (e ∷ es) (suc i) up h = rw (behind_is e.0 z (behind_first e.0 z es i up.0 h)) (ap (λ (rest : List (Place × V)). e ∷ rest) (put z v es i up.1 h))

  pub keys-set : (z : Place) (v : V) (es : List (Place × V)) (i : ℕ) → is_entry_at es i z ≡ true → keys_of (slice_set es i (z, v)) ≡ keys_of es
  keys-set z v [] i h = cc
  keys-set z v (e ∷ es) zero h = ap (λ (q : Place). q ∷ keys_of es) (by_place_ties z e.0 (equal_is (by_place z e.0) h))
  keys-set z v (e ∷ es) (suc i) h = ap (λ (ks : List Place). e.0 ∷ ks) (keys-set z v es i h)

  pub put-sorted : (z : Place) (v : V) (es : List (Place × V)) (i : ℕ) → IsStrictlySortedBy by_place (keys_of es) → is_entry_at es i z ≡ true → IsStrictlySortedBy by_place (keys_of (slice_set es i (z, v)))
  put-sorted z v es i up h = subst (λ (ks : List Place). IsStrictlySortedBy by_place ks) (sym (keys-set z v es i h)) up

  -- behind the last

  abbrev pub IsBehind : Place → List (Place × V) → Type 0
  IsBehind z es = AllByRecursion (λ (q : Place). by_place q z ≡ Less) (keys_of es)

  pub behind_all : (z : Place) (es : List (Place × V)) → IsStrictlySortedBy by_place (keys_of es) → comes_after_all es z ≡ true → IsBehind z es
  unfolding IsStrictlySortedBy
  behind_all z [] up h = tt
  behind_all z (x ∷ []) up h = (less_is (by_place x.0 z) h, tt)
  behind_all z (x ∷ y ∷ ys) up h =
      let e : length (x ∷ y ∷ ys) - 1 ≡ suc (length (y ∷ ys) - 1) = omega arith in
      let h' : comes_after_all (y ∷ ys) z ≡ true = subst (λ (k : ℕ). is_behind_last (slice_get (x ∷ y ∷ ys) k) z ≡ true) e h in
      let rest = behind_all z (y ∷ ys) up.1 h' in
      (by_place_total.trans x.0 y.0 z up.0.0 rest.0, rest)

  pub put_behind : (z : Place) (v : V) (es : List (Place × V)) → IsBehind z es → es ++ (z, v) ∷ [] ≡ insert_entry by_place es z v
  put_behind z v [] all = refl
  put_behind z v (e ∷ es) all = rw (behind_is e.0 z all.0) (ap (λ (rest : List (Place × V)). e ∷ rest) (put_behind z v es all.1))

  -- ---- a seat

  pub seat_last : (z : Place) (es : List (Place × V)) → IsBehind z es → is_seat es (length es) z ≡ true
  seat_last z [] all = refl
  seat_last z (e ∷ es) all = rw all.0 (seat_last z es all.1)

  pub seat_there : (z : Place) (es : List (Place × V)) (i : ℕ) → IsStrictlySortedBy by_place (keys_of es) → is_entry_at es i z ≡ true → is_seat es i z ≡ true
  unfolding IsStrictlySortedBy
  seat_there z [] i up h = cc
  seat_there z (e ∷ es) zero up h = rw (equal_back e.0 z h) refl
  seat_there z (e ∷ es) (suc i) up h = rw (behind_first e.0 z es i up.0 h) (seat_there z es i up.1 h)

  pub seat_within : (z : Place) (es : List (Place × V)) (i : ℕ) → is_seat es i z ≡ true → i ≤ length es
  seat_within z [] zero h = omega arith
  seat_within z [] (suc i) h = cc
  seat_within z (e ∷ es) zero h = omega arith
  seat_within z (e ∷ es) (suc i) h = let more = seat_within z es i (both (is_lt (by_place e.0 z)) (is_seat es i z) h).1 in omega (arith, more)

  pub inserted : (z : Place) (v : V) (es : List (Place × V)) (i : ℕ) → is_seat es i z ≡ true → is_entry_at es i z ≡ false → insert es i (z, v) ≡ insert_entry by_place es z v
  inserted z v [] zero h n = refl
  inserted z v [] (suc i) h n = cc
  inserted z v (e ∷ es) zero h n = rw (before_is e.0 z h n) refl
  inserted z v (e ∷ es) (suc i) h n =
      let parts = both (is_lt (by_place e.0 z)) (is_seat es i z) h in
      rw (behind_is e.0 z (less_is (by_place e.0 z) parts.0)) (ap (λ (rest : List (Place × V)). e ∷ rest) (inserted z v es i parts.1 n))

  -- a zone before the first of some in order is none of them
  none_before : (z p : Place) (es : List (Place × V)) → by_place z p ≡ Less → AllByRecursion (λ (y : Place). by_place p y ≡ Less) (keys_of es) → None ≡ lookup (is_at (by_place z)) es
  none_before z p [] low all = refl
  none_before z p (e ∷ es) low all = rw (by_place_total.trans z p e.0 low all.0) (none_before z p es low all.1)

  pub none_there : (z : Place) (es : List (Place × V)) (i : ℕ) → IsStrictlySortedBy by_place (keys_of es) → is_seat es i z ≡ true → is_entry_at es i z ≡ false → None ≡ lookup (is_at (by_place z)) es
  unfolding IsStrictlySortedBy
  none_there z [] i up h n = refl
  none_there z (e ∷ es) zero up h n = let low = before_is e.0 z h n in rw low (none_before z e.0 es low up.0)
  none_there z (e ∷ es) (suc i) up h n =
      let parts = both (is_lt (by_place e.0 z)) (is_seat es i z) h in
      rw (behind_is e.0 z (less_is (by_place e.0 z) parts.0)) (none_there z es i up.1 parts.1 n)

  -- a list stays in order

  put_by : (P : Place → Type 0) (z : Place) (v : V) (e : Place × V) (es : List (Place × V)) (o : Ordering) → by_place z e.0 ≡ o → P z → P e.0 → AllByRecursion P (keys_of es)
      → AllByRecursion P (keys_of (insert_entry by_place es z v)) → AllByRecursion P (keys_of (insert_entry by_place (e ∷ es) z v))
  put_by P z v e es Less is p first all more = rw is (p, (first, all))
  put_by P z v e es Equal is p first all more = rw is (first, all)
  put_by P z v e es Greater is p first all more = rw is (first, more)

  all_put : (P : Place → Type 0) (z : Place) (v : V) (es : List (Place × V)) → AllByRecursion P (keys_of es) → P z → AllByRecursion P (keys_of (insert_entry by_place es z v))
  all_put P z v [] all p = (p, tt)
  all_put P z v (e ∷ es) all p = put_by P z v e es (by_place z e.0) refl p all.0 all.1 (all_put P z v es all.1 p)

  sorted_by : (z : Place) (v : V) (e : Place × V) (es : List (Place × V)) (o : Ordering) → by_place z e.0 ≡ o → IsStrictlySortedBy by_place (keys_of (e ∷ es))
      → IsStrictlySortedBy by_place (keys_of (insert_entry by_place es z v)) → IsStrictlySortedBy by_place (keys_of (insert_entry by_place (e ∷ es) z v))
  unfolding IsStrictlySortedBy
  sorted_by z v e es Less is up more = rw is ((is, low_too z e.0 (keys_of es) is up.0), up)
  sorted_by z v e es Equal is up more = rw is up
  sorted_by z v e es Greater is up more = rw is (all_put (λ (y : Place). by_place e.0 y ≡ Less) z v es up.0 (by_place_total.antisymm e.0 z ∙ ap ordering_reverse is), more)

  pub sorted_put : (z : Place) (v : V) (es : List (Place × V)) → IsStrictlySortedBy by_place (keys_of es) → IsStrictlySortedBy by_place (keys_of (insert_entry by_place es z v))
  unfolding IsStrictlySortedBy
  sorted_put z v [] up = (tt, tt)
  sorted_put z v (e ∷ es) up = sorted_by z v e es (by_place z e.0) refl up (sorted_put z v es up.1)
