-- The steps of lawful lines stand at the events and zones that have a row.
use Rattle.std.proofs.Common.{◌≡◌, ◌∙◌, ◌||◌, ℕ, List, [], ◌∷◌, Bool, true, false, cond, Ordering, Less, Equal, Greater, inl, inr, map, fold, refl, ap, sym, subst}
use Rattle.std.proofs.lemmas.Cmp.{tied_itself}
use Rattle.std.specs.BTreeMap.{is_at}
use Rattle.std.specs.BTreeSet.{insert_key}
use Rattle.std.specs.Cmp.{IsTotalOrder}
use Rattle.std.specs.List.{AllByRecursion, list_any}
use Rattle.std.specs.List.Sorted.{IsStrictlySortedBy}
use Rattle.std.specs.Map.{keys_of}
use Rattle.std.specs.Ordering.{ordering_reverse}
use Rattle.hazard_types.specs.declared.line.Line.{Line}
use Rattle.hazard_types.specs.declared.line.Row.{Row}
use Rattle.event_life.specs.Products.{by_key, put, row_after, lawful_of, put_all}
use Rattle.event_life.proofs.Members.{IsIn, of_all}
use Rattle.event_life.proofs.Puts.{put-sorted, put_all-sorted}
use Rattle.row_index.proofs.Tests.{any_insert, any_put_plain, insert-sorted, or_false}
use Rattle.product_decoder.specs.Runs.{Taken}
use Rattle.product_decoder.specs.declared.types.Track.{Track}
use Rattle.product_decoder.specs.Lives.{Living, by_living, by_life, add_living, living_in}
use Rattle.product_decoder.specs.Steps.{Step, Steps, steps_at, living_of, with_line, with_product, steps_of_all, track_at, track_told, tracks_told}
use Rattle.product_decoder.specs.Takings.{rows_with_taken, rows_taken, track_in}
use Rattle.product_decoder.proofs.LawLemmas.{tracks_sorted}
use Rattle.product_decoder.proofs.StepLemmas.{by_living_total, by_living_ties, keys_put, tracks_are}

-- two lists in order are one where the same tests find a member

module _ {K : Type 0} (cmp : K → K → Ordering) (total : IsTotalOrder cmp) (ties : (a b : K) → cmp a b ≡ Equal → a ≡ b) where
  own : (k : K) → is_at (cmp k) k ≡ true
  own k = rw (tied_itself total k) refl

  none_behind : (k : K) (xs : List K) → AllByRecursion (λ y. cmp k y ≡ Less) xs → list_any (is_at (cmp k)) xs ≡ false
  none_behind k [] all = refl
  none_behind k (x ∷ xs) all = rw (all.0) (none_behind k xs all.1)

  all_behind : (k x : K) (xs : List K) → cmp k x ≡ Less → AllByRecursion (λ y. cmp x y ≡ Less) xs → AllByRecursion (λ y. cmp k y ≡ Less) xs
  all_behind k x [] h all = tt
  all_behind k x (y ∷ ys) h all = (total.trans k x y h all.0, all_behind k x ys h all.1)

  -- what is asked of a list is asked of what stands behind a first
  tail_asked : (q : K → Bool) (x : K) (xs : List K) → AllByRecursion (λ y. cmp x y ≡ Less) xs → list_any (λ y. cond (is_at (cmp x) y) false (q y)) (x ∷ xs) ≡ list_any q xs
  tail_asked q x xs all = rw (own x) (behind xs all)
    where
      behind : (ys : List K) → AllByRecursion (λ y. cmp x y ≡ Less) ys → list_any (λ y. cond (is_at (cmp x) y) false (q y)) ys ≡ list_any q ys
      behind [] all = refl
      behind (y ∷ ys) all = rw (all.0) (ap (λ (b : Bool). q y || b) (behind ys all.1))

  abbrev AskedAlike : List K → List K → Type 0
  AskedAlike xs ys = (q : K → Bool) → list_any q xs ≡ list_any q ys

  not_first : (x y : K) (xs ys : List K) → cmp x y ≡ Less → AllByRecursion (λ z. cmp y z ≡ Less) ys → AskedAlike (x ∷ xs) (y ∷ ys) → ⊥
  not_first x y xs ys less up alike =
      let here : list_any (is_at (cmp x)) (x ∷ xs) ≡ true = rw (own x) refl in
      let none : list_any (is_at (cmp x)) (y ∷ ys) ≡ false = none_behind x (y ∷ ys) (less, all_behind x y ys less up) in
      let e : true ≡ false = sym here ∙ alike (is_at (cmp x)) ∙ none in
      cc

  pub same_sorted : (xs ys : List K) → IsStrictlySortedBy cmp xs → IsStrictlySortedBy cmp ys → AskedAlike xs ys → xs ≡ ys
  unfolding IsStrictlySortedBy
  same_sorted [] [] up up' alike = refl
  same_sorted [] (y ∷ ys) up up' alike = let e : false ≡ true = alike (λ _. true) in cc
  same_sorted (x ∷ xs) [] up up' alike = let e : true ≡ false = alike (λ _. true) in cc
  same_sorted (x ∷ xs) (y ∷ ys) up up' alike = by_first (cmp x y) refl (λ asked. same_sorted xs ys up.1 up'.1 asked)
    where
      by_first : (o : Ordering) → cmp x y ≡ o → (AskedAlike xs ys → xs ≡ ys) → x ∷ xs ≡ y ∷ ys
      by_first Less h later = absurd (not_first x y xs ys h up'.0 alike)
      by_first Greater h later = absurd (not_first y x ys xs (total.antisymm y x ∙ ap ordering_reverse h) up.0 (λ q. sym (alike q)))
      by_first Equal h later =
          let first = ties x y h in
          let below : AllByRecursion (λ z. cmp x z ≡ Less) ys = subst (λ (k : K). AllByRecursion (λ z. cmp k z ≡ Less) ys) (sym first) up'.0 in
          let asked : AskedAlike (x ∷ xs) (x ∷ ys) = subst (λ (k : K). AskedAlike (x ∷ xs) (k ∷ ys)) (sym first) alike in
          let rest = later (λ q. sym (tail_asked q x xs up.0) ∙ asked (λ z. cond (is_at (cmp x) z) false (q z)) ∙ tail_asked q x ys below) in
          λ i. first i ∷ rest i

-- the events and zones that have a row, with one row more

abbrev living_at : Row → Living
living_at r = record { event = r.event; zone = r.zone }

any_living : (q : Living → Bool) (living : List Living) (rows : List Row) → list_any q (fold add_living living rows) ≡ (list_any q living || list_any (λ (r : Row). q (living_at r)) rows)
any_living q living [] = sym (or_false (list_any q living))
any_living q living (r ∷ rows) =
    any_living q (add_living living r) rows
    ∙ ap (λ (b : Bool). b || list_any (λ (r : Row). q (living_at r)) rows) (any_insert by_living by_living_total by_living_ties q (living_at r) living)
    ∙ turned (q (living_at r)) (list_any q living) (list_any (λ (r : Row). q (living_at r)) rows)
  where
    turned : (a b c : Bool) → ((a || b) || c) ≡ (b || (a || c))
    turned true true c = refl
    turned true false c = refl
    turned false b c = refl

living_sorted : (living : List Living) (rows : List Row) → IsStrictlySortedBy by_living living → IsStrictlySortedBy by_living (fold add_living living rows)
living_sorted living [] up = up
living_sorted living (r ∷ rows) up = living_sorted (add_living living r) rows (insert-sorted by_living by_living_total by_living_ties (living_at r) living up)

living_up : (rows : List Row) → IsStrictlySortedBy by_living (living_in rows)
unfolding IsStrictlySortedBy
living_up rows = living_sorted [] rows tt

living_put : (row : Row) (rows : List Row) → IsStrictlySortedBy by_key rows → living_in (put row rows) ≡ insert_key by_living (living_in rows) (living_at row)
living_put row rows up =
    same_sorted by_living by_living_total by_living_ties (living_in (put row rows)) (insert_key by_living (living_in rows) (living_at row))
    (living_up (put row rows)) (insert-sorted by_living by_living_total by_living_ties (living_at row) (living_in rows) (living_up rows))
    (λ q. any_living q [] (put row rows)
    ∙ any_put_plain (λ (r : Row). q (living_at r)) (λ a b z e. λ i. q (record { event = e i; zone = z i })) row rows up
    ∙ ap (λ (b : Bool). q (living_at row) || b) (sym (any_living q [] rows))
    ∙ sym (any_insert by_living by_living_total by_living_ties q (living_at row) (living_in rows)))

-- the events and zones of steps

keys_lines : (rows : List Row) (t : ℕ) (steps : Steps) (lines : List Line) (after : List Row) → IsStrictlySortedBy by_key after → keys_of steps ≡ living_in after
    → keys_of (fold (with_line t) steps lines) ≡ living_in (put_all rows t lines after)
keys_lines rows t steps [] after up h = h
keys_lines rows t steps (line ∷ lines) after up h =
    let row = row_after rows t line in
    keys_lines rows t (with_line t steps line) lines (put row after) (put-sorted row after up)
    (keys_put by_living (living_of line) steps _ ∙ ap (λ (ks : List Living). insert_key by_living ks (living_of line)) h ∙ sym (living_put row after up))

keys_products : (steps : Steps) (rows : List Row) (taken : List Taken) → IsStrictlySortedBy by_key rows → keys_of steps ≡ living_in rows
    → keys_of (fold with_product steps taken) ≡ living_in (fold rows_with_taken rows taken)
keys_products steps rows [] up h = h
keys_products steps rows (t ∷ taken) up h =
    let lines = lawful_of t.judged in
    keys_products (with_product steps t) (rows_with_taken rows t) taken (put_all-sorted rows t.issue lines rows up) (keys_lines rows t.issue steps lines rows up h)

keys_are : (taken : List Taken) → keys_of (steps_of_all taken) ≡ living_in (rows_taken taken)
unfolding IsStrictlySortedBy
keys_are taken = keys_products [] [] taken tt refl

-- each is told by its own steps

in_keys : (es : Steps) (e : Living × List Step) → IsIn e es → IsIn e.0 (keys_of es)
in_keys [] e h = absurd h
in_keys (x ∷ es) e (inl is) = inl (ap (λ (y : Living × List Step). y.0) is)
in_keys (x ∷ es) e (inr h) = inr (in_keys es e h)

looked_own : (es : Steps) (e : Living × List Step) → IsStrictlySortedBy by_living (keys_of es) → IsIn e es → steps_at es e.0 ≡ e.1
unfolding IsStrictlySortedBy
looked_own [] e up h = absurd h
looked_own (x ∷ es) e up (inl is) = subst (λ (y : Living × List Step). steps_at (x ∷ es) y.0 ≡ y.1) is (rw (tied_itself by_living_total x.0) refl)
looked_own (x ∷ es) e up (inr h) =
    let less : by_living x.0 e.0 ≡ Less = of_all (λ y. by_living x.0 y ≡ Less) (keys_of es) e.0 up.0 (in_keys es e h) in
    let apart : by_living e.0 x.0 ≡ Greater = by_living_total.antisymm e.0 x.0 ∙ ap ordering_reverse less in
    rw apart (looked_own es e up.1 h)

told_each : (all es : Steps) → ((e : Living × List Step) → IsIn e es → steps_at all e.0 ≡ e.1) → map track_told es ≡ map (track_at all) (keys_of es)
told_each all [] each = refl
told_each all (e ∷ es) each =
    let first = each e (inl refl) in
    let later = told_each all es (λ x h. each x (inr h)) in
    λ i. record { event = e.0.event; zone = e.0.zone; steps = sym first i } ∷ later i

told_by_keys : (taken : List Taken) → map track_told (steps_of_all taken) ≡ map (track_at (steps_of_all taken)) (living_in (rows_taken taken))
told_by_keys taken =
    let steps = steps_of_all taken in
    let up = subst (λ (ks : List Living). IsStrictlySortedBy by_living ks) (sym (keys_are taken)) (living_up (rows_taken taken)) in
    told_each steps steps (λ e h. looked_own steps e up h) ∙ ap (λ (ks : List Living). map (track_at steps) ks) (keys_are taken)

-- the tracks that the steps tell are those of the rows
pub told_tracks : (taken : List Taken) → tracks_told (steps_of_all taken) ≡ map (track_in taken) (living_in (rows_taken taken))
told_tracks taken = told_by_keys taken ∙ tracks_are taken (living_in (rows_taken taken))

pub told_sorted : (taken : List Taken) → IsStrictlySortedBy by_life (tracks_told (steps_of_all taken))
told_sorted taken =
    subst (λ (tracks : List Track). IsStrictlySortedBy by_life tracks) (sym (told_by_keys taken)) (tracks_sorted (steps_of_all taken) (living_in (rows_taken taken)) (living_up (rows_taken taken)))
