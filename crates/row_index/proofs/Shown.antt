-- The rows that pass a test, event by event, are those of all rows that pass it.
use Rattle.std.proofs.Common.{◌≡◌, ◌∙◌, List, [], ◌∷◌, ◌++◌, Bool, true, false, cond, Option, Some, None, unwrap_or, Less, refl, ap, sym, subst}
use Rattle.std.specs.Prelude.{flat_map}
use Rattle.std.specs.BTreeMap.{is_at}
use Rattle.std.specs.List.{AllByRecursion, filter}
use Rattle.std.specs.List.Sorted.{IsStrictlySortedBy}
use Rattle.std.specs.Map.{keys_of, lookup, values_of}
use Rattle.hazard_types.specs.Orders.{by_event}
use Rattle.hazard_types.specs.Places.{Place}
use Rattle.hazard_types.specs.declared.hazard.Event.{Event}
use Rattle.hazard_types.specs.declared.line.Row.{Row}
use Rattle.event_life.specs.Products.{by_key, row_at}
use Rattle.event_life.proofs.FreeOrder.{told_by_keys}
use Rattle.event_life.proofs.Puts.{at_key, at_key-parts, none_above}
use Rattle.row_index.specs.Holding.{puts, told, AreHeld}
use Rattle.row_index.specs.Listing.{list_at}
use Rattle.row_index.proofs.HeldRows.{Rows, held-found, held-sorted, told-all, told-sorted}

module _ (p : Row → Bool) where
  -- of each event those that pass
  filtered : Rows → Rows
  filtered [] = []
  filtered (e ∷ es) = (e.0, filter p e.1) ∷ filtered es

  keys-filtered : (es : Rows) → keys_of (filtered es) ≡ keys_of es
  unfolding filtered
  keys-filtered [] = refl
  keys-filtered (e ∷ es) = ap (λ (ks : List Event). e.0 ∷ ks) (keys-filtered es)

  first_at : (b : Bool) (rows : List Row) (o q : Option (List Row)) → unwrap_or q [] ≡ filter p (unwrap_or o []) → unwrap_or (cond b (Some (filter p rows)) q) [] ≡ filter p (unwrap_or (cond b (Some rows) o) [])
  first_at true rows o q later = refl
  first_at false rows o q later = later

  at-filtered : (e : Event) (es : Rows) → list_at by_event (filtered es) e ≡ filter p (list_at by_event es e)
  unfolding filtered
  at-filtered e [] = refl
  at-filtered e (x ∷ es) = first_at (is_at (by_event e) x.0) x.1 (lookup (is_at (by_event e)) es) (lookup (is_at (by_event e)) (filtered es)) (at-filtered e es)

  all-filtered : (P : Row → Type 0) (rows : List Row) → AllByRecursion P rows → AllByRecursion P (filter p rows)
  all-filtered P [] all = tt
  all-filtered P (r ∷ rows) all = first (p r) (all-filtered P rows all.1)
    where
      first : (b : Bool) → AllByRecursion P (filter p rows) → AllByRecursion P (cond b (r ∷ filter p rows) (filter p rows))
      first true later = (all.0, later)
      first false later = later

  sorted-filtered : (rows : List Row) → IsStrictlySortedBy by_key rows → IsStrictlySortedBy by_key (filter p rows)
  unfolding IsStrictlySortedBy
  sorted-filtered [] up = tt
  sorted-filtered (r ∷ rows) up = first (p r) (sorted-filtered rows up.1)
    where
      first : (b : Bool) → IsStrictlySortedBy by_key (filter p rows) → IsStrictlySortedBy by_key (cond b (r ∷ filter p rows) (filter p rows))
      first true later = (all-filtered (λ (y : Row). by_key r y ≡ Less) rows up.0, later)
      first false later = later

  passing : Option Row → Option Row
  passing None = None
  passing (Some r) = cond (p r) (Some r) None

  found-filtered : (e : Event) (z : Place) (rows : List Row) → IsStrictlySortedBy by_key rows → row_at (filter p rows) e z ≡ passing (row_at rows e z)
  unfolding IsStrictlySortedBy passing
  found-filtered e z [] up = refl
  found-filtered e z (r ∷ rows) up = first (p r) (at_key e z r) refl refl (found-filtered e z rows up.1)
    where
      none : at_key e z r ≡ true → row_at rows e z ≡ None
      none here =
          let parts = at_key-parts e z r here in
          subst (λ (d : Event). row_at rows d z ≡ None) parts.0 (subst (λ (y : Place). row_at rows r.event y ≡ None) parts.1 (none_above r rows up.0))

      first : (b c : Bool) → p r ≡ b → at_key e z r ≡ c → row_at (filter p rows) e z ≡ passing (row_at rows e z) → row_at (cond b (r ∷ filter p rows) (filter p rows)) e z ≡ passing (cond c (Some r) (row_at rows e z))
      first true true h k later = rw (h, k) refl
      first true false h k later = rw k later
      first false true h k later = rw h (later ∙ ap passing (none k))
      first false false h k later = later

  owned-filtered : (es : Rows) → AllByRecursion (λ (e : Event × List Row). AllByRecursion (λ (r : Row). r.event ≡ e.0) e.1) es → AllByRecursion (λ (e : Event × List Row). AllByRecursion (λ (r : Row). r.event ≡ e.0) e.1) (filtered es)
  unfolding filtered
  owned-filtered [] each = tt
  owned-filtered (e ∷ es) each = (all-filtered (λ (r : Row). r.event ≡ e.0) e.1 each.0, owned-filtered es each.1)

  ordered-filtered : (es : Rows) → AllByRecursion (λ (e : Event × List Row). IsStrictlySortedBy by_key e.1) es → AllByRecursion (λ (e : Event × List Row). IsStrictlySortedBy by_key e.1) (filtered es)
  unfolding filtered
  ordered-filtered [] each = tt
  ordered-filtered (e ∷ es) each = (sorted-filtered e.1 each.0, ordered-filtered es each.1)

  held-filtered : (es : Rows) → AreHeld es → AreHeld (filtered es)
  held-filtered es held = record {
    ascending = subst (λ (ks : List Event). IsStrictlySortedBy by_event ks) (sym (keys-filtered es)) held.ascending;
    each = owned-filtered es held.each;
    in_order = ordered-filtered es held.in_order;
  }

  all-of : (es : Rows) → flat_map (filter p) (values_of es) ≡ flat_map (λ (rows : List Row). rows) (values_of (filtered es))
  unfolding filtered
  all-of [] = refl
  all-of (e ∷ es) = ap (λ (rows : List Row). filter p e.1 ++ rows) (all-of es)

  pub shown-told : (es : Rows) → AreHeld es → puts (flat_map (filter p) (values_of es)) [] ≡ filter p (told es)
  shown-told es held =
      ap (λ (rows : List Row). puts rows []) (all-of es)
      ∙ told-all (filtered es)
      ∙ told_by_keys (told (filtered es)) (filter p (told es)) (told-sorted (filtered es)) (sorted-filtered (told es) (told-sorted es)) (λ e z.
      held-found (filtered es) (held-filtered es held) e z
      ∙ ap (λ (rows : List Row). row_at rows e z) (at-filtered e es)
      ∙ found-filtered e z (list_at by_event es e) (held-sorted es e held)
      ∙ ap passing (sym (held-found es held e z))
      ∙ sym (found-filtered e z (told es) (told-sorted es)))
