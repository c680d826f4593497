-- The rows of an event are those at its spots.
use Rattle.std.proofs.Common.{◌≡◌, ◌∙◌, ◌||◌, ℕ, suc, ◌+◌, ◌<◌, List, [], ◌∷◌, Bool, true, false, Option, Some, None, Ordering, Less, Equal, refl, sym, ap, cond, filter, find, is_some, length, get_or, drop, drop-cons, arith}
use Rattle.std.specs.List.{AllByRecursion, list_any}
use Rattle.std.specs.List.Sorted.{IsStrictlySortedBy}
use Rattle.std.specs.Ordering.{ordering_then}
use Rattle.std.proofs.lemmas.Cmp.{tied_itself}
use Rattle.std.proofs.lemmas.List.Kept.{IsStrictlySortedBy-filter}
use Rattle.hazard_types.specs.Places.{Place, by_place}
use Rattle.hazard_types.specs.Same.{same_event}
use Rattle.hazard_types.specs.declared.hazard.Event.{Event}
use Rattle.hazard_types.specs.declared.line.Row.{Row}
use Rattle.hazard_types.specs.declared.period.Period.{Period}
use Rattle.hazard_types.proofs.Equality.{event_one}
use Rattle.event_life.specs.Products.{by_key, row_at, has_rows}
use Rattle.event_life.proofs.FreeOrder.{told_by_keys}
use Rattle.event_life.proofs.LivesLemmas.{find-passes}
use Rattle.event_life.proofs.Puts.{at_key, at_key-parts}
use Rattle.hazard_board.specs.Spots.{by_year, by_spot, is_spot, has_spot, spots_of, first_found, rows_on, rows_of_event, first_of, has_opened_period, has_same_if, AreSpots}
use Rattle.hazard_board.specs.declared.spots.Spot.{Spot}
use Rattle.hazard_board.proofs.Runs.{all_that_pass}
use Rattle.hazard_board.proofs.SpotLemmas.{by_year_total, spot_parts, has_cons}

-- a search among those that pass a test
find_step : {X : Type 0} (p q : X → Bool) (a b c : Bool) (x : X) (xs : List X) → p x ≡ a → q x ≡ b → (b ≡ true → a ≡ c) → find q (filter p xs) ≡ cond c (find q xs) None → find q (filter p (x ∷ xs)) ≡ cond c (find q (x ∷ xs)) None
find_step p q true true c x xs e f h more = rw (e, f, sym (h refl)) refl
find_step p q true false c x xs e f h more = rw (e, f) more
find_step p q false true c x xs e f h more = rw (e, f) (more ∙ rw (sym (h refl)) refl)
find_step p q false false c x xs e f h more = rw (e, f) more

find_kept : {X : Type 0} (p q : X → Bool) (c : Bool) → ((x : X) → q x ≡ true → p x ≡ c) → (xs : List X) → find q (filter p xs) ≡ cond c (find q xs) None
find_kept {X} p q true h [] = refl
find_kept {X} p q false h [] = refl
find_kept p q c h (x ∷ xs) = find_step p q (p x) (q x) c x xs refl refl (h x) (find_kept p q c h xs)

-- spots of one event

all_kept : (e : Event) (spots : List Spot) → AllByRecursion (λ (s : Spot). s.event ≡ e) (spots_of e spots)
all_kept e spots = all_that_pass (λ (s : Spot). s.event ≡ e) (λ (s : Spot). same_event s.event e) (λ s own. event_one s.event e own) spots

found_key : (rows : List Row) (s : Spot) (r : Row) → row_at rows s.event s.zone ≡ Some r → (r.event ≡ s.event) × (r.zone ≡ s.zone)
found_key rows s r found = at_key-parts s.event s.zone r (find-passes (at_key s.event s.zone) rows r found)

row_less : (e : Event) (rows : List Row) (s y : Spot) (r q : Row) → s.event ≡ e → y.event ≡ e → r.zone ≡ s.zone → row_at rows y.event y.zone ≡ Some q → by_spot s y ≡ Less → by_key r q ≡ Less
row_less e rows s y r q own own_too zone found less =
    let tie : by_year s.event y.event ≡ Equal = ap (λ (d : Event). by_year s.event d) (own_too ∙ sym own) ∙ tied_itself by_year_total s.event in
    let zones : by_place s.zone y.zone ≡ Less = sym (ap (λ (o : Ordering). ordering_then o (by_place s.zone y.zone)) tie) ∙ less in
    let here : by_place r.zone q.zone ≡ Less = ap (λ (z : Place). by_place z q.zone) zone ∙ ap (by_place s.zone) (found_key rows y q found).1 ∙ zones in
    rw here refl

above_step : (o : Option Row) (e : Event) (rows : List Row) (s y : Spot) (r : Row) (behind : List Row) → row_at rows y.event y.zone ≡ o → s.event ≡ e → y.event ≡ e → r.zone ≡ s.zone → by_spot s y ≡ Less →
    AllByRecursion (λ (q : Row). by_key r q ≡ Less) behind → AllByRecursion (λ (q : Row). by_key r q ≡ Less) (first_found o behind)
above_step None e rows s y r behind found own own_too zone less more = more
above_step (Some q) e rows s y r behind found own own_too zone less more = (row_less e rows s y r q own own_too zone found less, more)

rows_above : (e : Event) (rows : List Row) (s : Spot) (r : Row) (spots : List Spot) → s.event ≡ e → r.zone ≡ s.zone → AllByRecursion (λ (y : Spot). y.event ≡ e) spots → AllByRecursion (λ y. by_spot s y ≡ Less) spots →
    AllByRecursion (λ (q : Row). by_key r q ≡ Less) (rows_on rows spots)
rows_above e rows s r [] own zone all above = tt
rows_above e rows s r (y ∷ spots) own zone all above = above_step (row_at rows y.event y.zone) e rows s y r (rows_on rows spots) refl own all.0 zone above.0 (rows_above e rows s r spots own zone all.1 above.1)

order_step : (o : Option Row) (e : Event) (rows : List Row) (s : Spot) (spots : List Spot) → row_at rows s.event s.zone ≡ o → s.event ≡ e → AllByRecursion (λ (y : Spot). y.event ≡ e) spots → AllByRecursion (λ y. by_spot s y ≡ Less) spots →
    IsStrictlySortedBy by_key (rows_on rows spots) → IsStrictlySortedBy by_key (first_found o (rows_on rows spots))
unfolding IsStrictlySortedBy
order_step None e rows s spots found own all above more = more
order_step (Some r) e rows s spots found own all above more = (rows_above e rows s r spots own (found_key rows s r found).1 all above, more)

rows_in_order : (e : Event) (rows : List Row) (spots : List Spot) → AllByRecursion (λ (y : Spot). y.event ≡ e) spots → IsStrictlySortedBy by_spot spots → IsStrictlySortedBy by_key (rows_on rows spots)
unfolding IsStrictlySortedBy
rows_in_order e rows [] all up = tt
rows_in_order e rows (s ∷ spots) all up = order_step (row_at rows s.event s.zone) e rows s spots refl all.0 all.1 up.0 (rows_in_order e rows spots all.1 up.1)

-- what is found at spots

none_both : (b : Bool) (o : Option Row) → o ≡ None → cond b o None ≡ None
none_both true o h = h
none_both false o h = refl

found_step : (o : Option Row) (b : Bool) (rows : List Row) (s : Spot) (spots : List Spot) (d : Event) (z : Place) → row_at rows s.event s.zone ≡ o → is_spot d z s ≡ b →
    row_at (rows_on rows spots) d z ≡ cond (has_spot spots d z) (row_at rows d z) None →
    row_at (first_found o (rows_on rows spots)) d z ≡ cond (b || has_spot spots d z) (row_at rows d z) None
found_step None true rows s spots d z found own more =
    let p = spot_parts d z s own in
    let none : row_at rows d z ≡ None = ap (λ (e : Event). row_at rows e z) (sym p.0) ∙ ap (row_at rows s.event) (sym p.1) ∙ found in
    more ∙ none_both (has_spot spots d z) (row_at rows d z) none ∙ sym none
found_step None false rows s spots d z found own more = more
found_step (Some r) true rows s spots d z found own more =
    let p = spot_parts d z s own in
    let key = found_key rows s r found in
    let here : at_key d z r ≡ true = rw (key.0, key.1) own in
    let there : row_at rows d z ≡ Some r = ap (λ (e : Event). row_at rows e z) (sym p.0) ∙ ap (row_at rows s.event) (sym p.1) ∙ found in
    rw here (sym there)
found_step (Some r) false rows s spots d z found own more =
    let key = found_key rows s r found in
    let here : at_key d z r ≡ false = rw (key.0, key.1) own in
    rw here more

found_on : (rows : List Row) (spots : List Spot) (d : Event) (z : Place) → row_at (rows_on rows spots) d z ≡ cond (has_spot spots d z) (row_at rows d z) None
found_on rows [] d z = refl
found_on rows (s ∷ spots) d z =
    found_step (row_at rows s.event s.zone) (is_spot d z s) rows s spots d z refl refl (found_on rows spots d z)
    ∙ ap (λ (b : Bool). cond b (row_at rows d z) None) (sym (has_cons s spots d z))

some_or_none : (c : Bool) (o : Option Spot) (r : Option Row) → is_some o ≡ is_some r → cond (is_some (cond c o None)) r None ≡ cond c r None
some_or_none true None None h = refl
some_or_none true (Some s) (Some r) h = refl
some_or_none true None (Some r) h = cc
some_or_none true (Some s) None h = refl
some_or_none false o r h = refl

module _ (e : Event) (rows : List Row) (spots : List Spot) (up : IsStrictlySortedBy by_key rows) (are : AreSpots rows spots) where
  found_alike : (d : Event) (z : Place) → row_at (rows_on rows (spots_of e spots)) d z ≡ row_at (rows_of_event e rows) d z
  found_alike d z =
      let spot = find_kept (λ (s : Spot). same_event s.event e) (is_spot d z) (same_event d e) (λ s h. ap (λ (x : Event). same_event x e) (spot_parts d z s h).0) spots in
      let row = find_kept (λ (r : Row). same_event r.event e) (at_key d z) (same_event d e) (λ r h. ap (λ (x : Event). same_event x e) (at_key-parts d z r h).0) rows in
      found_on rows (spots_of e spots) d z
      ∙ ap (λ (o : Option Spot). cond (is_some o) (row_at rows d z) None) spot
      ∙ some_or_none (same_event d e) (find (is_spot d z) spots) (row_at rows d z) (are.told d z)
      ∙ sym row

  pub rows_are : rows_on rows (spots_of e spots) ≡ rows_of_event e rows
  rows_are =
      told_by_keys (rows_on rows (spots_of e spots)) (rows_of_event e rows)
      (rows_in_order e rows (spots_of e spots) (all_kept e spots) (IsStrictlySortedBy-filter by_spot (λ (s : Spot). same_event s.event e) spots are.order))
      (IsStrictlySortedBy-filter by_key (λ (r : Row). same_event r.event e) rows up)
      found_alike

-- what the rows of an event tell, which are those at a run of spots

first_step : (b : Bool) (e : Event) (r : Row) (rows : List Row) → same_event r.event e ≡ b → first_of (rows_of_event e rows) ≡ find (λ (r : Row). same_event r.event e) rows → first_of (rows_of_event e (r ∷ rows)) ≡ find (λ (r : Row). same_event r.event e) (r ∷ rows)
first_step true e r rows own more = rw own refl
first_step false e r rows own more = rw own more

first_of_event : (e : Event) (rows : List Row) → first_of (rows_of_event e rows) ≡ find (λ (r : Row). same_event r.event e) rows
first_of_event e [] = refl
first_of_event e (r ∷ rows) = first_step (same_event r.event e) e r rows refl (first_of_event e rows)

pub first_is : (e : Event) (rows : List Row) (spots run : List Spot) → IsStrictlySortedBy by_key rows → AreSpots rows spots → run ≡ spots_of e spots → first_of (rows_on rows run) ≡ find (λ (r : Row). same_event r.event e) rows
first_is e rows spots run up are is = ap (λ (some : List Spot). first_of (rows_on rows some)) is ∙ ap first_of (rows_are e rows spots up are) ∙ first_of_event e rows

has_step : (b : Bool) (e : Event) (r : Row) (rows : List Row) → same_event r.event e ≡ b → is_some (find (λ (r : Row). same_event r.event e) rows) ≡ has_rows rows e → is_some (find (λ (r : Row). same_event r.event e) (r ∷ rows)) ≡ has_rows (r ∷ rows) e
has_step true e r rows own more = rw own refl
has_step false e r rows own more = rw own more

-- an event has rows where a first one is found
pub found_has : (e : Event) (rows : List Row) → is_some (find (λ (r : Row). same_event r.event e) rows) ≡ has_rows rows e
found_has e [] = refl
found_has e (r ∷ rows) = has_step (same_event r.event e) e r rows refl (found_has e rows)

-- spot by spot

first_some : (o : Option Row) (behind : List Row) → is_some o ≡ true → first_of (first_found o behind) ≡ o
first_some None behind h = cc
first_some (Some r) behind h = refl

none_first : (o : Option Row) (behind : List Row) → is_some o ≡ false → first_found o behind ≡ behind
none_first None behind h = refl
none_first (Some r) behind h = cc

any_first : (p : Period) (t : ℕ) (o : Option Row) (behind : List Row) → list_any (has_opened_period p t) (first_found o behind) ≡ (has_same_if p t o || list_any (has_opened_period p t) behind)
any_first p t None behind = refl
any_first p t (Some r) behind = refl

module _ (rows : List Row) (run : List Spot) (i : ℕ) (s : Spot) (o : Option Row) (within : i < length run) (is : s ≡ get_or run i s) (found : o ≡ row_at rows s.event s.zone) where
  cut : rows_on rows (drop i run) ≡ first_found o (rows_on rows (drop (i + 1) run))
  cut =
      let next : suc i ≡ i + 1 = omega arith in
      ap (rows_on rows) (drop-cons run i s within ∙ ap (λ (x : Spot). x ∷ drop (suc i) run) (sym is))
      ∙ ap (λ (n : ℕ). first_found (row_at rows s.event s.zone) (rows_on rows (drop n run))) next
      ∙ ap (λ (p : Option Row). first_found p (rows_on rows (drop (i + 1) run))) (sym found)

  pub first_here : is_some o ≡ true → first_of (rows_on rows (drop i run)) ≡ o
  first_here h = ap first_of cut ∙ first_some o (rows_on rows (drop (i + 1) run)) h

  pub first_later : is_some o ≡ false → first_of (rows_on rows (drop i run)) ≡ first_of (rows_on rows (drop (i + 1) run))
  first_later h = ap first_of (cut ∙ none_first o (rows_on rows (drop (i + 1) run)) h)

  pub same_next : (p : Period) (t : ℕ) → list_any (has_opened_period p t) (rows_on rows (drop i run)) ≡ (has_same_if p t o || list_any (has_opened_period p t) (rows_on rows (drop (i + 1) run)))
  same_next p t = ap (list_any (has_opened_period p t)) cut ∙ any_first p t o (rows_on rows (drop (i + 1) run))
