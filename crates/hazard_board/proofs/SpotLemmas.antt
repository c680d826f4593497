-- Spots in order: where one stands, and what they tell of rows once a row is put.
use Rattle.std.proofs.Common.{◌≡◌, ◌≢◌, ◌∙◌, ◌||◌, ℕ, suc, ◌+◌, ◌<◌, List, [], ◌∷◌, Bool, true, false, Option, Some, None, Ordering, Less, Equal, Greater, refl, sym, ap, cond, find, is_eq, is_some, length, get_or, take, drop, drop-cons, arith}
use Rattle.std.specs.List.{AllByRecursion}
use Rattle.std.specs.List.Sorted.{IsStrictlySortedBy}
use Rattle.std.specs.Ordering.{nat_cmp, ordering_reverse}
use Rattle.std.specs.Cmp.{IsTotalOrder}
use Rattle.std.proofs.lemmas.Bool.{and_parts, false_from_ne_true}
use Rattle.std.proofs.lemmas.Cmp.{nat_cmp_total, on_total, then_total, tied_itself}
use Rattle.std.proofs.lemmas.List.Elements.{filter_agree}
use Rattle.hazard_types.specs.Places.{Place}
use Rattle.hazard_types.specs.Same.{same_event}
use Rattle.hazard_types.specs.declared.hazard.Event.{Event}
use Rattle.hazard_types.specs.declared.line.Line.{Line}
use Rattle.hazard_types.specs.declared.line.Row.{Row}
use Rattle.hazard_types.proofs.Equality.{event_one, event_itself, zone_one, zone_itself}
use Rattle.hazard_types.proofs.OrderLaws.{by_place_total, by_place_ties, by_event_total, by_event_ties}
use Rattle.event_life.specs.Products.{by_key, put, row_at}
use Rattle.event_life.proofs.Keys.{then_parts}
use Rattle.event_life.proofs.Puts.{at_key, row_at-put}
use Rattle.hazard_board.specs.Seats.{placed_at, put_at}
use Rattle.hazard_board.specs.Spots.{by_year, by_spot, is_spot, has_spot, spots_of, spot_of, put_spot, add_spot_if, AreSpots}
use Rattle.hazard_board.specs.Taken.{row_left, add_row_if_some, taken_in_turn}
use Rattle.hazard_board.specs.declared.spots.Spot.{Spot}
use Rattle.hazard_board.proofs.Places.{alike, is_tied, first_less}
use Rattle.hazard_board.proofs.Runs.{Rises, front, back, rises, run, keeps_put}
use Rattle.hazard_board.proofs.Turns.{put_held, fresh_longer}

-- the order

pub by_year_total : IsTotalOrder by_year
by_year_total = then_total (on_total (λ (e : Event). e.year) nat_cmp_total) (then_total (on_total (λ (e : Event). e.etn) nat_cmp_total) by_event_total)

pub year_ties : (a b : Event) → by_year a b ≡ Equal → a ≡ b
year_ties a b h = by_event_ties a b (then_parts (nat_cmp a.etn b.etn) _ (then_parts (nat_cmp a.year b.year) _ h).1).1

pub year_tied : (a b : Event) → is_eq (by_year a b) ≡ same_event a b
year_tied a b = alike _ _
    (λ h. let same = year_ties a b (is_tied (by_year a b) h) in rw same (event_itself b))
    (λ h. ap is_eq (ap (λ (e : Event). by_year a e) (sym (event_one a b h)) ∙ tied_itself by_year_total a))

pub by_spot-total : IsTotalOrder by_spot
by_spot-total = then_total (on_total (λ (s : Spot). s.event) by_year_total) (on_total (λ (s : Spot). s.zone) by_place_total)

spot_exact : (a b : Spot) → by_spot a b ≡ Equal → (a.event ≡ b.event) × (a.zone ≡ b.zone)
spot_exact a b h = let p = then_parts (by_year a.event b.event) _ h in (year_ties a.event b.event p.0, by_place_ties a.zone b.zone p.1)

spot_ties : (a b : Spot) → a.event ≡ b.event → a.zone ≡ b.zone → by_spot a b ≡ Equal
spot_ties a b p q = rw (p, q, tied_itself by_year_total b.event) (tied_itself by_place_total b.zone)

pub spot_parts : (e : Event) (z : Place) (s : Spot) → is_spot e z s ≡ true → (s.event ≡ e) × (s.zone ≡ z)
spot_parts e z s h = let p = and_parts (same_event s.event e) _ h in (event_one s.event e p.0, zone_one s.zone z p.1)

tie_is_spot : (s x : Spot) → is_eq (by_spot x s) ≡ is_spot s.event s.zone x
tie_is_spot s x = alike _ _
    (λ h. let key = spot_exact x s (is_tied (by_spot x s) h) in rw (key.0, key.1, event_itself s.event) (zone_itself s.zone))
    (λ h. let parts = spot_parts s.event s.zone x h in ap is_eq (spot_ties x s parts.0 parts.1))

spot_rises : (a b : Spot) → by_spot a b ≡ Less → by_spot a b ≢ Greater
spot_rises a b less g = cc

pub spots_rise : (s : Spot) (spots : List Spot) → IsStrictlySortedBy by_spot spots → Rises (λ x. by_spot x s) spots
spots_rise s spots up = rises by_spot-total by_spot (λ x. x) spot_rises s spots up

pub event_never_falls : (a b : Spot) → by_spot a b ≡ Less → by_year a.event b.event ≢ Greater
event_never_falls a b less = first_less (by_year a.event b.event) _ less

-- the spots of an event are a run
pub event_run : (e : Event) (spots : List Spot) → IsStrictlySortedBy by_spot spots →
    take (back (λ (s : Spot). by_year s.event e) (drop (front (λ (s : Spot). by_year s.event e) spots) spots)) (drop (front (λ (s : Spot). by_year s.event e) spots) spots) ≡ spots_of e spots
event_run e spots up =
    run (λ s. by_year s.event e) spots (rises by_year_total by_spot (λ s. s.event) event_never_falls e spots up)
    ∙ filter_agree (λ s. is_eq (by_year s.event e)) (λ s. same_event s.event e) (λ s. year_tied s.event e) spots

-- a list in order stays so where an item is put

module _ {X : Type 0} (R : X → X → Ordering) (total : IsTotalOrder R) where
  pub all_after : (a x : X) (xs : List X) → R a x ≡ Less → AllByRecursion (λ y. R x y ≡ Less) xs → AllByRecursion (λ y. R a y ≡ Less) xs
  all_after a x [] less all = tt
  all_after a x (y ∷ xs) less all = (total.trans a x y less all.0, all_after a x xs less all.1)

  pub all_tied : (a x : X) (xs : List X) → R x a ≡ Equal → AllByRecursion (λ y. R x y ≡ Less) xs → AllByRecursion (λ y. R a y ≡ Less) xs
  all_tied a x [] tie all = tt
  all_tied a x (y ∷ xs) tie all = (sym (total.congr x a y tie) ∙ all.0, all_tied a x xs tie all.1)

  put_step : (o : Ordering) (a x : X) (xs : List X) → R x a ≡ o → IsStrictlySortedBy R (x ∷ xs) → IsStrictlySortedBy R (put_at (λ y. R y a) a xs) → IsStrictlySortedBy R (placed_at o a x xs (put_at (λ y. R y a) a xs))
  unfolding IsStrictlySortedBy
  put_step Less a x xs h up more = (keeps_put (λ y. R y a) (λ y. R x y ≡ Less) a xs h up.0, more)
  put_step Equal a x xs h up more = (all_tied a x xs h up.0, up.1)
  put_step Greater a x xs h up more = let less : R a x ≡ Less = total.antisymm a x ∙ ap ordering_reverse h in ((less, all_after a x xs less up.0), up)

  pub put_in_order : (a : X) (xs : List X) → IsStrictlySortedBy R xs → IsStrictlySortedBy R (put_at (λ y. R y a) a xs)
  unfolding IsStrictlySortedBy
  put_in_order a [] up = (tt, tt)
  put_in_order a (x ∷ xs) up = put_step (R x a) a x xs refl up (put_in_order a xs up.1)

-- which spots there are after one is put

some_first : {X : Type 0} (b : Bool) (x : X) (o : Option X) → is_some (cond b (Some x) o) ≡ (b || is_some o)
some_first true x o = refl
some_first false x o = refl

pub has_cons : (s : Spot) (spots : List Spot) (e : Event) (z : Place) → has_spot (s ∷ spots) e z ≡ (is_spot e z s || has_spot spots e z)
has_cons s spots e z = some_first (is_spot e z s) s (find (is_spot e z) spots)

swap : (a b c : Bool) → (a || (b || c)) ≡ (b || (a || c))
swap true true c = refl
swap true false c = refl
swap false b c = refl

again : (a b c : Bool) → a ≡ b → (a || c) ≡ (a || (b || c))
again true b c h = refl
again false true c h = cc
again false false c h = refl

has_step : (o : Ordering) (s x : Spot) (spots : List Spot) (e : Event) (z : Place) → by_spot x s ≡ o →
    has_spot (put_spot s spots) e z ≡ (is_spot e z s || has_spot spots e z) →
    has_spot (placed_at o s x spots (put_spot s spots)) e z ≡ (is_spot e z s || has_spot (x ∷ spots) e z)
has_step Less s x spots e z h more =
    has_cons x (put_spot s spots) e z
    ∙ ap (λ (b : Bool). is_spot e z x || b) more
    ∙ swap (is_spot e z x) (is_spot e z s) (has_spot spots e z)
    ∙ ap (λ (b : Bool). is_spot e z s || b) (sym (has_cons x spots e z))
has_step Equal s x spots e z h more =
    let key = spot_exact x s h in
    let same : is_spot e z s ≡ is_spot e z x = rw (key.0, key.1) refl in
    has_cons s spots e z
    ∙ again (is_spot e z s) (is_spot e z x) (has_spot spots e z) same
    ∙ ap (λ (b : Bool). is_spot e z s || b) (sym (has_cons x spots e z))
has_step Greater s x spots e z h more = has_cons s (x ∷ spots) e z

has_put : (s : Spot) (spots : List Spot) (e : Event) (z : Place) → has_spot (put_spot s spots) e z ≡ (is_spot e z s || has_spot spots e z)
has_put s [] e z = has_cons s [] e z
has_put s (x ∷ spots) e z = has_step (by_spot x s) s x spots e z refl (has_put s spots e z)

-- and how many

none_behind : (s : Spot) (spots : List Spot) → AllByRecursion (λ y. by_spot s y ≡ Less) spots → has_spot spots s.event s.zone ≡ false
none_behind s [] all = refl
none_behind s (y ∷ spots) all =
    let other : is_spot s.event s.zone y ≡ false = false_from_ne_true _ (λ g.
    let p = spot_parts s.event s.zone y g in
    let tied : by_spot s y ≡ Equal = spot_ties s y (sym p.0) (sym p.1) in
    let less : by_spot s y ≡ Less = all.0 in cc) in
    has_cons y spots s.event s.zone ∙ ap (λ (b : Bool). b || has_spot spots s.event s.zone) other ∙ none_behind s spots all.1

abbrev one_more : Bool → ℕ
one_more there = cond there 0 1

long_step : (o : Ordering) (s x : Spot) (spots : List Spot) → by_spot x s ≡ o → AllByRecursion (λ y. by_spot x y ≡ Less) spots →
    length (put_spot s spots) ≡ length spots + one_more (has_spot spots s.event s.zone) →
    length (placed_at o s x spots (put_spot s spots)) ≡ length (x ∷ spots) + one_more (has_spot (x ∷ spots) s.event s.zone)
long_step Less s x spots h above more =
    let other : is_spot s.event s.zone x ≡ false = sym (tie_is_spot s x) ∙ ap is_eq h in
    let has = ap one_more (has_cons x spots s.event s.zone ∙ ap (λ (b : Bool). b || has_spot spots s.event s.zone) other) in
    omega (arith, more, has)
long_step Equal s x spots h above more =
    let own : is_spot s.event s.zone x ≡ true = sym (tie_is_spot s x) ∙ ap is_eq h in
    let has = ap one_more (has_cons x spots s.event s.zone ∙ ap (λ (b : Bool). b || has_spot spots s.event s.zone) own) in
    omega (arith, has)
long_step Greater s x spots h above more =
    let less : by_spot s x ≡ Less = by_spot-total.antisymm s x ∙ ap ordering_reverse h in
    let has = ap one_more (none_behind s (x ∷ spots) (less, all_after by_spot by_spot-total s x spots less above)) in
    omega (arith, has)

spots_longer : (s : Spot) (spots : List Spot) → IsStrictlySortedBy by_spot spots → length (put_spot s spots) ≡ length spots + one_more (has_spot spots s.event s.zone)
unfolding IsStrictlySortedBy
spots_longer s [] up = omega arith
spots_longer s (x ∷ spots) up = long_step (by_spot x s) s x spots refl up.0 (spots_longer s spots up.1)

some_none : (r : Row) (o : Option Row) → o ≡ Some r → o ≢ None
some_none r o h g = let never : ◌≡◌ {A = Option Row} (Some r) None = sym h ∙ g in cc

rows_longer : (o : Option Row) (row : Row) (rows : List Row) → row_at rows row.event row.zone ≡ o → IsStrictlySortedBy by_key rows → length (put row rows) ≡ length rows + one_more (is_some o)
rows_longer None row rows h up = fresh_longer row rows h
rows_longer (Some r) row rows h up =
    let same = put_held row rows up (some_none r (row_at rows row.event row.zone) h) in
    omega (arith, same)

-- the spots are those of the rows

spots_with : (row : Row) (rows : List Row) (spots : List Spot) → IsStrictlySortedBy by_key rows → AreSpots rows spots → AreSpots (put row rows) (put_spot (spot_of row) spots)
spots_with row rows spots up are = record {
  order = put_in_order by_spot by_spot-total (spot_of row) spots are.order;
  told = λ e z.
      has_put (spot_of row) spots e z
      ∙ ap (λ (b : Bool). at_key e z row || b) (are.told e z)
      ∙ sym (some_first (at_key e z row) row (row_at rows e z))
      ∙ ap is_some (sym (row_at-put row rows e z));
  count =
      let long = spots_longer (spot_of row) spots are.order in
      let rows_long = rows_longer (row_at rows row.event row.zone) row rows refl up in
      let has = ap one_more (are.told row.event row.zone) in
      omega (arith, long, rows_long, has, are.count);
}

pub spots_with_if : (o : Option Row) (rows : List Row) (spots : List Spot) → IsStrictlySortedBy by_key rows → AreSpots rows spots → AreSpots (add_row_if_some o rows) (add_spot_if o spots)
spots_with_if None rows spots up are = are
spots_with_if (Some row) rows spots up are = spots_with row rows spots up are

-- of no rows there are none
pub no_spots : AreSpots [] []
unfolding IsStrictlySortedBy
no_spots = record { order = tt; told = λ e z. refl; count = refl }

-- a line that is taken, and those behind it
pub turn_next : (t : ℕ) (now after target : List Row) (lines : List Line) (i : ℕ) (line : Line) (row : Option Row) → i < length lines → line ≡ get_or lines i line → row ≡ row_left now t line → after ≡ add_row_if_some row now →
    taken_in_turn t now (drop i lines) ≡ target → taken_in_turn t after (drop (i + 1) lines) ≡ target
turn_next t now after target lines i line row within is left put so_far =
    let next : suc i ≡ i + 1 = omega arith in
    let cut : drop i lines ≡ line ∷ drop (i + 1) lines = drop-cons lines i line within ∙ ap (λ (l : Line). l ∷ drop (suc i) lines) (sym is) ∙ ap (λ (n : ℕ). line ∷ drop n lines) next in
    ap (λ (rows : List Row). taken_in_turn t rows (drop (i + 1) lines)) (put ∙ ap (λ (o : Option Row). add_row_if_some o now) left)
    ∙ ap (taken_in_turn t now) (sym cut)
    ∙ so_far
