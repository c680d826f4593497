-- Rows of hazards that the desk issues, among others: a line of such a hazard looks at no others.
use Rattle.std.proofs.Common.{◌≡◌, ◌∙◌, ◌&&◌, ◌||◌, ◌==◌, ℕ, List, [], ◌∷◌, Bool, true, false, Option, Some, None, Ordering, Less, Equal, Greater, refl, sym, ap, cond, filter, find, fold, nat_lt, option_map}
use Rattle.std.specs.List.{AllByRecursion, list_any}
use Rattle.std.specs.List.Sorted.{IsStrictlySortedBy}
use Rattle.std.proofs.lemmas.Bool.{and_parts, both_ways, false_from_ne_true}
use Rattle.hazard_types.specs.Places.{Place}
use Rattle.hazard_types.specs.Same.{same_event, same_hazard}
use Rattle.hazard_types.specs.declared.hazard.Event.{Event}
use Rattle.hazard_types.specs.declared.hazard.Hazard.{Hazard}
use Rattle.hazard_types.specs.declared.line.Line.{Line}
use Rattle.hazard_types.specs.declared.line.Row.{Row}
use Rattle.hazard_types.proofs.Equality.{event_one, hazard_one}
use Rattle.event_life.specs.Periods.{is_live, keeps_open, same_at}
use Rattle.event_life.specs.Products.{by_key, latest_open_event, has_rows, has_opened_period, is_number_held, is_open, later_event, life_at, life_of, placed, put, row_at}
use Rattle.event_life.specs.Table.{opened_period}
use Rattle.event_life.proofs.Keys.{key_exact}
use Rattle.event_life.proofs.Puts.{all_above, at_key}
use Rattle.county_notices.specs.Apart.{is_desks}

abbrev pub is_kept : Row → Bool
is_kept r = is_desks r.event.hazard

abbrev pub keep : List Row → List Row
keep rows = filter is_kept rows

-- ---- what passes no other row looks at these alone

module _ (f : Row → Bool) (own : (r : Row) → f r ≡ true → is_kept r ≡ true) where
  not_passed : (r : Row) → is_kept r ≡ false → f r ≡ false
  not_passed r k = false_from_ne_true _ (λ h. both_ways _ k (own r h))

  any_by : (r : Row) (rows : List Row) (k : Bool) → is_kept r ≡ k → list_any f (keep rows) ≡ list_any f rows → list_any f (cond k (r ∷ keep rows) (keep rows)) ≡ (f r || list_any f rows)
  any_by r rows true is more = ap (λ (b : Bool). f r || b) more
  any_by r rows false is more = rw (not_passed r is) more

  pub any_kept : (rows : List Row) → list_any f (keep rows) ≡ list_any f rows
  any_kept [] = refl
  any_kept (r ∷ rows) = any_by r rows (is_kept r) refl (any_kept rows)

  find_by : (r : Row) (rows : List Row) (k : Bool) → is_kept r ≡ k → find f (keep rows) ≡ find f rows → find f (cond k (r ∷ keep rows) (keep rows)) ≡ cond (f r) (Some r) (find f rows)
  find_by r rows true is more = ap (λ (o : Option Row). cond (f r) (Some r) o) more
  find_by r rows false is more = rw (not_passed r is) more

  pub find_kept : (rows : List Row) → find f (keep rows) ≡ find f rows
  find_kept [] = refl
  find_kept (r ∷ rows) = find_by r rows (is_kept r) refl (find_kept rows)

  abbrev better : Option Event → Row → Option Event
  better best r = cond (f r) (later_event best r.event) best

  fold_by : (r : Row) (rows : List Row) (best : Option Event) (k : Bool) → is_kept r ≡ k → ((b : Option Event) → fold better b (keep rows) ≡ fold better b rows) → fold better best (cond k (r ∷ keep rows) (keep rows)) ≡ fold better (better best r) rows
  fold_by r rows best true is more = more (better best r)
  fold_by r rows best false is more = rw (not_passed r is) (more best)

  pub fold_kept : (rows : List Row) (best : Option Event) → fold better best (keep rows) ≡ fold better best rows
  fold_kept [] best = refl
  fold_kept (r ∷ rows) best = fold_by r rows best (is_kept r) refl (λ b. fold_kept rows b)

-- ---- what stands around a line

of_event : (e : Event) (r : Row) → is_desks e.hazard ≡ true → same_event r.event e ≡ true → is_kept r ≡ true
of_event e r own h = ap (λ (x : Event). is_desks x.hazard) (event_one r.event e h) ∙ own

of_hazard : (g : Hazard) (r : Row) → is_desks g ≡ true → same_hazard r.event.hazard g ≡ true → is_kept r ≡ true
of_hazard g r own h = ap is_desks (hazard_one r.event.hazard g h) ∙ own

module _ (rows : List Row) (t : ℕ) where
  pub row_kept : (e : Event) (z : Place) → is_desks e.hazard ≡ true → row_at (keep rows) e z ≡ row_at rows e z
  row_kept e z own = find_kept (at_key e z) (λ r h. of_event e r own (and_parts (same_event r.event e) _ h).0) rows

  pub life_kept : (line : Line) → is_desks line.event.hazard ≡ true → life_at (keep rows) line ≡ life_at rows line
  life_kept line own = ap (option_map life_of) (row_kept line.event line.zone own)

  pub has_kept : (e : Event) → is_desks e.hazard ≡ true → has_rows (keep rows) e ≡ has_rows rows e
  has_kept e own = any_kept (λ (r : Row). same_event r.event e) (λ r h. of_event e r own h) rows

  pub open_kept : (e : Event) → is_desks e.hazard ≡ true → is_open (keep rows) t e ≡ is_open rows t e
  open_kept e own = any_kept (λ (r : Row). same_event r.event e && keeps_open t r) (λ r h. of_event e r own (and_parts (same_event r.event e) _ h).0) rows

  pub held_kept : (e : Event) → is_desks e.hazard ≡ true → is_number_held (keep rows) t e ≡ is_number_held rows t e
  held_kept e own = any_kept (λ (r : Row). same_hazard r.event.hazard e.hazard && (r.event.etn == e.etn) && nat_lt r.event.year e.year && keeps_open t r)
      (λ r h. of_hazard e.hazard r own (and_parts (same_hazard r.event.hazard e.hazard) _ (and_parts (same_hazard r.event.hazard e.hazard && (r.event.etn == e.etn)) _ (and_parts (same_hazard r.event.hazard e.hazard && (r.event.etn == e.etn) && nat_lt r.event.year e.year) _ h).0).0).0) rows

  pub same_kept : (line : Line) → is_desks line.event.hazard ≡ true → has_opened_period (keep rows) t line ≡ has_opened_period rows t line
  same_kept line own = any_kept (λ (r : Row). same_event r.event line.event && is_live t r && same_at t r.period (opened_period line t))
      (λ r h. of_event line.event r own (and_parts (same_event r.event line.event) _ (and_parts (same_event r.event line.event && is_live t r) _ h).0).0) rows

  pub going_kept : (g : Hazard) (n : ℕ) → is_desks g ≡ true → latest_open_event (keep rows) g n t ≡ latest_open_event rows g n t
  going_kept g n own = fold_kept (λ (r : Row). same_hazard r.event.hazard g && (r.event.etn == n) && keeps_open t r)
      (λ r h. of_hazard g r own (and_parts (same_hazard r.event.hazard g) _ (and_parts (same_hazard r.event.hazard g && (r.event.etn == n)) _ h).0).0) rows None

-- ---- rows that are put

first_less : (row : Row) (rows : List Row) → AllByRecursion (λ y. by_key row y ≡ Less) rows → put row rows ≡ row ∷ rows
first_less row [] all = refl
first_less row (r ∷ rows) all = rw all.0 refl

all_keep : (P : Row → Type 0) (rows : List Row) → AllByRecursion P rows → AllByRecursion P (keep rows)
all_keep P rows all = Rattle.action_planner.proofs.LawfulLists.all_kept P is_kept rows all

same_kind : (row r : Row) → by_key row r ≡ Equal → is_kept row ≡ is_kept r
same_kind row r is = ap (λ (x : Event). is_desks x.hazard) (key_exact row r is).1

-- a row of the desk's
put_by : (row r : Row) (rows : List Row) (o : Ordering) (k : Bool) → by_key row r ≡ o → is_kept r ≡ k → is_kept row ≡ true → AllByRecursion (λ y. by_key r y ≡ Less) rows → keep (put row rows) ≡ put row (keep rows) →
    keep (placed o row r rows (put row rows)) ≡ put row (cond k (r ∷ keep rows) (keep rows))
put_by row r rows Less true is kind own up more = rw (own, kind, is) refl
put_by row r rows Less false is kind own up more =
    rw (own, kind) (sym (first_less row (keep rows) (all_keep (λ y. by_key row y ≡ Less) rows (all_above row r rows is up))))
put_by row r rows Equal true is kind own up more = rw (own, is) refl
put_by row r rows Equal false is kind own up more = absurd (both_ways _ kind (sym (same_kind row r is) ∙ own))
put_by row r rows Greater true is kind own up more = rw (kind, is) (ap (λ (rs : List Row). r ∷ rs) more)
put_by row r rows Greater false is kind own up more = rw kind more

pub put_kept : (row : Row) (rows : List Row) → IsStrictlySortedBy by_key rows → is_kept row ≡ true → keep (put row rows) ≡ put row (keep rows)
unfolding IsStrictlySortedBy
put_kept row [] up own = rw own refl
put_kept row (r ∷ rows) up own = put_by row r rows (by_key row r) (is_kept r) refl refl own up.0 (put_kept row rows up.1 own)

-- another row
other_by : (row r : Row) (rows : List Row) (o : Ordering) → by_key row r ≡ o → is_kept row ≡ false → keep (put row rows) ≡ keep rows → keep (placed o row r rows (put row rows)) ≡ cond (is_kept r) (r ∷ keep rows) (keep rows)
other_by row r rows Less is own more = rw own refl
other_by row r rows Equal is own more = rw (own, sym (same_kind row r is) ∙ own) refl
other_by row r rows Greater is own more = ap (λ (rs : List Row). cond (is_kept r) (r ∷ rs) rs) more

pub put_other : (row : Row) (rows : List Row) → is_kept row ≡ false → keep (put row rows) ≡ keep rows
put_other row [] own = rw own refl
put_other row (r ∷ rows) own = other_by row r rows (by_key row r) refl own (put_other row rows own)
