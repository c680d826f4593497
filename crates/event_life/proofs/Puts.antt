-- Rows after a product: in order, each pair of zone and event once, and read off pointwise.
use Rattle.std.proofs.Common.{◌≡◌, ◌≢◌, ◌&&◌, not, ℕ, List, [], ◌∷◌, Bool, true, false, Option, Some, None, Ordering, Less, Equal, Greater, refl, sym, ap, ◌∙◌, cond}
use Rattle.std.proofs.lemmas.Bool.{and_parts, false_from_ne_true, not-true}
use Rattle.std.specs.List.{AllByRecursion}
use Rattle.std.specs.List.Sorted.{IsStrictlySortedBy}
use Rattle.std.specs.Ordering.{ordering_reverse}
use Rattle.hazard_types.specs.Places.{Place}
use Rattle.hazard_types.specs.Same.{same_zone, same_event}
use Rattle.hazard_types.specs.declared.hazard.Event.{Event}
use Rattle.hazard_types.specs.declared.line.Line.{Line}
use Rattle.hazard_types.specs.declared.line.Row.{Row}
use Rattle.event_life.specs.Products.{by_key, placed, put, row_at, row_after, is_routine, concerns, judged, lawful_of, put_all, rows_after}
use Rattle.hazard_types.proofs.Equality.{zone_one, event_one}
use Rattle.event_life.proofs.Keys.{by_key-total, key_exact, key_ties}

-- the row is of this event in this zone
abbrev pub at_key : Event → Place → Row → Bool
at_key e z r = same_event r.event e && same_zone r.zone z

pub at_key-parts : (e : Event) (z : Place) (r : Row) → at_key e z r ≡ true → (r.event ≡ e) × (r.zone ≡ z)
at_key-parts e z r h =
    let p = and_parts (same_event r.event e) _ h in
    (event_one r.event e p.0, zone_one r.zone z p.1)

at_key-same : (e : Event) (z : Place) (r s : Row) → r.zone ≡ s.zone → r.event ≡ s.event → at_key e z r ≡ at_key e z s
at_key-same e z r s p q = rw (p, q)

keys_apart : (e : Event) (z : Place) (r s : Row) → by_key r s ≢ Equal → at_key e z r ≡ true → at_key e z s ≡ false
keys_apart e z r s apart h = false_from_ne_true _ (λ g.
    let p = at_key-parts e z r h in
    let q = at_key-parts e z s g in
    apart (key_ties r s (p.1 ∙ sym q.1) (p.0 ∙ sym q.0)))

-- put

same_first : {X : Type 0} (b c : Bool) (x w y : X) → c ≡ b → cond b x y ≡ cond b x (cond c w y)
same_first true c x w y h = refl
same_first false true x w y h = cc
same_first false false x w y h = refl

either_first : {X : Type 0} (b c : Bool) (x w y : X) → (b ≡ true → c ≡ false) → cond c w (cond b x y) ≡ cond b x (cond c w y)
either_first true true x w y h = let e = h refl in cc
either_first true false x w y h = refl
either_first false c x w y h = refl

placed-at : (row r : Row) (rows : List Row) (e : Event) (z : Place) (o : Ordering) → by_key row r ≡ o →
    row_at (put row rows) e z ≡ cond (at_key e z row) (Some row) (row_at rows e z) →
    row_at (placed o row r rows (put row rows)) e z ≡ cond (at_key e z row) (Some row) (cond (at_key e z r) (Some r) (row_at rows e z))
placed-at row r rows e z Less h more = refl
placed-at row r rows e z Equal h more =
    let k = key_exact row r h in
    same_first (at_key e z row) (at_key e z r) (Some row) (Some r) (row_at rows e z) (at_key-same e z r row (sym k.0) (sym k.1))
placed-at row r rows e z Greater h more =
    ap (λ (x : Option Row). cond (at_key e z r) (Some r) x) more
    ∙ either_first (at_key e z row) (at_key e z r) (Some row) (Some r) (row_at rows e z) (keys_apart e z row r (λ g. let f : Greater ≡ Equal = sym h ∙ g in cc))

-- the row that was put is found at its key, and the others as before
pub row_at-put : (row : Row) (rows : List Row) (e : Event) (z : Place) →
    row_at (put row rows) e z ≡ cond (at_key e z row) (Some row) (row_at rows e z)
row_at-put row [] e z = refl
row_at-put row (r ∷ rows) e z = placed-at row r rows e z (by_key row r) refl (row_at-put row rows e z)

-- order

pub all_above : (row r : Row) (rows : List Row) → by_key row r ≡ Less → AllByRecursion (λ y. by_key r y ≡ Less) rows → AllByRecursion (λ y. by_key row y ≡ Less) rows
all_above row r [] h all = tt
all_above row r (y ∷ ys) h all = (by_key-total.trans row r y h all.0, all_above row r ys h all.1)

-- rows that come behind a row are not of its zone and event
pub none_above : (row : Row) (rows : List Row) → AllByRecursion (λ y. by_key row y ≡ Less) rows → row_at rows row.event row.zone ≡ None
none_above row [] all = refl
none_above row (r ∷ rows) all =
    let apart : at_key row.event row.zone r ≡ false = false_from_ne_true _ (λ h.
    let p = at_key-parts row.event row.zone r h in
    let tied : by_key row r ≡ Equal = key_ties row r (sym p.1) (sym p.0) in
    let less : by_key row r ≡ Less = all.0 in cc) in
    rw apart (none_above row rows all.1)

all_above_tied : (row r : Row) (rows : List Row) → by_key row r ≡ Equal → AllByRecursion (λ y. by_key r y ≡ Less) rows → AllByRecursion (λ y. by_key row y ≡ Less) rows
all_above_tied row r [] h all = tt
all_above_tied row r (y ∷ ys) h all = (by_key-total.congr row r y h ∙ all.0, all_above_tied row r ys h all.1)

placed-all : (P : Row → Type 0) (row r : Row) (rows behind : List Row) (o : Ordering) → P row → AllByRecursion P (r ∷ rows) → AllByRecursion P behind → AllByRecursion P (placed o row r rows behind)
placed-all P row r rows behind Less p all more = (p, all)
placed-all P row r rows behind Equal p all more = (p, all.1)
placed-all P row r rows behind Greater p all more = (all.0, more)

-- what holds of the row and of the rows holds after the row was put
pub put-all : (P : Row → Type 0) (row : Row) (rows : List Row) → P row → AllByRecursion P rows → AllByRecursion P (put row rows)
put-all P row [] p all = (p, tt)
put-all P row (r ∷ rows) p all = placed-all P row r rows (put row rows) (by_key row r) p all (put-all P row rows p all.1)

placed-sorted : (row r : Row) (rows : List Row) (o : Ordering) → by_key row r ≡ o →
    IsStrictlySortedBy by_key (r ∷ rows) → IsStrictlySortedBy by_key (put row rows) → IsStrictlySortedBy by_key (placed o row r rows (put row rows))
unfolding IsStrictlySortedBy
placed-sorted row r rows Less h up more = ((h, all_above row r rows h up.0), up)
placed-sorted row r rows Equal h up more = (all_above_tied row r rows h up.0, up.1)
placed-sorted row r rows Greater h up more =
    (put-all (λ y. by_key r y ≡ Less) row rows (by_key-total.antisymm r row ∙ ap ordering_reverse h) up.0, more)

-- rows stay in order, each pair once, where a row is put
pub put-sorted : (row : Row) (rows : List Row) → IsStrictlySortedBy by_key rows → IsStrictlySortedBy by_key (put row rows)
unfolding IsStrictlySortedBy
put-sorted row [] up = (tt, tt)
put-sorted row (r ∷ rows) up = placed-sorted row r rows (by_key row r) refl up (put-sorted row rows up.1)

pub put_all-sorted : (rows : List Row) (t : ℕ) (lines : List Line) (after : List Row) → IsStrictlySortedBy by_key after → IsStrictlySortedBy by_key (put_all rows t lines after)
put_all-sorted rows t [] after up = up
put_all-sorted rows t (line ∷ lines) after up = put_all-sorted rows t lines (put (row_after rows t line) after) (put-sorted (row_after rows t line) after up)

pub rows_after-sorted : (rows : List Row) (t : ℕ) (lines : List Line) → IsStrictlySortedBy by_key rows → IsStrictlySortedBy by_key (rows_after rows t lines)
unfolding rows_after
rows_after-sorted rows t lines up = put_all-sorted rows t (lawful_of (judged rows t lines)) rows up

-- a line of the event in the zone is no routine line, and names them
pub concerns-parts : (e : Event) (z : Place) (line : Line) → concerns e z line ≡ true → (is_routine line.action ≡ false) × (line.event ≡ e) × (line.zone ≡ z)
concerns-parts e z line h =
    let p = and_parts (not (is_routine line.action) && same_event line.event e) _ h in
    let q = and_parts (not (is_routine line.action)) _ p.0 in
    (not-true (is_routine line.action) q.0, event_one line.event e q.1, zone_one line.zone z p.1)
