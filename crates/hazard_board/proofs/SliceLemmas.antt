-- A zone's rows under rows that are put, and under lines.
use Rattle.std.proofs.Common.{◌≡◌, ◌∙◌, ◌||◌, ℕ, List, [], ◌∷◌, Bool, true, false, None, Result, Ok, Err, Ordering, Less, Equal, Greater, refl, sym, ap, cond, fold}
use Rattle.std.specs.List.{AllByRecursion, list_any}
use Rattle.std.specs.List.Sorted.{IsStrictlySortedBy}
use Rattle.hazard_types.specs.Places.{Place}
use Rattle.hazard_types.specs.Same.{same_zone}
use Rattle.hazard_types.specs.declared.line.Line.{Line}
use Rattle.hazard_types.specs.declared.line.Row.{Row}
use Rattle.event_life.specs.declared.life.Breach.{Breach}
use Rattle.event_life.specs.declared.life.Life.{Life}
use Rattle.event_life.specs.Table.{step}
use Rattle.event_life.specs.Products.{by_key, placed, put, row_of, life_at, is_routine}
use Rattle.event_life.proofs.Puts.{all_above}
use Rattle.event_life.proofs.Keys.{key_exact}
use Rattle.hazard_board.specs.Board.{slice_of}
use Rattle.hazard_board.specs.ByZone.{lines_of}
use Rattle.hazard_board.specs.Taken.{wanted, row_if, row_left, add_row_if_some, rows_taken}
use Rattle.hazard_board.proofs.Turns.{add_row_if_some-sorted}

-- the lines speak of the zone
abbrev pub names_zone : Place → List Line → Bool
names_zone z lines = list_any (λ (line : Line). same_zone line.zone z) lines

-- a row that is put, in the slice of a zone

kept : (z : Place) (b : Bool) (r : Row) (rows : List Row) → same_zone r.zone z ≡ b → slice_of z (r ∷ rows) ≡ cond b (r ∷ slice_of z rows) (slice_of z rows)
kept z b r rows is = ap (λ (c : Bool). cond c (r ∷ slice_of z rows) (slice_of z rows)) is

slice_above : (z : Place) (row : Row) (rows : List Row) → AllByRecursion (λ y. by_key row y ≡ Less) rows → AllByRecursion (λ y. by_key row y ≡ Less) (slice_of z rows)
slice_above z row [] all = tt
slice_above z row (r ∷ rows) all =
    let step : (b : Bool) → AllByRecursion (λ y. by_key row y ≡ Less) (cond b (r ∷ slice_of z rows) (slice_of z rows)) =
    λ b. elim b as (λ b. AllByRecursion (λ y. by_key row y ≡ Less) (cond b (r ∷ slice_of z rows) (slice_of z rows))) [
      | true ↦ (all.0, slice_above z row rows all.1)
      | false ↦ slice_above z row rows all.1
    ] in
    step (same_zone r.zone z)

-- a row before all others is put in front
put_front : (row : Row) (rows : List Row) → AllByRecursion (λ y. by_key row y ≡ Less) rows → put row rows ≡ row ∷ rows
put_front row [] all = refl
put_front row (r ∷ rows) all = rw (all.0) refl

own_step : (o : Ordering) (b : Bool) (z : Place) (row r : Row) (rows : List Row) → by_key row r ≡ o → same_zone row.zone z ≡ true → same_zone r.zone z ≡ b → AllByRecursion (λ y. by_key r y ≡ Less) rows →
    slice_of z (put row rows) ≡ put row (slice_of z rows) → slice_of z (placed o row r rows (put row rows)) ≡ put row (slice_of z (r ∷ rows))
own_step Less true z row r rows h own is above more = rw (own, is, h) refl
own_step Less false z row r rows h own is above more = rw (own, is) (sym (put_front row (slice_of z rows) (slice_above z row rows (all_above row r rows h above))))
own_step Equal true z row r rows h own is above more = rw (own, is, h) refl
own_step Equal false z row r rows h own is above more = let never : true ≡ false = sym own ∙ ap (λ (p : Place). same_zone p z) (key_exact row r h).0 ∙ is in cc
own_step Greater true z row r rows h own is above more = rw (is, h) (ap (λ (xs : List Row). r ∷ xs) more)
own_step Greater false z row r rows h own is above more = rw is more

pub slice_put : (z : Place) (row : Row) (rows : List Row) → same_zone row.zone z ≡ true → IsStrictlySortedBy by_key rows → slice_of z (put row rows) ≡ put row (slice_of z rows)
unfolding IsStrictlySortedBy
slice_put z row [] own up = rw own refl
slice_put z row (r ∷ rows) own up = own_step (by_key row r) (same_zone r.zone z) z row r rows refl own refl up.0 (slice_put z row rows own up.1)

other_step : (o : Ordering) (z : Place) (row r : Row) (rows : List Row) → by_key row r ≡ o → same_zone row.zone z ≡ false → slice_of z (put row rows) ≡ slice_of z rows → slice_of z (placed o row r rows (put row rows)) ≡ slice_of z (r ∷ rows)
other_step Less z row r rows h other more = rw other refl
other_step Equal z row r rows h other more =
    let tied : same_zone r.zone z ≡ false = ap (λ (p : Place). same_zone p z) (sym (key_exact row r h).0) ∙ other in
    rw (other, tied) refl
other_step Greater z row r rows h other more = ap (λ (xs : List Row). cond (same_zone r.zone z) (r ∷ xs) xs) more

pub slice_other : (z : Place) (row : Row) (rows : List Row) → same_zone row.zone z ≡ false → slice_of z (put row rows) ≡ slice_of z rows
slice_other z row [] other = rw other refl
slice_other z row (r ∷ rows) other = other_step (by_key row r) z row r rows refl other (slice_other z row rows other)

-- the rows that lines leave, in the slice of a zone

cond_same : {X : Type 0} (b : Bool) (x : X) → x ≡ cond b x x
cond_same true x = refl
cond_same false x = refl

put_in : (b : Bool) (z : Place) (row : Row) (rows : List Row) → same_zone row.zone z ≡ b → IsStrictlySortedBy by_key rows → slice_of z (put row rows) ≡ cond b (put row (slice_of z rows)) (slice_of z rows)
put_in true z row rows is up = slice_put z row rows is up
put_in false z row rows is up = slice_other z row rows is

left_in : (r : Result Life Breach) (z : Place) (line : Line) (rows : List Row) → IsStrictlySortedBy by_key rows → slice_of z (add_row_if_some (row_if line r) rows) ≡ cond (same_zone line.zone z) (add_row_if_some (row_if line r) (slice_of z rows)) (slice_of z rows)
left_in (Ok life) z line rows up = put_in (same_zone line.zone z) z (row_of line life) rows refl up
left_in (Err breach) z line rows up = cond_same (same_zone line.zone z) (slice_of z rows)

slice_left : (routine : Bool) (z : Place) (before : List Row) (t : ℕ) (line : Line) (rows : List Row) → is_routine line.action ≡ routine → IsStrictlySortedBy by_key rows →
    slice_of z (add_row_if_some (row_left before t line) rows) ≡ cond (same_zone line.zone z) (add_row_if_some (row_left before t line) (slice_of z rows)) (slice_of z rows)
slice_left true z before t line rows own up = rw own (cond_same (same_zone line.zone z) (slice_of z rows))
slice_left false z before t line rows own up = rw own (left_in (step (life_at before line) line t (wanted line.action)) z line rows up)

abbrev pub taken_in : List Row → ℕ → List Row → List Line → List Row
taken_in rows t after own = fold (λ (after : List Row) (line : Line). add_row_if_some (row_left rows t line) after) after own

own_first : (b : Bool) (z : Place) (rows : List Row) (t : ℕ) (line : Line) (lines : List Line) (after : List Row) →
    taken_in rows t after (cond b (line ∷ lines_of z lines) (lines_of z lines)) ≡ taken_in rows t (cond b (add_row_if_some (row_left rows t line) after) after) (lines_of z lines)
own_first true z rows t line lines after = refl
own_first false z rows t line lines after = refl

taken_on : (z : Place) (rows : List Row) (t : ℕ) (lines : List Line) (after : List Row) → IsStrictlySortedBy by_key after →
    taken_in rows t (slice_of z after) (lines_of z lines) ≡ slice_of z (taken_in rows t after lines)
taken_on z rows t [] after up = refl
taken_on z rows t (line ∷ lines) after up =
    own_first (same_zone line.zone z) z rows t line lines (slice_of z after)
    ∙ ap (λ (a : List Row). taken_in rows t a (lines_of z lines)) (sym (slice_left (is_routine line.action) z rows t line after refl up))
    ∙ taken_on z rows t lines (add_row_if_some (row_left rows t line) after) (add_row_if_some-sorted (row_left rows t line) after up)

pub taken_slice : (z : Place) (rows : List Row) (t : ℕ) (lines : List Line) → IsStrictlySortedBy by_key rows → taken_in rows t (slice_of z rows) (lines_of z lines) ≡ slice_of z (rows_taken rows t lines)
taken_slice z rows t lines up = taken_on z rows t lines rows up

pub either_false : (a b : Bool) → (a || b) ≡ false → (a ≡ false) × (b ≡ false)
either_false true b h = cc
either_false false b h = (refl, h)

left_elsewhere : (routine : Bool) (r : Result Life Breach) (z : Place) (line : Line) (rows : List Row) → same_zone line.zone z ≡ false → slice_of z (add_row_if_some (cond routine None (row_if line r)) rows) ≡ slice_of z rows
left_elsewhere true r z line rows other = refl
left_elsewhere false (Ok life) z line rows other = slice_other z (row_of line life) rows other
left_elsewhere false (Err breach) z line rows other = refl

-- a zone that no line names is as before

pub taken_else : (z : Place) (rows : List Row) (t : ℕ) (lines : List Line) (after : List Row) → names_zone z lines ≡ false → slice_of z (fold (λ (a : List Row) (l : Line). add_row_if_some (row_left rows t l) a) after lines) ≡ slice_of z after
taken_else z rows t [] after h = refl
taken_else z rows t (line ∷ lines) after h =
    let p = either_false (same_zone line.zone z) (names_zone z lines) h in
    taken_else z rows t lines (add_row_if_some (row_left rows t line) after) p.1 ∙ left_elsewhere (is_routine line.action) (step (life_at rows line) line t (wanted line.action)) z line after p.0

-- the slice of a zone stands in order
pub slice_in_order : (z : Place) (rows : List Row) → IsStrictlySortedBy by_key rows → IsStrictlySortedBy by_key (slice_of z rows)
unfolding IsStrictlySortedBy
slice_in_order z [] up = tt
slice_in_order z (r ∷ rows) up =
    let step : (b : Bool) → IsStrictlySortedBy by_key (cond b (r ∷ slice_of z rows) (slice_of z rows)) =
    λ b. elim b as (λ b. IsStrictlySortedBy by_key (cond b (r ∷ slice_of z rows) (slice_of z rows))) [
      | true ↦ (slice_above z r rows up.0, slice_in_order z rows up.1)
      | false ↦ slice_in_order z rows up.1
    ] in
    step (same_zone r.zone z)
