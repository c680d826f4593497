-- The events that have rows after a product of lawful lines: those that had them, and those of its lines.
use Rattle.std.proofs.Common.{◌≡◌, ◌∙◌, ◌||◌, ◌&&◌, ℕ, List, [], ◌∷◌, ◌++◌, Bool, true, false, Option, None, Ordering, Less, Equal, Greater, refl, ap, cond, filter, option_map}
use Rattle.std.proofs.lemmas.Bool.{and_parts, false_from_ne_true, both_ways}
use Rattle.std.specs.List.{list_all, list_any}
use Rattle.std.specs.Option.{is_none}
use Rattle.hazard_types.specs.Same.{same_event}
use Rattle.hazard_types.specs.declared.codes.Action.{Action}
use Rattle.hazard_types.specs.declared.codes.Action.TheVariants.{New, Exa, Exb, Rou}
use Rattle.hazard_types.specs.declared.hazard.Event.{Event}
use Rattle.hazard_types.specs.declared.line.Line.{Line}
use Rattle.hazard_types.specs.declared.line.Row.{Row}
use Rattle.event_life.specs.declared.life.Around.{Around}
use Rattle.event_life.specs.declared.life.Breach.{Breach}
use Rattle.event_life.specs.Periods.{keeps_open}
use Rattle.event_life.specs.Products.{around_but_higher, breach_in, by_key, has_rows, is_new, is_open, is_routine, judged_from, lawful_of, life_of, placed, put, put_all, row_after, row_at, rows_after}
use Rattle.event_life.specs.Table.{breach_of_line, first_of, on_nothing}
use Rattle.event_life.proofs.Keys.{key_exact}
use Rattle.event_life.proofs.LawfulLemmas.{touches}
use Rattle.event_life.specs.Reordered.{are_lawful}
use Rattle.action_planner.proofs.LawfulLists.{any_has, has_any}
use Rattle.action_planner.proofs.LawfulSteps.{IsSound, no_row}

or_again : (a b c : Bool) → a ≡ b → (a || c) ≡ (a || (b || c))
or_again true b c e = refl
or_again false true c e = cc
or_again false false c e = refl

or_turned : (a b c : Bool) → (a || (b || c)) ≡ (b || (a || c))
or_turned true true c = refl
or_turned true false c = refl
or_turned false b c = refl

or_moved : (a b c : Bool) → (a || (b || c)) ≡ ((b || a) || c)
or_moved true true c = refl
or_moved true false c = refl
or_moved false true c = refl
or_moved false false c = refl

-- a row that is put

placed_has : (e : Event) (row r : Row) (rows : List Row) (o : Ordering) → by_key row r ≡ o → has_rows (put row rows) e ≡ (same_event row.event e || has_rows rows e) →
    has_rows (placed o row r rows (put row rows)) e ≡ (same_event row.event e || has_rows (r ∷ rows) e)
placed_has e row r rows Less is more = refl
placed_has e row r rows Equal is more = or_again (same_event row.event e) (same_event r.event e) (has_rows rows e) (ap (λ (x : Event). same_event x e) (key_exact row r is).1)
placed_has e row r rows Greater is more = ap (λ (b : Bool). same_event r.event e || b) more ∙ or_turned (same_event r.event e) (same_event row.event e) (has_rows rows e)

put_has : (e : Event) (row : Row) (rows : List Row) → has_rows (put row rows) e ≡ (same_event row.event e || has_rows rows e)
put_has e row [] = refl
put_has e row (r ∷ rows) = placed_has e row r rows (by_key row r) refl (put_has e row rows)

-- a line is of the event
abbrev pub are_of : List Line → Event → Bool
are_of lines e = list_any (λ (line : Line). same_event line.event e) lines

put_all_has : (rows : List Row) (t : ℕ) (e : Event) (lines : List Line) (after : List Row) → has_rows (put_all rows t lines after) e ≡ (are_of lines e || has_rows after e)
put_all_has rows t e [] after = refl
put_all_has rows t e (line ∷ lines) after =
    put_all_has rows t e lines (put (row_after rows t line) after)
    ∙ ap (λ (b : Bool). are_of lines e || b) (put_has e (row_after rows t line) after)
    ∙ or_moved (are_of lines e) (same_event line.event e) (has_rows after e)

-- lines without a breach

all_lawful : (rows : List Row) (t : ℕ) (all earlier lines : List Line) → list_all (λ (l : Line × Option Breach). is_none l.1) (judged_from rows t all earlier lines) ≡ true →
    lawful_of (judged_from rows t all earlier lines) ≡ filter touches lines
all_lawful rows t all earlier [] h = refl
all_lawful rows t all earlier (line ∷ lines) h =
    let p = and_parts (is_none (breach_in rows t all earlier line)) _ h in
    lawful_step (touches line) (is_none (breach_in rows t all earlier line)) line p.0 (all_lawful rows t all (earlier ++ line ∷ []) lines p.1)
  where
    lawful_step : (own none : Bool) (line : Line) {xs ys : List Line} → none ≡ true → xs ≡ ys → cond (own && none) (line ∷ xs) xs ≡ cond own (line ∷ ys) ys
    lawful_step true none line e same = rw e (ap (λ (ls : List Line). line ∷ ls) same)
    lawful_step false none line e same = same

-- the rows after a product of lawful lines are those that its lines leave
pub rows_left_by : (rows : List Row) (t : ℕ) (lines : List Line) → are_lawful rows t lines ≡ true → rows_after rows t lines ≡ put_all rows t (filter touches lines) rows
unfolding rows_after
rows_left_by rows t lines h = ap (λ (ls : List Line). put_all rows t ls rows) (all_lawful rows t lines [] lines h)

-- the events that have rows after the product
pub after_has : (rows : List Row) (t : ℕ) (lines : List Line) (e : Event) → are_lawful rows t lines ≡ true →
    has_rows (rows_after rows t lines) e ≡ (are_of (filter touches lines) e || has_rows rows e)
after_has rows t lines e h = ap (λ (after : List Row). has_rows after e) (rows_left_by rows t lines h) ∙ put_all_has rows t e (filter touches lines) rows

-- lines of events without rows

new_on_nothing : (a : Action) (line : Line) (t : ℕ) (around : Around) → is_routine a ≡ false → around.going ≡ false → first_of (on_nothing a line t around) ≡ None → is_new a ≡ true
new_on_nothing New line t around own shut h = refl
new_on_nothing Exa line t around own shut h = let never = rw shut at h in cc never
new_on_nothing Exb line t around own shut h = let never = rw shut at h in cc never
new_on_nothing Rou line t around own shut h = cc
new_on_nothing _ line t around own shut h = cc

new_by : (o : Option Row) → o ≡ None → (line : Line) (t : ℕ) (around : Around) → is_routine line.action ≡ false → around.going ≡ false → breach_of_line (option_map life_of o) line t around ≡ None → is_new line.action ≡ true
unfolding breach_of_line
new_by None e line t around own shut h = new_on_nothing line.action line t around own shut h
new_by _ e line t around own shut h = cc

-- an event that is open has rows
not_open : (rows : List Row) (t : ℕ) (e : Event) → has_rows rows e ≡ false → is_open rows t e ≡ false
not_open rows t e none = false_from_ne_true _ (λ h.
    let w = has_any (λ (r : Row). same_event r.event e && keeps_open t r) rows h in
    let own : same_event w.0.event e ≡ true = (and_parts (same_event w.0.event e) _ w.2).0 in
    both_ways _ none (any_has (λ (r : Row). same_event r.event e) rows w.0 w.1 own))

-- a line without a breach, of an event without rows, is NEW
pub new_without_rows : (rows : List Row) (t : ℕ) (line : Line) → is_routine line.action ≡ false → IsSound rows t line → has_rows rows line.event ≡ false → is_new line.action ≡ true
new_without_rows rows t line own sound none =
    new_by (row_at rows line.event line.zone) (no_row rows line.event line.zone none) line t (around_but_higher rows t line true) own (not_open rows t line.event none) (sound true (λ h. refl))
