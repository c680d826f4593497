-- Lawful lines taken in turn leave the rows after their product, and need memory for the openings alone.
use Rattle.std.proofs.Common.{◌≡◌, ◌≢◌, ◌∙◌, ◌||◌, ℕ, suc, ◌+◌, ◌<◌, ◌≤◌, List, [], ◌∷◌, ◌++◌, Bool, true, false, Option, Some, None, Ordering, Less, Equal, Greater, refl, sym, ap, cond, fold, length, arith, option_map, get_or, drop, drop-cons}
use Rattle.std.specs.Option.{is_none}
use Rattle.std.specs.List.{list_any, list_all, AllByRecursion}
use Rattle.std.specs.List.Sorted.{IsStrictlySortedBy}
use Rattle.std.proofs.lemmas.Bool.{and_parts, false_from_ne_true}
use Rattle.std.proofs.lemmas.List.Folds.{list_any-append}
use Rattle.std.proofs.lemmas.List.Sums.{sum_by-cons}
use Rattle.hazard_types.specs.Places.{Place}
use Rattle.hazard_types.specs.declared.hazard.Event.{Event}
use Rattle.hazard_types.specs.declared.line.Line.{Line}
use Rattle.hazard_types.specs.declared.line.Row.{Row}
use Rattle.hazard_types.proofs.Equality.{event_itself, zone_itself}
use Rattle.event_life.specs.declared.life.Breach.{Breach}
use Rattle.event_life.specs.declared.life.Breach.TheVariants.{Twice}
use Rattle.event_life.specs.Lives.{opens}
use Rattle.event_life.specs.Table.{breach_of_line}
use Rattle.event_life.specs.Products.{by_key, placed, put, row_at, life_at, life_of, row_after, is_routine, concerns, is_second, around_of, breach_in, judged_from, lawful_of, put_all, rows_after}
use Rattle.event_life.proofs.Puts.{at_key, at_key-parts, none_above, all_above, row_at-put, put-sorted}
use Rattle.event_life.specs.Reordered.{are_lawful}
use Rattle.event_life.proofs.Keys.{key_exact, key_ties}
use Rattle.hazard_board.specs.Board.{openings}
use Rattle.hazard_board.specs.Taken.{add_row_if_some, row_left, rows_taken, taken_in_turn}
use Rattle.hazard_board.proofs.Alone.{lawful_left, meets_life}

-- a row more at most

placed_longer : (o : Ordering) (row r : Row) (rows behind : List Row) → length rows ≤ length behind → length behind ≤ length rows + 1 →
    (length (r ∷ rows) ≤ length (placed o row r rows behind)) × (length (placed o row r rows behind) ≤ length (r ∷ rows) + 1)
placed_longer Less row r rows behind low high = (omega arith, omega arith)
placed_longer Equal row r rows behind low high = (omega arith, omega arith)
placed_longer Greater row r rows behind low high = (omega arith, omega arith)

pub put_longer : (row : Row) (rows : List Row) → (length rows ≤ length (put row rows)) × (length (put row rows) ≤ length rows + 1)
put_longer row [] = (omega arith, omega arith)
put_longer row (r ∷ rows) = let more = put_longer row rows in placed_longer (by_key row r) row r rows (put row rows) more.0 more.1

put_if_longer : (o : Option Row) (rows : List Row) → length rows ≤ length (add_row_if_some o rows)
put_if_longer None rows = omega arith
put_if_longer (Some row) rows = (put_longer row rows).0

pub turns_longer : (t : ℕ) (rows : List Row) (lines : List Line) → length rows ≤ length (taken_in_turn t rows lines)
turns_longer t rows [] = omega arith
turns_longer t rows (line ∷ lines) =
    let one = put_if_longer (row_left rows t line) rows in
    let more = turns_longer t (add_row_if_some (row_left rows t line) rows) lines in
    omega (arith, one, more)

-- a row in the place of one of its zone and event

is_not_none : (r : Row) → ◌≡◌ {A = Option Row} None (Some r) → ⊥
is_not_none r h = cc

placed_held : (o : Ordering) (row r : Row) (rows behind : List Row) → by_key row r ≡ o →
    AllByRecursion (λ y. by_key r y ≡ Less) rows → row_at (r ∷ rows) row.event row.zone ≢ None →
    (row_at rows row.event row.zone ≢ None → length behind ≡ length rows) →
    length (placed o row r rows behind) ≡ length (r ∷ rows)
placed_held Less row r rows behind h above held more = absurd (held (none_above row (r ∷ rows) (h, all_above row r rows h above)))
placed_held Equal row r rows behind h above held more = refl
placed_held Greater row r rows behind h above held more =
    let apart : at_key row.event row.zone r ≡ false = false_from_ne_true _ (λ g.
    let p = at_key-parts row.event row.zone r g in
    let tied : by_key row r ≡ Equal = key_ties row r (sym p.1) (sym p.0) in cc) in
    let there : row_at rows row.event row.zone ≢ None = λ none. held (rw apart none) in
    ap suc (more there)

-- a row that takes the place of one makes the rows no longer
pub put_held : (row : Row) (rows : List Row) → IsStrictlySortedBy by_key rows → row_at rows row.event row.zone ≢ None → length (put row rows) ≡ length rows
unfolding IsStrictlySortedBy
put_held row [] up held = absurd (held refl)
put_held row (r ∷ rows) up held = placed_held (by_key row r) row r rows (put row rows) refl up.0 held (put_held row rows up.1)

-- a row that takes the place of none makes the rows longer by one

itself : (row : Row) → at_key row.event row.zone row ≡ true
itself row = rw (event_itself row.event) (zone_itself row.zone)

none_behind : (b : Bool) (row r : Row) (rows : List Row) → at_key row.event row.zone r ≡ b → row_at (r ∷ rows) row.event row.zone ≡ None → row_at rows row.event row.zone ≡ None
none_behind true row r rows own none = let found : row_at (r ∷ rows) row.event row.zone ≡ Some r = rw own refl in let never : ◌≡◌ {A = Option Row} (Some r) None = sym found ∙ none in cc
none_behind false row r rows own none = rw own at none

fresh_step : (o : Ordering) (row r : Row) (rows : List Row) → by_key row r ≡ o → row_at (r ∷ rows) row.event row.zone ≡ None → (row_at rows row.event row.zone ≡ None → length (put row rows) ≡ length rows + 1) →
    length (placed o row r rows (put row rows)) ≡ length (r ∷ rows) + 1
fresh_step Less row r rows h none more = omega arith
fresh_step Equal row r rows h none more =
    let key = key_exact row r h in
    let own : at_key row.event row.zone r ≡ true = rw (sym key.0, sym key.1) (itself row) in
    let found : row_at (r ∷ rows) row.event row.zone ≡ Some r = rw own refl in
    let never : ◌≡◌ {A = Option Row} (Some r) None = sym found ∙ none in cc
fresh_step Greater row r rows h none more =
    let rest = more (none_behind (at_key row.event row.zone r) row r rows refl none) in
    omega (arith, rest)

pub fresh_longer : (row : Row) (rows : List Row) → row_at rows row.event row.zone ≡ None → length (put row rows) ≡ length rows + 1
fresh_longer row [] none = omega arith
fresh_longer row (r ∷ rows) none = fresh_step (by_key row r) row r rows refl none (fresh_longer row rows)

-- the breach of a line that has none

none_of : (o : Option Breach) → is_none o ≡ true → o ≡ None
none_of None h = refl
none_of (Some b) h = cc

no_breach : (routine second : Bool) (o : Option Breach) → routine ≡ false → is_none (cond routine None (cond second (Some Twice) o)) ≡ true → (second ≡ false) × (o ≡ None)
no_breach true second o own h = cc
no_breach false true o own h = cc
no_breach false false o own h = (refl, none_of o h)

pub lawful_parts : (rows : List Row) (t : ℕ) (all earlier : List Line) (line : Line) → is_routine line.action ≡ false → is_none (breach_in rows t all earlier line) ≡ true →
    (is_second earlier line ≡ false) × (breach_of_line (life_at rows line) line t (around_of rows t all line) ≡ None)
unfolding breach_in
lawful_parts rows t all earlier line own h = no_breach (is_routine line.action) (is_second earlier line) _ own h

openings_cons : (line : Line) (lines : List Line) → openings (line ∷ lines) ≡ cond (opens line.action) 1 0 + openings lines
openings_cons line lines = sum_by-cons (λ (l : Line). cond (opens l.action) 1 0) line lines

-- Lines in turn. Those so far have changed no row but those of which they speak.
module _ (rows : List Row) (t : ℕ) (all : List Line) where
  abbrev pub AreAsBefore : List Row → List Line → Type 0
  AreAsBefore now earlier = (e : Event) (z : Place) → list_any (concerns e z) earlier ≡ false → row_at now e z ≡ row_at rows e z

  abbrev pub have_none : List Line → List Line → Bool
  have_none earlier lines = list_all (λ (l : Line × Option Breach). is_none l.1) (judged_from rows t all earlier lines)

  either_false : (a b : Bool) → (a || b) ≡ false → (a ≡ false) × (b ≡ false)
  either_false true b h = cc
  either_false false b h = (refl, h)

  or_last : (b : Bool) → (b || false) ≡ b
  or_last true = refl
  or_last false = refl

  unspoken : (e : Event) (z : Place) (earlier : List Line) (line : Line) → list_any (concerns e z) (earlier ++ line ∷ []) ≡ false →
      (list_any (concerns e z) earlier ≡ false) × (concerns e z line ≡ false)
  unspoken e z earlier line h =
      let p = either_false (list_any (concerns e z) earlier) _ (sym (list_any-append (concerns e z) earlier (line ∷ [])) ∙ h) in
      (p.0, sym (or_last (concerns e z line)) ∙ p.1)

  as_before_more : (now : List Row) (earlier : List Line) (line : Line) → is_routine line.action ≡ false → AreAsBefore now earlier → AreAsBefore (put (row_after rows t line) now) (earlier ++ line ∷ [])
  as_before_more now earlier line own before e z h =
      let p = unspoken e z earlier line h in
      let apart : at_key e z (row_after rows t line) ≡ false = rw own at p.1 in
      row_at-put (row_after rows t line) now e z ∙ rw apart (before e z p.0)

  as_before_still : (now : List Row) (earlier : List Line) (line : Line) → AreAsBefore now earlier → AreAsBefore now (earlier ++ line ∷ [])
  as_before_still now earlier line before e z h = before e z (unspoken e z earlier line h).0

  -- the line meets the life before the product
  meets_before : (now : List Row) (earlier : List Line) (line : Line) → is_second earlier line ≡ false → AreAsBefore now earlier → life_at now line ≡ life_at rows line
  meets_before now earlier line first before = ap (option_map life_of) (before line.event line.zone first)

  left_in_turn : (now : List Row) (earlier : List Line) (line : Line) → is_routine line.action ≡ false → is_none (breach_in rows t all earlier line) ≡ true → AreAsBefore now earlier → row_left now t line ≡ Some (row_after rows t line)
  left_in_turn now earlier line own h before =
      let p = lawful_parts rows t all earlier line own h in
      rw (meets_before now earlier line p.0 before) (lawful_left rows t line (around_of rows t all line) own p.1)

  turn_step : (now : List Row) (earlier : List Line) (line : Line) (lines : List Line) (routine : Bool) → is_routine line.action ≡ routine → have_none earlier (line ∷ lines) ≡ true → AreAsBefore now earlier →
      ((after : List Row) → have_none (earlier ++ line ∷ []) lines ≡ true → AreAsBefore after (earlier ++ line ∷ []) → taken_in_turn t after lines ≡ put_all rows t (lawful_of (judged_from rows t all (earlier ++ line ∷ []) lines)) after) →
      taken_in_turn t now (line ∷ lines) ≡ put_all rows t (lawful_of (judged_from rows t all earlier (line ∷ lines))) now
  turn_step now earlier line lines true own h before more =
      let p = and_parts (is_none (breach_in rows t all earlier line)) _ h in
      rw own (more now p.1 (as_before_still now earlier line before))
  turn_step now earlier line lines false own h before more =
      let p = and_parts (is_none (breach_in rows t all earlier line)) _ h in
      let left = left_in_turn now earlier line own p.0 before in
      rw (left, own, p.0) (more (put (row_after rows t line) now) p.1 (as_before_more now earlier line own before))

  pub turns : (earlier lines : List Line) (now : List Row) → have_none earlier lines ≡ true → AreAsBefore now earlier → taken_in_turn t now lines ≡ put_all rows t (lawful_of (judged_from rows t all earlier lines)) now
  turns earlier [] now h before = refl
  turns earlier (line ∷ lines) now h before = turn_step now earlier line lines (is_routine line.action) refl h before (turns (earlier ++ line ∷ []) lines)

  -- memory

  meets_row : (now : List Row) (earlier : List Line) (line : Line) → is_routine line.action ≡ false → opens line.action ≡ false → is_none (breach_in rows t all earlier line) ≡ true → AreAsBefore now earlier → row_at now line.event line.zone ≢ None
  meets_row now earlier line own opens_none h before none =
      let p = lawful_parts rows t all earlier line own h in
      meets_life (life_at rows line) line t (around_of rows t all line) own opens_none p.1 (sym (meets_before now earlier line p.0 before) ∙ ap (option_map life_of) none)

  put_opens : (now : List Row) (earlier : List Line) (line : Line) (opening : Bool) → opens line.action ≡ opening → IsStrictlySortedBy by_key now → is_routine line.action ≡ false → is_none (breach_in rows t all earlier line) ≡ true → AreAsBefore now earlier →
      length (put (row_after rows t line) now) ≤ length now + cond opening 1 0
  put_opens now earlier line true o up own h before = (put_longer (row_after rows t line) now).1
  put_opens now earlier line false o up own h before =
      let same = put_held (row_after rows t line) now up (meets_row now earlier line own o h before) in
      omega (arith, same)

  grow_step : (now : List Row) (earlier : List Line) (line : Line) (lines : List Line) (routine : Bool) → is_routine line.action ≡ routine → have_none earlier (line ∷ lines) ≡ true → AreAsBefore now earlier → IsStrictlySortedBy by_key now →
      ((after : List Row) → have_none (earlier ++ line ∷ []) lines ≡ true → AreAsBefore after (earlier ++ line ∷ []) → IsStrictlySortedBy by_key after → length (taken_in_turn t after lines) ≤ length after + openings lines) →
      length (taken_in_turn t now (line ∷ lines)) ≤ length now + openings (line ∷ lines)
  grow_step now earlier line lines true own h before up more =
      let p = and_parts (is_none (breach_in rows t all earlier line)) _ h in
      let rest = more now p.1 (as_before_still now earlier line before) up in
      let count = openings_cons line lines in
      rw own (omega (arith, rest, count))
  grow_step now earlier line lines false own h before up more =
      let p = and_parts (is_none (breach_in rows t all earlier line)) _ h in
      let left = left_in_turn now earlier line own p.0 before in
      let rest = more (put (row_after rows t line) now) p.1 (as_before_more now earlier line own before) (put-sorted (row_after rows t line) now up) in
      let one = put_opens now earlier line (opens line.action) refl up own p.0 before in
      let count = openings_cons line lines in
      rw left (omega (arith, rest, one, count))

  pub grows : (earlier lines : List Line) (now : List Row) → have_none earlier lines ≡ true → AreAsBefore now earlier → IsStrictlySortedBy by_key now → length (taken_in_turn t now lines) ≤ length now + openings lines
  grows earlier [] now h before up = omega arith
  grows earlier (line ∷ lines) now h before up = grow_step now earlier line lines (is_routine line.action) refl h before up (grows (earlier ++ line ∷ []) lines)

  -- lines that meet the rows before them

  taken_step : (after : List Row) (earlier : List Line) (line : Line) (lines : List Line) (routine : Bool) → is_routine line.action ≡ routine → have_none earlier (line ∷ lines) ≡ true →
      ((more : List Row) → have_none (earlier ++ line ∷ []) lines ≡ true → fold (λ (a : List Row) (l : Line). add_row_if_some (row_left rows t l) a) more lines ≡ put_all rows t (lawful_of (judged_from rows t all (earlier ++ line ∷ []) lines)) more) →
      fold (λ (a : List Row) (l : Line). add_row_if_some (row_left rows t l) a) after (line ∷ lines) ≡ put_all rows t (lawful_of (judged_from rows t all earlier (line ∷ lines))) after
  taken_step after earlier line lines true own h more =
      let p = and_parts (is_none (breach_in rows t all earlier line)) _ h in
      rw own (more after p.1)
  taken_step after earlier line lines false own h more =
      let p = and_parts (is_none (breach_in rows t all earlier line)) _ h in
      let q = lawful_parts rows t all earlier line own p.0 in
      rw (lawful_left rows t line (around_of rows t all line) own q.1, own, p.0) (more (put (row_after rows t line) after) p.1)

  pub taken : (earlier lines : List Line) (after : List Row) → have_none earlier lines ≡ true → fold (λ (a : List Row) (l : Line). add_row_if_some (row_left rows t l) a) after lines ≡ put_all rows t (lawful_of (judged_from rows t all earlier lines)) after
  taken earlier [] after h = refl
  taken earlier (line ∷ lines) after h = taken_step after earlier line lines (is_routine line.action) refl h (taken (earlier ++ line ∷ []) lines)

-- lawful lines in turn leave the rows after their product
pub lawful_turns : (rows : List Row) (t : ℕ) (lines : List Line) → are_lawful rows t lines ≡ true → taken_in_turn t rows lines ≡ rows_after rows t lines
unfolding rows_after
lawful_turns rows t lines h = turns rows t lines [] lines rows h (λ e z g. refl)

pub lawful_grow : (rows : List Row) (t : ℕ) (lines : List Line) → are_lawful rows t lines ≡ true → IsStrictlySortedBy by_key rows → length (taken_in_turn t rows lines) ≤ length rows + openings lines
lawful_grow rows t lines h up = grows rows t lines [] lines rows h (λ e z g. refl) up

pub lawful_taken : (rows : List Row) (t : ℕ) (lines : List Line) → are_lawful rows t lines ≡ true → rows_taken rows t lines ≡ rows_after rows t lines
unfolding rows_after
lawful_taken rows t lines h = taken rows t lines [] lines rows h

-- a line makes the rows no longer than all the lines do
pub grown_at : (t : ℕ) (start now : List Row) (lines : List Line) (i : ℕ) (line : Line) → i < length lines → line ≡ get_or lines i line →
    taken_in_turn t now (drop i lines) ≡ taken_in_turn t start lines → length (add_row_if_some (row_left now t line) now) ≤ length (taken_in_turn t start lines)
grown_at t start now lines i line within is e =
    let cut : drop i lines ≡ line ∷ drop (suc i) lines = drop-cons lines i line within ∙ ap (λ (l : Line). l ∷ drop (suc i) lines) (sym is) in
    let whole : taken_in_turn t start lines ≡ taken_in_turn t (add_row_if_some (row_left now t line) now) (drop (suc i) lines) = sym e ∙ ap (taken_in_turn t now) cut in
    rw whole (turns_longer t (add_row_if_some (row_left now t line) now) (drop (suc i) lines))

-- rows stay in order where lines are taken
pub add_row_if_some-sorted : (o : Option Row) (rows : List Row) → IsStrictlySortedBy by_key rows → IsStrictlySortedBy by_key (add_row_if_some o rows)
add_row_if_some-sorted None rows up = up
add_row_if_some-sorted (Some row) rows up = put-sorted row rows up

taken_on-sorted : (rows : List Row) (t : ℕ) (lines : List Line) (after : List Row) → IsStrictlySortedBy by_key after → IsStrictlySortedBy by_key (fold (λ (a : List Row) (l : Line). add_row_if_some (row_left rows t l) a) after lines)
taken_on-sorted rows t [] after up = up
taken_on-sorted rows t (line ∷ lines) after up = taken_on-sorted rows t lines (add_row_if_some (row_left rows t line) after) (add_row_if_some-sorted (row_left rows t line) after up)

pub rows_taken-sorted : (rows : List Row) (t : ℕ) (lines : List Line) → IsStrictlySortedBy by_key rows → IsStrictlySortedBy by_key (rows_taken rows t lines)
rows_taken-sorted rows t lines up = taken_on-sorted rows t lines rows up
