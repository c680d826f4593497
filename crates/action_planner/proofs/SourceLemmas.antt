-- Where the lines of a draft come from: a row that a line says again, a put, or a routine intent.
use Rattle.std.proofs.Common.{◌≡◌, ◌⊎◌, inl, inr, ℕ, List, true, Option, Some, None, refl, sym, filter}
use Rattle.std.specs.List.{AllByRecursion}
use Rattle.hazard_types.specs.Places.{Place}
use Rattle.hazard_types.specs.declared.codes.Action.TheVariants.{Con}
use Rattle.hazard_types.specs.declared.codes.Category.{Category}
use Rattle.hazard_types.specs.declared.hazard.Event.{Event}
use Rattle.hazard_types.specs.declared.line.Line.{Line}
use Rattle.hazard_types.specs.declared.line.Row.{Row}
use Rattle.office_types.specs.declared.request.Intent.{Intent}
use Rattle.office_types.specs.declared.request.Intent.TheVariants.{Put, Finish, Restate, Routine}
use Rattle.office_types.specs.declared.request.PutPart.{PutPart}
use Rattle.event_life.specs.Products.{is_routine, row_at}
use Rattle.event_life.proofs.Puts.{at_key}
use Rattle.action_planner.specs.Placed.{Placed, zones_of}
use Rattle.action_planner.specs.Lines.{added_lines, finish_lines, is_continued, joined_row, line_on, lines_from, lines_in, planned_lines, line_of_put, put_line_on, restate_lines}
use Rattle.action_planner.proofs.LawfulLists.{Has, all_append, all_each, all_filter, all_map, all_weaker, has_all}
use Rattle.action_planner.proofs.LawfulKeys.{IsOn, each_intent, each_zone, lines_on}
use Rattle.action_planner.proofs.LawfulLines.{found_has}
use Rattle.action_planner.proofs.RoutineLemmas.{is_routine_intent}

-- the line says a row again, with its flood values
pub record FromRow (rows : List Row) (line : Line) : Type 0 where
  pub row : Row
  pub there : Has rows row
  pub event : row.event ≡ line.event
  pub zone : row.zone ≡ line.zone
  pub flood : row.flood ≡ line.flood

-- the line is a put's, with its flood values
pub record FromPut (all : List Placed) (line : Line) : Type 0 where
  pub by : Placed
  pub among : Has all by
  pub part : PutPart
  pub put : by.intent ≡ Put part
  pub event : by.event ≡ line.event
  pub flood : part.flood ≡ line.flood

-- the line is a routine intent's
pub record FromRoutine (all : List Placed) (line : Line) : Type 0 where
  pub by : Placed
  pub among : Has all by
  pub routine : is_routine_intent by.intent ≡ true
  pub event : by.event ≡ line.event
  pub action : is_routine line.action ≡ true
  pub flood : line.flood ≡ None

abbrev pub Comes : List Row → List Placed → Line → Type 0
Comes rows all line = FromRow rows line ⊎ (FromPut all line ⊎ FromRoutine all line)

put_flood : (rows : List Row) (t : ℕ) (e : Event) (part : PutPart) (z : Place) (o : Option Row) → part.flood ≡ (put_line_on rows t e part z o).flood
put_flood rows t e part z None = refl
put_flood rows t e part z (Some row) = refl

module _ (rows : List Row) (t : ℕ) (all : List Placed) where
  finish_from : (e : Event) (z : Place) (o : Option Row) → row_at rows e z ≡ o → AllByRecursion (FromRow rows) (finish_lines rows t all o)
  finish_from e z None h = tt
  finish_from e z (Some row) h = (record { row = row; there = found_has (at_key e z) rows row h; event = refl; zone = refl; flood = refl }, tt)

  restate_from : (e : Event) (z : Place) (o : Option Row) → row_at rows e z ≡ o → AllByRecursion (FromRow rows) (restate_lines t o)
  restate_from e z None h = tt
  restate_from e z (Some row) h = (record { row = row; there = found_has (at_key e z) rows row h; event = refl; zone = refl; flood = refl }, tt)

  from_row : (line : Line) → FromRow rows line → Comes rows all line
  from_row line f = inl f

  in_zone : (p : Placed) → Has all p → (i : Intent) → p.intent ≡ i → (z : Place) → AllByRecursion (Comes rows all) (lines_in rows t all p.event i z)
  in_zone p h (Put part) is z =
      let on : IsOn p.event z (line_of_put rows t p.event part z) = (lines_on rows t all p.event (Put part) z).0 in
      (inr (inl (record { by = p; among = h; part = part; put = is; event = sym on.0; flood = put_flood rows t p.event part z (joined_row rows p.event z part.target) })), tt)
  in_zone p h (Finish part) is z = all_weaker (FromRow rows) (Comes rows all) from_row (finish_lines rows t all (row_at rows p.event z)) (finish_from p.event z (row_at rows p.event z) refl)
  in_zone p h (Restate part) is z = all_weaker (FromRow rows) (Comes rows all) from_row (restate_lines t (row_at rows p.event z)) (restate_from p.event z (row_at rows p.event z) refl)
  in_zone p h (Routine part) is z = (inr (inr (record { by = p; among = h; routine = routine_by p.intent is; event = refl; action = refl; flood = refl })), tt)
    where
      routine_by : (i : Intent) → i ≡ Routine part → is_routine_intent i ≡ true
      routine_by (Put q) e = cc
      routine_by (Finish q) e = cc
      routine_by (Restate q) e = cc
      routine_by (Routine q) e = refl

  -- each line comes from one of them
  pub comes : (c : Category) → AllByRecursion (Comes rows all) (planned_lines c rows t all)
  comes c = all_append (Comes rows all) (lines_from rows t all all) (added_lines c rows t all)
      (each_intent rows t all (Comes rows all) (Has all) (λ p h. each_zone rows t all (Comes rows all) (λ z. Unit {0}) p.event p.intent (λ z u. in_zone p h p.intent refl z) (zones_of p.intent) (all_each (λ z. Unit {0}) (λ z. tt) (zones_of p.intent))) all (has_all all))
      (all_map (Comes rows all) (line_on Con t) (filter (is_continued c t all) rows)
      (all_weaker (λ r. Has rows r × (is_continued c t all r ≡ true)) (λ r. Comes rows all (line_on Con t r)) (λ r h. inl (record { row = r; there = h.0; event = refl; zone = refl; flood = refl })) (filter (is_continued c t all) rows)
      (all_filter (Has rows) (is_continued c t all) rows (has_all rows))))
