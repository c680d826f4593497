-- Routine lines are on number 0000 of the year of issue, of which there is no row.
use Rattle.std.proofs.Common.{◌≡◌, ◌==◌, ◌&&◌, ℕ, List, [], ◌∷◌, ◌++◌, true, false, Option, Some, None, refl, cond, filter}
use Rattle.std.proofs.lemmas.Bool.{and_left, and_right, both_ways, eqb-true, false_from_ne_true}
use Rattle.std.specs.List.{AllByRecursion}
use Rattle.hazard_types.specs.Days.{year_of}
use Rattle.hazard_types.specs.Places.{Place}
use Rattle.hazard_types.specs.Same.{same_event, same_hazard}
use Rattle.hazard_types.specs.declared.codes.Action.TheVariants.{Con, Upg, Can, Exp}
use Rattle.hazard_types.specs.declared.codes.Category.{Category}
use Rattle.hazard_types.specs.declared.hazard.Event.{Event}
use Rattle.hazard_types.specs.declared.hazard.Hazard.{Hazard}
use Rattle.hazard_types.specs.declared.line.Line.{Line}
use Rattle.hazard_types.specs.declared.line.Row.{Row}
use Rattle.office_types.specs.declared.request.Intent.{Intent}
use Rattle.office_types.specs.declared.request.Intent.TheVariants.{Put, Finish, Restate, Routine}
use Rattle.hazard_types.proofs.Equality.{event_itself}
use Rattle.event_life.specs.Periods.{ends_after, keeps_open}
use Rattle.event_life.specs.Products.{latest_open_event, is_routine, row_at}
use Rattle.event_numbers.specs.declared.Count.{Count}
use Rattle.action_planner.specs.Conditions.{AreNumbered}
use Rattle.action_planner.specs.Placed.{Placed, event_of_intent, placed_from, zones_of}
use Rattle.action_planner.specs.Lines.{added_lines, finish_lines, is_continued, is_near_end, is_overlaid, line_on, lines_from, lines_in, planned_lines, restate_lines}
use Rattle.action_planner.proofs.LawfulLists.{all_append, all_each, all_map, any_has, every}
use Rattle.action_planner.proofs.LawfulKeys.{each_intent, each_zone, either_action, put-no_routine}
use Rattle.action_planner.proofs.RoutineLemmas.{is_routine_intent, numbered_from}

-- number 0000 of the year of issue
abbrev pub IsZeroOf : ℕ → Event → Type 0
IsZeroOf t e = (e.etn ≡ 0) × (e.year ≡ year_of t)

abbrev IsPlacedZero : ℕ → Placed → Type 0
IsPlacedZero t p = is_routine_intent p.intent ≡ true → IsZeroOf t p.event

zero_intent : (counts : List Count) (t : ℕ) (earlier : List Intent) (i : Intent) → is_routine_intent i ≡ true → IsZeroOf t (event_of_intent counts t earlier i)
zero_intent counts t earlier (Put part) h = cc
zero_intent counts t earlier (Finish part) h = cc
zero_intent counts t earlier (Restate part) h = cc
zero_intent counts t earlier (Routine part) h = (refl, refl)

pub zero_placed : (counts : List Count) (t : ℕ) (earlier intents : List Intent) → AllByRecursion (IsPlacedZero t) (placed_from counts t earlier intents)
zero_placed counts t earlier [] = tt
zero_placed counts t earlier (i ∷ intents) = (zero_intent counts t earlier i, zero_placed counts t (earlier ++ i ∷ []) intents)

-- a routine line is on it
abbrev pub HasZeroOf : ℕ → Line → Type 0
HasZeroOf t line = is_routine line.action ≡ true → IsZeroOf t line.event

module _ (rows : List Row) (t : ℕ) (all : List Placed) where
  finish_plain : (o : Option Row) → AllByRecursion (HasZeroOf t) (finish_lines rows t all o)
  finish_plain None = tt
  finish_plain (Some row) =
      let plain = either_action is_routine (ends_after row.period.end t && is_overlaid rows t all row) Upg (cond (is_near_end row.period.end t) Exp Can) refl (either_action is_routine (is_near_end row.period.end t) Exp Can refl refl) in
      (λ h. absurd (both_ways _ plain h), tt)

  restate_plain : (o : Option Row) → AllByRecursion (HasZeroOf t) (restate_lines t o)
  restate_plain None = tt
  restate_plain (Some row) = ((λ h. cc), tt)

  zero_in : (e : Event) (i : Intent) (z : Place) → (is_routine_intent i ≡ true → IsZeroOf t e) → AllByRecursion (HasZeroOf t) (lines_in rows t all e i z)
  zero_in e (Put part) z zero = ((λ h. absurd (both_ways _ (put-no_routine rows t e part z) h)), tt)
  zero_in e (Finish part) z zero = finish_plain (row_at rows e z)
  zero_in e (Restate part) z zero = restate_plain (row_at rows e z)
  zero_in e (Routine part) z zero = ((λ h. zero refl), tt)

  pub routine_zero : (c : Category) → AllByRecursion (IsPlacedZero t) all → AllByRecursion (HasZeroOf t) (planned_lines c rows t all)
  routine_zero c zeros = all_append (HasZeroOf t) (lines_from rows t all all) (added_lines c rows t all)
      (each_intent rows t all (HasZeroOf t) (IsPlacedZero t) (λ p h. each_zone rows t all (HasZeroOf t) (λ z. Unit {0}) p.event p.intent (λ z u. zero_in p.event p.intent z h) (zones_of p.intent) (all_each (λ z. Unit {0}) (λ z. tt) (zones_of p.intent))) all zeros)
      (all_map (HasZeroOf t) (line_on Con t) (filter (is_continued c t all) rows) (all_each (λ r. HasZeroOf t (line_on Con t r)) (λ r h. cc) (filter (is_continued c t all) rows)))

-- no row has number 0000

abbrev pub HasNumber : Row → Type 0
HasNumber row = (row.event.etn == 0) ≡ false

pub rows_have_numbers : (rows : List Row) (counts : List Count) → AreNumbered rows counts → AllByRecursion HasNumber rows
rows_have_numbers rows counts numbered = every HasNumber rows (λ row h.
    false_from_ne_true _ (λ zero. both_ways _ (numbered_from rows counts numbered row.event (eqb-true row.event.etn 0 zero)) (any_has (λ (r : Row). same_event r.event row.event) rows row h (event_itself row.event))))

-- so no open event has it
pub none_going : (rows : List Row) (h : Hazard) (t : ℕ) → AllByRecursion HasNumber rows → latest_open_event rows h 0 t ≡ None
none_going [] h t all = refl
none_going (row ∷ rows) h t all =
    let other = and_left (same_hazard row.event.hazard h && (row.event.etn == 0)) (keeps_open t row) (and_right (same_hazard row.event.hazard h) (row.event.etn == 0) all.0) in
    rw other (none_going rows h t all.1)
