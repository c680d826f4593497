-- Routine lines are on number 0000, of which there is no row.
use Rattle.std.proofs.Common.{◌≡◌, ◌∙◌, ◌&&◌, ℕ, List, [], ◌∷◌, ◌++◌, Bool, true, false, refl, ap, filter, nat_le}
use Rattle.std.proofs.lemmas.Bool.{both_ways}
use Rattle.std.specs.List.{AllByRecursion}
use Rattle.hazard_types.specs.Places.{Place}
use Rattle.hazard_types.specs.declared.codes.Action.TheVariants.{Con}
use Rattle.hazard_types.specs.declared.codes.Category.{Category}
use Rattle.hazard_types.specs.declared.hazard.Event.{Event}
use Rattle.hazard_types.specs.declared.line.Line.{Line}
use Rattle.hazard_types.specs.declared.line.Row.{Row}
use Rattle.office_types.specs.declared.request.Intent.{Intent}
use Rattle.office_types.specs.declared.request.Intent.TheVariants.{Put, Finish, Restate, Routine}
use Rattle.event_life.specs.Products.{has_rows, is_routine, row_at}
use Rattle.event_numbers.specs.declared.Count.{Count}
use Rattle.event_numbers.specs.Counts.{count_of}
use Rattle.action_planner.specs.Conditions.{AreNumbered}
use Rattle.action_planner.specs.Placed.{Placed, event_of_intent, placed_from, zones_of}
use Rattle.action_planner.specs.Lines.{added_lines, is_continued, line_on, lines_from, lines_in, planned_lines}
use Rattle.action_planner.proofs.LawfulLists.{all_append, all_each, all_map}
use Rattle.action_planner.proofs.LawfulKeys.{each_intent, each_zone, finish_never, put-no_routine, restate_never}

abbrev pub is_routine_intent : Intent → Bool
is_routine_intent (Routine part) = true
is_routine_intent _ = false

zero_intent : (counts : List Count) (t : ℕ) (earlier : List Intent) (i : Intent) → is_routine_intent i ≡ true → (event_of_intent counts t earlier i).etn ≡ 0
zero_intent counts t earlier (Put part) h = cc
zero_intent counts t earlier (Finish part) h = cc
zero_intent counts t earlier (Restate part) h = cc
zero_intent counts t earlier (Routine part) h = refl

-- a routine intent is on number 0000
abbrev pub IsZero : Placed → Type 0
IsZero p = is_routine_intent p.intent ≡ true → p.event.etn ≡ 0

pub zero_placed : (counts : List Count) (t : ℕ) (earlier intents : List Intent) → AllByRecursion IsZero (placed_from counts t earlier intents)
zero_placed counts t earlier [] = tt
zero_placed counts t earlier (i ∷ intents) = (zero_intent counts t earlier i, zero_placed counts t (earlier ++ i ∷ []) intents)

-- an event of number 0 has no rows
pub numbered_from : (rows : List Row) (counts : List Count) → AreNumbered rows counts → (e : Event) → e.etn ≡ 0 → has_rows rows e ≡ false
numbered_from rows counts numbered e zero = numbered e ∙ ap (λ (n : ℕ). nat_le 1 n && nat_le n (count_of counts e.hazard e.year)) zero

module _ (rows : List Row) (t : ℕ) (all : List Placed) where
  abbrev HasZero : Line → Type 0
  HasZero line = is_routine line.action ≡ true → line.event.etn ≡ 0

  zero_in : (e : Event) (i : Intent) (z : Place) → (is_routine_intent i ≡ true → e.etn ≡ 0) → AllByRecursion HasZero (lines_in rows t all e i z)
  zero_in e (Put part) z zero = ((λ h. absurd (both_ways _ (put-no_routine rows t e part z) h)), tt)
  zero_in e (Finish part) z zero = finish_never is_routine (λ (line : Line). line.event.etn ≡ 0) refl refl refl rows t all (row_at rows e z)
  zero_in e (Restate part) z zero = restate_never is_routine (λ (line : Line). line.event.etn ≡ 0) refl t (row_at rows e z)
  zero_in e (Routine part) z zero = ((λ h. zero refl), tt)

  pub routine_zero : (c : Category) → AllByRecursion IsZero all → AllByRecursion HasZero (planned_lines c rows t all)
  routine_zero c zeros = all_append HasZero (lines_from rows t all all) (added_lines c rows t all)
      (each_intent rows t all HasZero IsZero (λ p h. each_zone rows t all HasZero (λ z. Unit {0}) p.event p.intent (λ z u. zero_in p.event p.intent z h) (zones_of p.intent) (all_each (λ z. Unit {0}) (λ z. tt) (zones_of p.intent))) all zeros)
      (all_map HasZero (line_on Con t) (filter (is_continued c t all) rows) (all_each (λ r. HasZero (line_on Con t r)) (λ r h. cc) (filter (is_continued c t all) rows)))
