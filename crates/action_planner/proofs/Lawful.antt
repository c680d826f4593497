-- A draft of which no rule is broken has lawful lines.
use Rattle.std.proofs.Common.{◌≡◌, ℕ, List, [], ◌∷◌, ◌++◌, Bool, true, false, Option, None, refl, ap, ◌∙◌}
use Rattle.std.proofs.lemmas.Bool.{and_from}
use Rattle.std.specs.Bool.{IsTrue}
use Rattle.std.specs.List.{All, AllByRecursion, AllPairs, list_all}
use Rattle.std.proofs.lemmas.List.Elements.{All-from_recursion}
use Rattle.std.specs.List.Sorted.{IsStrictlySortedBy}
use Rattle.std.specs.Option.{is_none}
use Rattle.hazard_types.specs.declared.codes.Category.{Category}
use Rattle.hazard_types.specs.declared.line.Line.{Line}
use Rattle.hazard_types.specs.declared.line.Row.{Row}
use Rattle.office_types.specs.declared.request.Intent.{Intent}
use Rattle.event_life.specs.declared.life.Breach.{Breach}
use Rattle.event_life.specs.Table.{breach_of_line}
use Rattle.event_life.specs.Lives.{opens}
use Rattle.event_life.specs.Products.{around_of, breach_in, by_key, has_higher, is_routine, is_second, is_upgrade, judged_from, life_at, row_at}
use Rattle.event_life.proofs.LawfulLemmas.{HaveNoBreach}
use Rattle.event_life.proofs.Spoken.{breach_in-first}
use Rattle.event_numbers.specs.declared.Count.{Count}
use Rattle.event_life.specs.Reordered.{are_lawful}
use Rattle.action_planner.specs.Placed.{placed}
use Rattle.action_planner.specs.Lines.{planned_lines, unless_ended}
use Rattle.action_planner.specs.Conditions.{CanPlan}
use Rattle.action_planner.specs.Offences.{broken}
use Rattle.action_planner.proofs.LawfulLists.{EachPair, all_both, all_weaker}
use Rattle.action_planner.proofs.LawfulPlaced.{IsFit, fits, places_apart}
use Rattle.action_planner.proofs.LawfulSteps.{IsSound, no_row}
use Rattle.action_planner.proofs.LawfulKeys.{AreApart, AreFirst, all_first, distinct_from, first_more, planned_apart, turned_pairs}
use Rattle.action_planner.proofs.RoutineLemmas.{numbered_from, routine_zero, zero_placed}
use Rattle.action_planner.proofs.LawfulOpenings.{opens_exactly}
use Rattle.action_planner.proofs.LawfulLines.{planned_sound}
use Rattle.action_planner.proofs.LawfulUpgrades.{planned_higher}

module _ (rows : List Row) (t : ℕ) (all : List Line) where
  -- a line has no breach of its own
  abbrev pub IsAlone : Line → Type 0
  IsAlone line = breach_of_line (life_at rows line) line t (around_of rows t all line) ≡ None

  line_alone : (earlier : List Line) (line : Line) (b : Bool) → is_routine line.action ≡ b → is_second earlier line ≡ false → IsAlone line → breach_in rows t all earlier line ≡ None
  unfolding breach_in
  line_alone earlier line true own first alone = rw own refl
  line_alone earlier line false own first alone = breach_in-first rows t all earlier line own first ∙ alone

  pub no_breaches : (earlier lines : List Line) → AreFirst earlier lines → AllByRecursion IsAlone lines → HaveNoBreach rows t all earlier lines
  no_breaches earlier [] first alone = tt
  no_breaches earlier (line ∷ lines) first alone =
      (line_alone earlier line (is_routine line.action) refl first.0.0 alone.0, no_breaches (earlier ++ line ∷ []) lines (first_more earlier line lines first) alone.1)

  pub none_judged : (earlier lines : List Line) → HaveNoBreach rows t all earlier lines → list_all (λ (l : Line × Option Breach). is_none l.1) (judged_from rows t all earlier lines) ≡ true
  none_judged earlier [] h = refl
  none_judged earlier (line ∷ lines) h = and_from _ _ (ap (λ (o : Option Breach). is_none o) h.0) (none_judged (earlier ++ line ∷ []) lines h.1)

module _ (c : Category) (rows : List Row) (counts : List Count) (intents : List Intent) (t : ℕ) (can : CanPlan rows counts c intents t) (up : IsStrictlySortedBy by_key rows) (h : broken c rows t (placed counts t intents) ≡ None) where
  abbrev pub these : List Line
  these = planned_lines c rows t (placed counts t intents)

  fit : AllByRecursion (IsFit rows t (placed counts t intents)) (placed counts t intents)
  fit = fits c rows counts intents t can h

  pub apart : EachPair AreApart these
  apart = planned_apart rows t (placed counts t intents) c up fit (places_apart counts t [] intents)

  pub sound : AllByRecursion (IsSound rows t) these
  sound = planned_sound rows t (placed counts t intents) can.consistent.ends c up fit

  higher : AllByRecursion (λ l. is_upgrade l.action ≡ true → has_higher rows t these l ≡ true) these
  higher = planned_higher rows t (placed counts t intents) c up fit apart sound

  alone : AllByRecursion (IsAlone rows t these) these
  alone =
      let S : Line → Type 0 = λ l. IsSound rows t l × (is_upgrade l.action ≡ true → has_higher rows t these l ≡ true) in
      all_weaker S (IsAlone rows t these) (λ l s. s.0 (has_higher rows t these l) s.1) these (all_both (IsSound rows t) (λ l. is_upgrade l.action ≡ true → has_higher rows t these l ≡ true) these sound higher)

  pub planned_lawful : IsTrue (are_lawful rows t these)
  planned_lawful = none_judged rows t these [] these (no_breaches rows t these [] these (all_first these, turned_pairs these apart) alone)

  pub planned_distinct : AllPairs (λ (l m : Line). (l.event ≡ m.event) × (l.zone ≡ m.zone) → ⊥) these
  planned_distinct = distinct_from these apart

  pub planned_opens : All (λ (l : Line). is_routine l.action ≡ false → opens l.action ≡ is_none (unless_ended (row_at rows l.event l.zone))) these
  planned_opens =
      let P : Line → Type 0 = λ l. is_routine l.action ≡ false → opens l.action ≡ is_none (unless_ended (row_at rows l.event l.zone)) in
      All-from_recursion P these (all_weaker (IsAlone rows t these) P (λ l k plain. opens_exactly rows l t (around_of rows t these l) plain k) these alone)

  -- routine lines are on number 0000, of which there is no row
  pub routine_rowless : All (λ (l : Line). is_routine l.action ≡ true → row_at rows l.event l.zone ≡ None) these
  routine_rowless =
      let P : Line → Type 0 = λ l. is_routine l.action ≡ true → row_at rows l.event l.zone ≡ None in
      All-from_recursion P these
      (all_weaker (λ l. is_routine l.action ≡ true → l.event.etn ≡ 0) P (λ l zero own. no_row rows l.event l.zone (numbered_from rows counts can.numbered l.event (zero own))) these
      (routine_zero rows t (placed counts t intents) c (zero_placed counts t [] intents)))
