-- The rules asked in groups are the rules in order; and the places of intents are below their count.
use Rattle.std.proofs.Common.{◌≡◌, ◌+◌, ◌<◌, ◌≤◌, ℕ, List, [], ◌∷◌, ◌++◌, length, refl, sym, ap, ◌∙◌, arith, length-append, map, Option, Some, None, option_map}
use Rattle.std.specs.List.{All, AllByRecursion}
use Rattle.std.specs.Option.{option_or}
use Rattle.std.proofs.lemmas.List.Elements.{All-from_recursion}
use Rattle.hazard_types.specs.declared.codes.Category.{Category}
use Rattle.hazard_types.specs.declared.line.Line.{Line}
use Rattle.hazard_types.specs.declared.line.Row.{Row}
use Rattle.office_types.specs.declared.request.Intent.{Intent}
use Rattle.hazard_board.specs.Clashes.{least_clash}
use Rattle.hazard_board.specs.Taken.{rows_taken}
use Rattle.event_numbers.specs.declared.Count.{Count}
use Rattle.office_types.specs.declared.refusal.Refusal.{Refusal}
use Rattle.action_planner.specs.declared.rules.Rule.{Rule}
use Rattle.action_planner.specs.Placed.{Placed, placed, placed_from}
use Rattle.action_planner.specs.Lines.{planned_lines}
use Rattle.action_planner.specs.Offences.{broken, first_by, first_given, no_intent, refused_clash, too_many}
use Rattle.action_planner.specs.Rules.{offence, before_conflict, on_numbers, broken_early, broken_late}

or_none : {X : Type 0} (x : Option X) → option_or x None ≡ x
or_none None = refl
or_none (Some x) = refl

or_or : {X : Type 0} (x y z : Option X) → option_or (option_or x y) z ≡ option_or x (option_or y z)
or_or None y z = refl
or_or (Some x) y z = refl

given-append : {X : Type 0} (xs ys : List (Option X)) → first_given (xs ++ ys) ≡ option_or (first_given xs) (first_given ys)
given-append [] ys = refl
given-append (x ∷ xs) ys = ap (option_or x) (given-append xs ys) ∙ sym (or_or x (first_given xs) (first_given ys))

-- what is given first of two groups with one before each and one behind
two_groups : {X : Type 0} (a : Option X) (xs : List (Option X)) (b : Option X) (ys : List (Option X)) (c : Option X) →
    option_or (option_or a (first_given xs)) (option_or b (option_or (first_given ys) c)) ≡ first_given (a ∷ (xs ++ b ∷ (ys ++ c ∷ [])))
two_groups a xs b ys c = or_or a (first_given xs) _ ∙ sym (simp (given-append, or_none))

-- the rules in two groups are the rules in order
pub in_groups : (c : Category) (rows : List Row) (t : ℕ) (ps : List Placed) → option_or (broken_early rows t ps) (broken_late rows t ps (planned_lines c rows t ps)) ≡ broken c rows t ps
unfolding broken broken_early broken_late
in_groups c rows t ps =
    let each : List Rule → List (Option Refusal) = map (λ (rule : Rule). first_by (offence rows t ps rule) ps) in
    let lines = planned_lines c rows t ps in
    two_groups (no_intent ps) (each before_conflict) (option_map refused_clash (least_clash t (rows_taken rows t lines))) (each on_numbers) (too_many (length lines))

module _ (c : Category) (rows : List Row) (t : ℕ) (ps : List Placed) where
  -- an early rule is named first
  pub early_named : (r : Refusal) → broken_early rows t ps ≡ Some r → broken c rows t ps ≡ Some r
  early_named r h = sym (in_groups c rows t ps) ∙ ap (λ (o : Option Refusal). option_or o (broken_late rows t ps (planned_lines c rows t ps))) h

  -- then one of the others
  pub late_named : (lines : List Line) (found : Option Refusal) → lines ≡ planned_lines c rows t ps → broken_early rows t ps ≡ None → found ≡ broken_late rows t ps lines → broken c rows t ps ≡ found
  late_named lines found same early late =
      sym (in_groups c rows t ps)
      ∙ ap (λ (o : Option Refusal). option_or o (broken_late rows t ps (planned_lines c rows t ps))) early
      ∙ ap (broken_late rows t ps) (sym same)
      ∙ sym late

-- each place is below a bound that the places do not pass

below_from : (counts : List Count) (t bound : ℕ) (earlier intents : List Intent) → length earlier + length intents ≤ bound → AllByRecursion (λ (p : Placed). p.place < bound) (placed_from counts t earlier intents)
below_from counts t bound earlier [] few = tt
below_from counts t bound earlier (i ∷ intents) few =
    let more : length (earlier ++ i ∷ []) ≡ length earlier + 1 = length-append earlier (i ∷ []) in
    (omega arith, below_from counts t bound (earlier ++ i ∷ []) intents (omega arith))

pub places_below : (counts : List Count) (t bound : ℕ) (intents : List Intent) → length intents ≤ bound → All (λ (p : Placed). p.place < bound) (placed counts t intents)
places_below counts t bound intents few = All-from_recursion (λ (p : Placed). p.place < bound) (placed counts t intents) (below_from counts t bound [] intents (omega arith))
