-- The lines of a plan: they are lawful, and they are those of the cases.
use Rattle.std.proofs.Common.{◌≡◌, ◌↔◌, ℕ, List, None, ap, sym, subst, ◌∙◌}
use Rattle.std.specs.Bool.{IsTrue}
use Rattle.std.specs.List.{Contains}
use Rattle.std.specs.List.Sorted.{IsStrictlySortedBy}
use Rattle.hazard_types.specs.declared.codes.Category.{Category}
use Rattle.hazard_types.specs.declared.line.Line.{Line}
use Rattle.hazard_types.specs.declared.line.Row.{Row}
use Rattle.office_types.specs.declared.request.Intent.{Intent}
use Rattle.event_life.specs.Products.{by_key}
use Rattle.event_numbers.specs.declared.Count.{Count}
use Rattle.event_life.specs.Reordered.{are_lawful}
use Rattle.action_planner.specs.Cases.{IsPlanned}
use Rattle.action_planner.specs.Placed.{placed}
use Rattle.action_planner.specs.Lines.{planned_lines}
use Rattle.action_planner.specs.Conditions.{CanPlan}
use Rattle.action_planner.specs.Offences.{broken}
use Rattle.action_planner.proofs.Cases.{planned_exactly}
use Rattle.action_planner.proofs.Lawful.{planned_lawful}

module _ (c : Category) (rows : List Row) (counts : List Count) (intents : List Intent) (t : ℕ) (said : List Line)
    (can : CanPlan rows counts c intents t) (sorted : IsStrictlySortedBy by_key rows)
    (kept : broken c rows t (placed counts t intents) ≡ None) (planned : said ≡ planned_lines c rows t (placed counts t intents)) where
  pub lawful_plan : IsTrue (are_lawful rows t said)
  lawful_plan = ap (λ (lines : List Line). are_lawful rows t lines) planned ∙ planned_lawful c rows counts intents t can sorted kept

  pub cases_of_plan : (line : Line) → Contains said line ↔ IsPlanned c rows t (placed counts t intents) line
  cases_of_plan line = subst (λ (lines : List Line). Contains lines line ↔ IsPlanned c rows t (placed counts t intents) line) (sym planned) (planned_exactly c rows counts intents t can sorted kept line)
