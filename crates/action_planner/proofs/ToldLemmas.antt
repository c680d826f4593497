-- The numbers of a draft's NEW lines, and what the rows tell of numbers.
use Rattle.std.proofs.Common.{◌≡◌, ℕ, ◌+◌, List, [], ◌∷◌, ◌++◌, true, length, refl, ap}
use Rattle.std.specs.List.{count_by}
use Rattle.std.proofs.lemmas.List.Elements.{recursion_from_All}
use Rattle.hazard_types.specs.Days.{year_of}
use Rattle.hazard_types.specs.declared.codes.Category.{Category}
use Rattle.hazard_types.specs.declared.hazard.Hazard.{Hazard}
use Rattle.hazard_types.specs.declared.line.Line.{Line}
use Rattle.hazard_types.specs.declared.line.Row.{Row}
use Rattle.office_types.specs.declared.request.Intent.{Intent}
use Rattle.office_types.specs.declared.request.Intent.TheVariants.{Put, Finish, Restate, Routine}
use Rattle.office_types.specs.declared.request.Target.{Target}
use Rattle.office_types.specs.declared.request.Target.TheVariants.{Fresh, Join}
use Rattle.event_life.specs.Openings.{numbers_of, events_opened_by}
use Rattle.event_life.specs.Products.{is_new}
use Rattle.event_numbers.specs.declared.Count.{Count}
use Rattle.event_numbers.specs.Counts.{count_of}
use Rattle.action_planner.specs.Conditions.{AreNumbered, CanPlan, MayHold}
use Rattle.action_planner.specs.Lines.{planned_lines}
use Rattle.action_planner.specs.Placed.{event_of_intent, event_of_target, opened, opens_hazard, placed, placed_from}
use Rattle.action_planner.specs.Told.{counts_in}
use Rattle.action_planner.proofs.LawfulLists.{Has, all_has}
use Rattle.action_planner.proofs.LawfulOpenings.{new_lines_opened, opened_have_lines, some_placed}
use Rattle.action_planner.proofs.NumberLemmas.{counts_told, numbers_alike}
use Rattle.action_planner.proofs.Standing.{opened_go_on}

pub new_numbers_alike : (c : Category) (rows : List Row) (counts : List Count) (intents : List Intent) (t : ℕ) → CanPlan rows counts c intents t →
    (h : Hazard) (year : ℕ) → numbers_of h year (events_opened_by (planned_lines c rows t (placed counts t intents))) ≡ numbers_of h year (opened (placed counts t intents))
new_numbers_alike c rows counts intents t can h year =
    let ps = placed counts t intents in
    let lines = planned_lines c rows t ps in
    let on = opened_go_on counts t intents h year in
    numbers_alike h year (count_of counts h year + 1) on.0 lines (opened ps) on.1
    (opened_have_lines rows t ps c (some_placed counts c t [] intents (recursion_from_All (MayHold c) intents can.fitting)))
    (λ l g n. all_has (λ (x : Line). is_new x.action ≡ true → Has (opened ps) x.event) lines l (new_lines_opened rows t ps c) g n)

-- counts that tell the same of each hazard and year place intents alike

module _ (old new : List Count) (same : (h : Hazard) (year : ℕ) → count_of old h year ≡ count_of new h year) (t : ℕ) where
  target_alike : (earlier : List Intent) (target : Target) → event_of_target old t earlier target ≡ event_of_target new t earlier target
  target_alike earlier (Fresh h) = ap (λ (n : ℕ). record { hazard = h; etn = n + 1 + count_by (opens_hazard h) earlier; year = year_of t }) (same h (year_of t))
  target_alike earlier (Join e) = refl

  intent_alike : (earlier : List Intent) (i : Intent) → event_of_intent old t earlier i ≡ event_of_intent new t earlier i
  intent_alike earlier (Put part) = target_alike earlier part.target
  intent_alike earlier (Finish part) = refl
  intent_alike earlier (Restate part) = refl
  intent_alike earlier (Routine part) = refl

  placed_alike : (earlier intents : List Intent) → placed_from old t earlier intents ≡ placed_from new t earlier intents
  placed_alike earlier [] = refl
  placed_alike earlier (i ∷ intents) =
      let event_is = intent_alike earlier i in
      let rest = placed_alike (earlier ++ i ∷ []) intents in
      λ j. record { place = length earlier; event = event_is j; intent = i } ∷ rest j

pub rows_tell_counts : (rows : List Row) (counts : List Count) → AreNumbered rows counts → (h : Hazard) (year : ℕ) → count_of (counts_in rows) h year ≡ count_of counts h year
rows_tell_counts rows counts numbered h year = counts_told rows counts numbered h year

pub rows_tell_places : (rows : List Row) (counts : List Count) (intents : List Intent) (t : ℕ) → AreNumbered rows counts → placed (counts_in rows) t intents ≡ placed counts t intents
rows_tell_places rows counts intents t numbered = placed_alike (counts_in rows) counts (λ h year. counts_told rows counts numbered h year) t [] intents
