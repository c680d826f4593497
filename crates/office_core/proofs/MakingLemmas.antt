-- What is planned and written is well made, and the rule that is named is the first that is broken.
use Rattle.std.proofs.Common.{◌≡◌, ◌∙◌, ◌≤◌, ◌+◌, ℕ, List, [], ◌∷◌, ◌++◌, count_by, Option, Some, None, Result, Ok, Err, IfOk, OnOk, IsTrue, ap, refl, subst, sym, rules}
use Rattle.hazard_types.specs.declared.codes.Category.{Category}
use Rattle.hazard_types.specs.declared.hazard.Event.{Event}
use Rattle.office_types.specs.declared.refusal.Refusal.{Refusal}
use Rattle.office_types.specs.declared.request.EventTexts.{EventTexts}
use Rattle.office_types.specs.declared.request.Intent.{Intent}
use Rattle.office_types.specs.declared.request.Plan.{Plan}
use Rattle.office_types.specs.declared.request.Sent.{Sent}
use Rattle.event_life.specs.Openings.{is_numbered}
use Rattle.event_life.specs.Reordered.{are_lawful}
use Rattle.event_numbers.specs.declared.Count.{Count}
use Rattle.event_numbers.specs.Counts.{AreDrawnInOrder, count_of}
use Rattle.action_planner.specs.Corrections.{IsCorrection, broken_correction}
use Rattle.action_planner.specs.Offences.{broken}
use Rattle.action_planner.specs.Placed.{Placed, opened, placed}
use Rattle.action_planner.specs.Plans.{IsPlan}
use Rattle.action_planner.specs.Told.{counts_in}
use Rattle.product_frame.specs.Frame.{FrameOf}
use Rattle.product_frame.specs.Splitting.{IsOneProduct}
use Rattle.product_template.specs.Text.{frame_of}
use Rattle.office_core.specs.Making.{Making, IsPlanOf, broken_lines, broken_product, last_of_category, letters_of, made_of, original_in, original_of}
use Rattle.office_core.specs.State.{State}
use Rattle.office_core.specs.Step.{IsMade}
use Rattle.office_core.specs.Views.{OfficeView}
use Rattle.office_core.specs.WellMade.{IsWellMade, made_with}
use Rattle.office_core.specs.declared.made.Made.{Made}

-- ---- a draft

pub drafted_lines : (s : State) (counts : List Count) (t : ℕ) (c : Category) (intents : List Intent) (x : Option Refusal) → placed (counts_in s.rows) t intents ≡ placed counts t intents →
    broken c s.rows t (placed counts t intents) ≡ x → broken_lines s t (Making.drafted c intents) ≡ x
unfolding broken_lines
drafted_lines s counts t c intents x same e = ap (λ (ps : List Placed). broken c s.rows t ps) same ∙ e

pub drafted_plan : (s : State) (counts : List Count) (t : ℕ) (c : Category) (intents : List Intent) (plan : Plan) → placed (counts_in s.rows) t intents ≡ placed counts t intents →
    IsPlan c s.rows t (placed counts t intents) plan → IsPlanOf s t (Making.drafted c intents) plan
drafted_plan s counts t c intents plan same p = subst (λ (ps : List Placed). IsPlan c s.rows t ps plan) (sym same) p

-- what the planner says of a plan, where the rows and numbers are the office's
pub record IsPlanned (o : OfficeView) (c : Category) (intents : List Intent) (t : ℕ) (plan : Plan) : Type 0 where
  pub is : IsPlan c o.state.rows t (placed o.counts t intents) plan
  pub lawful : IsTrue (are_lawful o.state.rows t plan.lines)
  pub kept : broken c o.state.rows t (placed o.counts t intents) ≡ None

-- ---- numbers

-- each of these events has the number behind those before it
abbrev pub AreNext : List Count → List Event → Type 0
AreNext counts events = (earlier later : List Event) (e : Event) → events ≡ earlier ++ e ∷ later → (e.etn ≡ count_of counts e.hazard e.year + count_by (is_numbered e.hazard e.year) earlier + 1) × (e.etn ≤ 9999)

pub next_drawn : (counts : List Count) (events : List Event) → AreNext counts events → AreDrawnInOrder counts events
next_drawn counts events next earlier later e h = let p = next earlier later e h in subst (λ (n : ℕ). n ≤ 9999) p.0 p.1

no_event : (earlier later : List Event) (e : Event) → [] ≡ earlier ++ e ∷ later → ⊥
no_event [] later e h = search (rules, h)
no_event (d ∷ earlier) later e h = search (rules, h)

pub none_drawn : (counts : List Count) → AreDrawnInOrder counts []
none_drawn counts earlier later e h = absurd (no_event earlier later e h)

-- ---- the product

-- what is written of a plan
pub record IsWritten (s : State) (t : ℕ) (original : Option ℕ) (plan : Plan) (made : Made) : Type 0 where
  pub is : made ≡ made_with s t original plan
  pub kept : broken_product s t plan ≡ None
  pub frame : FrameOf made.sent.text (frame_of s.settings s.class plan t)
  pub one : IsOneProduct made.sent.text

-- what a plan makes, where the making has one
made_well : (s : State) (counts : List Count) (t : ℕ) (making : Making) (plan : Plan) (made : Made) →
    ((some : Option Made) → some ≡ Some (made_of s t making plan) → broken_product s t plan ≡ None → IsMade s t making some) →
    broken_lines s t making ≡ None → IsPlanOf s t making plan → IsTrue (are_lawful s.rows t plan.lines) → AreDrawnInOrder counts plan.opened →
    IsWritten s t (original_in making) plan made → IsWellMade s counts t making made
made_well s counts t making plan made makes kept is lawful numbers written = record {
  kept = kept;
  product = makes (Some made) (ap (λ (m : Made). Some m) written.is) written.kept;
  reads = (plan, is, written.is, written.frame, written.one);
  lawful = subst (λ (m : Made). IsTrue (are_lawful s.rows t m.sent.lines)) (sym written.is) lawful;
  numbers = subst (λ (m : Made). AreDrawnInOrder counts m.opened) (sym written.is) numbers;
}

pub drafted_well : (s : State) (counts : List Count) (t : ℕ) (c : Category) (intents : List Intent) (plan : Plan) (made : Made) →
    broken_lines s t (Making.drafted c intents) ≡ None → IsPlanOf s t (Making.drafted c intents) plan → IsTrue (are_lawful s.rows t plan.lines) → AreDrawnInOrder counts plan.opened →
    IsWritten s t None plan made → IsWellMade s counts t (Making.drafted c intents) made
drafted_well s counts t c intents plan made kept is = made_well s counts t (Making.drafted c intents) plan made (λ some one unbroken. (plan, is, unbroken, one)) kept is

pub corrected_well : (s : State) (counts : List Count) (t : ℕ) (sent : Sent) (given : List EventTexts) (plan : Plan) (made : Made) →
    broken_lines s t (Making.corrected sent given) ≡ None → IsPlanOf s t (Making.corrected sent given) plan → IsTrue (are_lawful s.rows t plan.lines) → AreDrawnInOrder counts plan.opened →
    IsWritten s t (Some (original_of sent)) plan made → IsWellMade s counts t (Making.corrected sent given) made
corrected_well s counts t sent given plan made kept is = made_well s counts t (Making.corrected sent given) plan made (λ some one unbroken. (plan, is, unbroken, one)) kept is

-- what is said of a writing's result, for one that is there
pub if_written : {E : Type 0} (s : State) (t : ℕ) (original : Option ℕ) (plan : Plan) (P : Made → Type 0) (r : Result Made E) →
    IfOk r (λ made. made ≡ made_with s t original plan) → OnOk r (broken_product s t plan ≡ None) →
    IfOk r (λ made. FrameOf made.sent.text (frame_of s.settings s.class plan t)) → IfOk r (λ made. IsOneProduct made.sent.text) →
    ((made : Made) → IsWritten s t original plan made → P made) → IfOk r P
if_written s t original plan P (Ok made) is kept frame one k = k made (record { is = is; kept = kept; frame = frame; one = one })
if_written s t original plan P (Err x) is kept frame one k = tt

-- ---- a correction

pub corrected_lines : (s : State) (t : ℕ) (sent : Sent) (given : List EventTexts) (last letters : ℕ) (x : Option Refusal) →
    last ≡ last_of_category s.products sent.category → letters ≡ letters_of s.products (original_of sent) →
    broken_correction s.rows t sent last letters given ≡ x → broken_lines s t (Making.corrected sent given) ≡ x
unfolding broken_lines
corrected_lines s t sent given last letters x hl hn e =
    ap (λ (n : ℕ). broken_correction s.rows t sent n (letters_of s.products (original_of sent)) given) (sym hl)
    ∙ ap (λ (n : ℕ). broken_correction s.rows t sent last n given) (sym hn) ∙ e

-- what the planner says of a correction, where the rows are the office's
pub record IsCorrectionPlanned (o : OfficeView) (sent : Sent) (given : List EventTexts) (last letters t : ℕ) (plan : Plan) : Type 0 where
  pub is : IsCorrection o.state.rows t sent letters given plan
  pub lawful : IsTrue (are_lawful o.state.rows t plan.lines)
  pub kept : broken_correction o.state.rows t sent last letters given ≡ None

-- ---- no product

pub nothing_made : (s : State) (t : ℕ) (making : Making) → making ≡ Making.none → (broken_lines s t making ≡ None) × IsMade s t making None
unfolding broken_lines
nothing_made s t making e = subst (λ (m : Making). (broken_lines s t m ≡ None) × IsMade s t m None) (sym e) (refl, refl)
