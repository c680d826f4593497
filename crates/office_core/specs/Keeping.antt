-- What is asked of a product that is made, so that all stays sound and the texts agree with the board.
use Rattle.std.specs.Prelude.{◌≡◌, ℕ, List, Option, None, Some, ⊤}
use Rattle.office_types.specs.declared.request.Plan.{Plan}
use Rattle.event_numbers.specs.declared.Count.{Count}
use Rattle.action_planner.specs.Conditions.{CanPlan}
use Rattle.action_planner.specs.Corrections.{CanCorrect}
use Rattle.product_frame.specs.Frame.{FrameOf}
use Rattle.product_frame.specs.Splitting.{IsOneProduct}
use Rattle.product_template.specs.Text.{frame_of}
use Rattle.office_core.specs.Making.{Making, IsPlanOf, letters_of, made_of, original_of}
use Rattle.office_core.specs.State.{State}
use Rattle.office_core.specs.declared.made.Made.{Made}

-- the product may be planned
abbrev pub MayBePlanned : State → List Count → ℕ → Making → Type 0
MayBePlanned s counts t Making.none = ⊤
MayBePlanned s counts t (Making.drafted c intents) = CanPlan s.rows counts c intents t
MayBePlanned s counts t (Making.corrected sent given) = CanCorrect s.rows sent (letters_of s.products (original_of sent)) t

-- the text of a product that is made reads as its plan, and is one product
abbrev pub ReadsWell : State → ℕ → Making → Option Made → Type 0
ReadsWell s t making None = ⊤
ReadsWell s t making (Some made) =
    (plan : Plan) × IsPlanOf s t making plan × (made ≡ made_of s t making plan)
    × FrameOf made.sent.text (frame_of s.settings s.class plan t) × IsOneProduct made.sent.text
