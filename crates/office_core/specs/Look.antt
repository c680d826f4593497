-- What is looked at, and why a look is refused.
use Rattle.std.specs.Prelude.{◌≡◌, ◌⊎◌, ◌+◌, ℕ, ℤ, nat_abs, true, false, List, Option, None, Some}
use Rattle.office_types.specs.declared.refusal.Refusal.{Refusal}
use Rattle.office_types.specs.declared.refusal.Refusal.TheVariants as refusal
use Rattle.office_types.specs.declared.request.Draft.{Draft as SomeDraft}
use Rattle.office_types.specs.declared.request.Plan.{Plan}
use Rattle.office_types.specs.declared.request.Query.{Query}
use Rattle.office_types.specs.declared.request.Query.TheVariants.{Board, Product, After, Draft, Preview}
use Rattle.office_types.specs.declared.request.Sent.{Sent}
use Rattle.board_text.specs.Rows.{board_text}
use Rattle.event_life.specs.Shown.{shown_at}
use Rattle.product_template.specs.Text.{text_of}
use Rattle.request_json.specs.Replies.{draft_text}
use Rattle.office_core.specs.Making.{IsPlanOf, broken_lines, broken_product, drafted_by}
use Rattle.office_core.specs.Rules.{is_out, minute_of}
use Rattle.office_core.specs.State.{State, draft_at, product_at}
use Rattle.office_core.specs.Step.{BreaksOnLines}

-- a product is shown as its text
abbrev pub ShowsProduct : Option Sent → List ℕ → Type 0
ShowsProduct None text = ⊥
ShowsProduct (Some sent) text = text ≡ sent.text

abbrev pub ShowsDraft : Option SomeDraft → List ℕ → Type 0
ShowsDraft None text = ⊥
ShowsDraft (Some d) text = text ≡ draft_text d

-- the text that a send of the draft at the minute would give
abbrev pub ShowsPreview : State → ℕ → Option SomeDraft → List ℕ → Type 0
ShowsPreview s t None text = ⊥
ShowsPreview s t (Some d) text =
    (broken_lines s t (drafted_by (Some d)) ≡ None) × (plan : Plan) × IsPlanOf s t (drafted_by (Some d)) plan
    × (broken_product s t plan ≡ None) × (text ≡ text_of s.settings s.class plan t s.edition)

-- the text that a look gives: the board at the reading itself, a preview at the minute of an entry
abbrev pub Shows : State → Query → ℤ → List ℕ → Type 0
Shows s Board reading text = (is_out reading ≡ false) × (text ≡ board_text (shown_at (nat_abs reading) s.rows))
Shows s (Product number) reading text = ShowsProduct (product_at s number) text
Shows s (After number) reading text = ShowsProduct (product_at s (number + 1)) text
Shows s (Draft id) reading text = ShowsDraft (draft_at s id) text
Shows s (Preview id) reading text = (is_out reading ≡ false) × ShowsPreview s (minute_of s reading) (draft_at s id) text

-- ClockOut
abbrev pub IsOut : ℤ → Refusal → Type 0
IsOut reading x = (is_out reading ≡ true) × (x ≡ refusal.ClockOut reading)

abbrev pub LacksProduct : Option Sent → Refusal → Type 0
LacksProduct found x = (found ≡ None) × (x ≡ refusal.NoProduct)

abbrev pub LacksDraft : Option SomeDraft → Refusal → Type 0
LacksDraft found x = (found ≡ None) × (x ≡ refusal.NoDraft)

abbrev pub BreaksAsPreview : State → ℕ → Option SomeDraft → Refusal → Type 0
BreaksAsPreview s t None x = x ≡ refusal.NoDraft
BreaksAsPreview s t (Some d) x = BreaksOnLines s t (drafted_by (Some d)) x

-- why a look is refused: the clock before the draft
abbrev pub RefusesLook : State → Query → ℤ → Refusal → Type 0
RefusesLook s Board reading x = IsOut reading x
RefusesLook s (Product number) reading x = LacksProduct (product_at s number) x
RefusesLook s (After number) reading x = LacksProduct (product_at s (number + 1)) x
RefusesLook s (Draft id) reading x = LacksDraft (draft_at s id) x
RefusesLook s (Preview id) reading x = IsOut reading x ⊎ ((is_out reading ≡ false) × BreaksAsPreview s (minute_of s reading) (draft_at s id) x)
