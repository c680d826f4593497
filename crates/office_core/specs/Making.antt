-- What a send, an issue and a correction make: a product, or the first rule that it breaks.
use Rattle.std.specs.Prelude.{◌==◌, ℕ, ◌+◌, min, Bool, false, List, [], ◌∷◌, length, fold, count_by, nat_lt, nat_le, Option, None, Some, if◌then◌else◌}
use Rattle.std.specs.Option.{option_or}
use Rattle.hazard_types.specs.Hazards.{facts_of}
use Rattle.hazard_types.specs.contracts.codes.CategoryPartialEq.TheImpl as category_test
use Rattle.hazard_types.specs.declared.codes.Category.{Category}
use Rattle.hazard_types.specs.declared.codes.Category.TheVariants.{Wsw, Flw, Fls}
use Rattle.hazard_types.specs.declared.facts.Facts.{Facts}
use Rattle.office_types.specs.declared.refusal.Refusal.{Refusal}
use Rattle.office_types.specs.declared.refusal.Refusal.TheVariants as refusal
use Rattle.office_types.specs.declared.request.Draft.{Draft}
use Rattle.office_types.specs.declared.request.EventTexts.{EventTexts}
use Rattle.office_types.specs.declared.request.Intent.{Intent}
use Rattle.office_types.specs.declared.request.Intent.TheVariants as intent
use Rattle.office_types.specs.declared.request.Plan.{Plan}
use Rattle.office_types.specs.declared.request.PutPart.{PutPart}
use Rattle.office_types.specs.declared.request.Request.{Request}
use Rattle.office_types.specs.declared.request.Request.TheVariants.{Issue, Send, Correct}
use Rattle.office_types.specs.declared.request.Sent.{Sent}
use Rattle.action_planner.specs.Corrections.{broken_correction, IsCorrection}
use Rattle.action_planner.specs.Offences.{broken}
use Rattle.action_planner.specs.Placed.{placed}
use Rattle.action_planner.specs.Plans.{IsPlan}
use Rattle.action_planner.specs.Told.{counts_in}
use Rattle.product_template.specs.Text.{text_of}
use Rattle.office_core.specs.Requests.{hazard_of}
use Rattle.office_core.specs.declared.made.Made.{Made}
use Rattle.office_core.specs.State.{State, draft_at, product_at}

-- what becomes a product: intents under a category, or a product that is corrected, with texts; most requests make none
pub data Making : Type 0 where
  none : Making
  drafted : Category → List Intent → Making
  corrected : Sent → List EventTexts → Making

-- the category that opens events of these facts
abbrev pub opening_of : Option Facts → Category
opening_of None = Wsw
opening_of (Some facts) = facts.opens

-- an issue is a put of its own, under the category that opens its hazard
abbrev pub issued : PutPart → Making
issued part = Making.drafted (opening_of (facts_of (hazard_of (intent.Put part)))) (intent.Put part ∷ [])

abbrev pub drafted_by : Option Draft → Making
drafted_by None = Making.none
drafted_by (Some d) = Making.drafted d.category d.intents

abbrev pub corrected_by : List EventTexts → Option Sent → Making
corrected_by given None = Making.none
corrected_by given (Some sent) = Making.corrected sent given

abbrev pub making_of : State → Request → Making
making_of s (Issue part) = issued part
making_of s (Send id) = drafted_by (draft_at s id)
making_of s (Correct number given) = corrected_by given (product_at s number)
making_of s _ = Making.none

-- ---- what a correction looks back at

-- FLW and FLS count as one category
abbrev pub counted_as : Category → Category
counted_as Flw = Fls
counted_as c = c

abbrev pub same_category : Category → Category → Bool
same_category a b = category_test.eq-value.it (counted_as a) (counted_as b)

abbrev pub later_number : Category → ℕ → Sent → ℕ
later_number c last sent = if same_category sent.category c then sent.number else last

-- the number of the last product of the category
abbrev pub last_of_category : List Sent → Category → ℕ
last_of_category products c = fold (later_number c) 0 products

-- the product that a correction counts for: correcting a correction counts for its original
abbrev pub original_by : Option ℕ → ℕ → ℕ
original_by None number = number
original_by (Some original) number = original

abbrev pub original_of : Sent → ℕ
original_of sent = original_by sent.original sent.number

abbrev pub is_original : ℕ → Option ℕ → Bool
is_original number None = false
is_original number (Some original) = original == number

abbrev pub corrects : ℕ → Sent → Bool
corrects number sent = is_original number sent.original

-- the corrections of an original so far, of which 24 are all that count
abbrev pub letters_of : List Sent → ℕ → ℕ
letters_of products original = min 24 (count_by (corrects original) products)

-- ---- the rules on lines, and the plan

-- the first rule that the lines break, with what it names
unfoldable pub broken_lines : State → ℕ → Making → Option Refusal
broken_lines s t Making.none = None
broken_lines s t (Making.drafted c intents) = broken c s.rows t (placed (counts_in s.rows) t intents)
broken_lines s t (Making.corrected sent given) = broken_correction s.rows t sent (last_of_category s.products sent.category) (letters_of s.products (original_of sent)) given

-- the plan of the product; of what makes none there is no plan
abbrev pub IsPlanOf : State → ℕ → Making → Plan → Type 0
IsPlanOf s t Making.none plan = ⊥
IsPlanOf s t (Making.drafted c intents) plan = IsPlan c s.rows t (placed (counts_in s.rows) t intents) plan
IsPlanOf s t (Making.corrected sent given) plan = IsCorrection s.rows t sent (letters_of s.products (original_of sent)) given plan

-- ---- the product

abbrev pub original_in : Making → Option ℕ
original_in Making.none = None
original_in (Making.drafted c intents) = None
original_in (Making.corrected sent given) = Some (original_of sent)

-- the product of a plan, behind those there are
abbrev pub sent_of : State → ℕ → Making → Plan → Sent
sent_of s t making plan = record {
  number = length s.products + 1;
  category = plan.category;
  time = t;
  original = original_in making;
  lines = plan.lines;
  texts = plan.texts;
  text = text_of s.settings s.class plan t s.edition;
}

abbrev pub made_of : State → ℕ → Making → Plan → Made
made_of s t making plan = record { sent = sent_of s t making plan; opened = plan.opened }

-- TooLong: the text has more than 65,536 bytes
abbrev pub text_too_long : ℕ → Option Refusal
text_too_long bytes = if nat_lt 65536 bytes then Some (refusal.TooLong bytes) else None

-- ProductsFull: there are 8,192 products
abbrev pub products_full : State → Option Refusal
products_full s = if nat_le 8192 (length s.products) then Some refusal.ProductsFull else None

-- the first rule that the written product breaks
unfoldable pub broken_product : State → ℕ → Plan → Option Refusal
broken_product s t plan = option_or (text_too_long (length (text_of s.settings s.class plan t s.edition))) (products_full s)
