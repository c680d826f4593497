-- The products of a day, with one more.
use Rattle.std.proofs.Common.{◌≡◌, ◌∙◌, ℕ, List, [], ◌∷◌, ◌++◌, get_or, length, ◌<◌, ap, arith, subst, sym, zero, suc, Some}
use Rattle.std.specs.List.{AllByRecursion, AllPairs}
use Rattle.hazard_types.specs.declared.codes.Category.{Category}
use Rattle.hazard_types.specs.declared.line.Row.{Row}
use Rattle.office_types.specs.declared.refusal.Refusal.{Refusal}
use Rattle.office_types.specs.declared.request.EventTexts.{EventTexts}
use Rattle.office_types.specs.declared.request.Intent.{Intent}
use Rattle.office_types.specs.declared.request.Sent.{Sent}
use Rattle.event_numbers.specs.declared.Count.{Count}
use Rattle.segmenter.specs.Said.{IsApart}
use Rattle.action_planner.specs.Conditions.{CanPlan}
use Rattle.action_planner.specs.Corrections.{broken_correction}
use Rattle.action_planner.specs.Standing.{Stands}
use Rattle.worked_rows.specs.Days.{HasApart, MaySend, last_of, letters_of, original_of}

pub one_more : (products : List Sent) (sent : Sent) → AllByRecursion HasApart products → AllPairs IsApart sent.lines → AllByRecursion HasApart (products ++ sent ∷ [])
one_more [] sent all one = (one, tt)
one_more (s ∷ products) sent all one = (all.0, one_more products sent all.1 one)

apart_at : (products : List Sent) (place : ℕ) (d : Sent) → place < length products → AllByRecursion HasApart products → AllPairs IsApart (get_or products place d).lines
apart_at [] place d within all = absurd (omega (arith, within))
apart_at (s ∷ products) zero d within all = all.0
apart_at (s ∷ products) (suc place) d within all = apart_at products place d (omega (arith, within)) all.1

-- no two lines of the product at a place are of one event in one zone
pub apart_before : (products : List Sent) (place : ℕ) (s : Sent) → s ≡ get_or products place s → place < length products → AllByRecursion HasApart products → AllPairs IsApart s.lines
apart_before products place s is within all = subst (λ (x : Sent). AllPairs IsApart x.lines) (sym is) (apart_at products place s within all)

-- what stands at a minute, for what may be sent then
pub may_plan : (rows : List Row) (counts : List Count) (c : Category) (intents : List Intent) (last t : ℕ) → MaySend c intents last t → Stands rows counts t → CanPlan rows counts c intents t
may_plan rows counts c intents last t may stands =
    record { few = may.few; fitting = may.fitting; consistent = stands.consistent; numbered = stands.numbered; sited = stands.sited; minute = may.soon }

-- at a place there is one product
pub only_one : (products : List Sent) (place : ℕ) (a b : Sent) → place < length products → a ≡ get_or products place a → get_or products place b ≡ b → a ≡ b
only_one [] place a b within p q = absurd (omega (arith, within))
only_one (s ∷ products) zero a b within p q = p ∙ q
only_one (s ∷ products) (suc place) a b within p q = only_one products place a b (omega (arith, within)) p q

-- the rule that a correction of a product breaks, by the products of the day
pub named : (rows : List Row) (products : List Sent) (t : ℕ) (a s : Sent) (last letters original : ℕ) (given : List EventTexts) (r : Refusal) →
    a ≡ s → last ≡ last_of products a.category → original ≡ original_of a → letters ≡ letters_of products original →
    broken_correction rows t a last letters given ≡ Some r → broken_correction rows t s (last_of products s.category) (letters_of products (original_of s)) given ≡ Some r
named rows products t a s last letters original given r same by_last by_original by_letters h =
    subst (λ (x : Sent). broken_correction rows t x (last_of products x.category) (letters_of products (original_of x)) given ≡ Some r) same
    (sym (ap (λ (n : ℕ). broken_correction rows t a n letters given) by_last ∙ ap (λ (n : ℕ). broken_correction rows t a (last_of products a.category) n given) (by_letters ∙ ap (letters_of products) by_original)) ∙ h)
