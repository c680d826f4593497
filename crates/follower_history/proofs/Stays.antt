-- The values of an office's state stay in the range of their types, and each text reads as its plan.
use Rattle.std.proofs.Common.{◌≡◌, ◌≤◌, ◌+◌, ℕ, zero, suc, List, [], ◌∷◌, Bool, true, false, Option, Some, None, refl, sym, subst, arith, cond, drop, find, take}
use Rattle.std.specs.List.{AllByRecursion}
use Rattle.std.proofs.lemmas.List.Elements.{recursion_from_All}
use Rattle.hazard_types.specs.Places.{IsPlace}
use Rattle.hazard_types.specs.declared.codes.Category.{Category}
use Rattle.hazard_types.specs.declared.line.Line.{Line}
use Rattle.office_types.specs.declared.request.Draft.{Draft}
use Rattle.office_types.specs.declared.request.EventTexts.{EventTexts}
use Rattle.office_types.specs.declared.request.Intent.{Intent}
use Rattle.office_types.specs.declared.request.Intent.TheVariants as intent
use Rattle.office_types.specs.declared.request.Plan.{Plan}
use Rattle.office_types.specs.declared.request.PutPart.{PutPart}
use Rattle.office_types.specs.declared.request.Request.{Request}
use Rattle.office_types.specs.declared.request.Request.TheVariants.{Issue, Begin, Put, Finish, Restate, Routine, Drop, Take, Discard, Send, Correct}
use Rattle.office_types.specs.declared.request.Sent.{Sent}
use Rattle.event_life.specs.Products.{rows_after}
use Rattle.event_life.specs.Reordered.{are_lawful}
use Rattle.event_numbers.specs.declared.Count.{Count}
use Rattle.action_planner.specs.Conditions.{CanPlan}
use Rattle.action_planner.specs.Corrections.{IsCorrection, corrected_lines}
use Rattle.action_planner.specs.Lines.{planned_lines}
use Rattle.action_planner.specs.Offences.{broken}
use Rattle.action_planner.specs.Placed.{Placed, placed}
use Rattle.action_planner.specs.Plans.{IsPlan}
use Rattle.action_planner.specs.Standing.{Stands}
use Rattle.action_planner.proofs.CorrectionLemmas.{corrected_lawful}
use Rattle.action_planner.proofs.Lawful.{planned_lawful}
use Rattle.action_planner.proofs.LawfulLists.{all_append}
use Rattle.action_planner.proofs.Standing.{later}
use Rattle.action_planner.proofs.ToldLemmas.{rows_tell_places}
use Rattle.product_template.specs.Conditions.{CanBeText}
use Rattle.product_template.proofs.Writable.{text_alone, text_framed}
use Rattle.request_json.specs.Formed.{HasRequestForm, IsMinute, IsPutPart}
use Rattle.segmenter.specs.Segments.{AreSegments}
use Rattle.office_core.specs.Keeping.{ReadsWell}
use Rattle.office_core.specs.Making.{Making, IsPlanOf, broken_lines, corrected_by, drafted_by, letters_of, made_of, making_of, original_of}
use Rattle.office_core.specs.Sound.{IsSound, IsSoundMaking}
use Rattle.office_core.specs.State.{State, draft_at, is_draft, product_at}
use Rattle.office_core.specs.Step.{IsMade, drafts_after, rows_with_made, state_after, taken_by, with_draft, with_intent, without_draft, without_intent}
use Rattle.office_types.specs.declared.request.Entry.{Entry}
use Rattle.office_core.specs.declared.made.Made.{Made}
use Rattle.office_core.proofs.SoundPlans.{can_plan, may_be_written}
use Rattle.follower_history.proofs.Columns.{codes_back, flood_columns}
use Rattle.follower_history.proofs.Ranges.{IsInRange, IsLineInRange, IsPutInRange, IsRowInRange, corrected_in, placed_in, planned_in, rows_in}

abbrev pub IsDraftInRange : Draft → Type 0
IsDraftInRange d = AllByRecursion IsInRange d.intents

pub record HasRanges (s : State) : Type 0 where
  pub rows : AllByRecursion IsRowInRange s.rows
  pub drafts : AllByRecursion IsDraftInRange s.drafts

-- ---- requests

put_part : (part : PutPart) → IsPutPart part → IsPutInRange part
put_part part form = record { zones = recursion_from_All IsPlace part.zones form.zones; begin = form.begin; end = form.end; flood = flood_columns part.flood form.flood }

-- ---- drafts

changed_step : (change : Draft → Draft) (id : ℕ) (b : Bool) (d : Draft) (drafts : List Draft) → ((x : Draft) → IsDraftInRange x → IsDraftInRange (change x)) → IsDraftInRange d → AllByRecursion IsDraftInRange drafts
    → AllByRecursion IsDraftInRange (with_draft change id drafts) → AllByRecursion IsDraftInRange (cond b (change d ∷ drafts) (d ∷ with_draft change id drafts))
changed_step change id true d drafts keeps own all more = (keeps d own, all)
changed_step change id false d drafts keeps own all more = (own, more)

changed : (change : Draft → Draft) (id : ℕ) (drafts : List Draft) → ((x : Draft) → IsDraftInRange x → IsDraftInRange (change x)) → AllByRecursion IsDraftInRange drafts → AllByRecursion IsDraftInRange (with_draft change id drafts)
changed change id [] keeps all = tt
changed change id (d ∷ drafts) keeps all = changed_step change id (is_draft id d) d drafts keeps all.0 all.1 (changed change id drafts keeps all.1)

removed_step : (id : ℕ) (b : Bool) (d : Draft) (drafts : List Draft) → IsDraftInRange d → AllByRecursion IsDraftInRange drafts → AllByRecursion IsDraftInRange (without_draft id drafts)
    → AllByRecursion IsDraftInRange (cond b drafts (d ∷ without_draft id drafts))
removed_step id true d drafts own all more = all
removed_step id false d drafts own all more = (own, more)

removed : (id : ℕ) (drafts : List Draft) → AllByRecursion IsDraftInRange drafts → AllByRecursion IsDraftInRange (without_draft id drafts)
removed id [] all = tt
removed id (d ∷ drafts) all = removed_step id (is_draft id d) d drafts all.0 all.1 (removed id drafts all.1)

all_take : (n : ℕ) (intents : List Intent) → AllByRecursion IsInRange intents → AllByRecursion IsInRange (take n intents)
all_take zero intents all = tt
all_take (suc n) [] all = tt
all_take (suc n) (i ∷ intents) all = (all.0, all_take n intents all.1)

all_drop : (n : ℕ) (intents : List Intent) → AllByRecursion IsInRange intents → AllByRecursion IsInRange (drop n intents)
all_drop zero intents all = all
all_drop (suc n) [] all = tt
all_drop (suc n) (i ∷ intents) all = all_drop n intents all.1

more_intents : (t : ℕ) (i : Intent) (id : ℕ) (drafts : List Draft) → IsInRange i → AllByRecursion IsDraftInRange drafts → AllByRecursion IsDraftInRange (with_draft (with_intent t i) id drafts)
more_intents t i id drafts own all = changed (with_intent t i) id drafts (λ d was. all_append IsInRange d.intents (i ∷ []) was (own, tt)) all

drafts_stay : (s : State) (desk : List ℕ) (r : Request) (t : ℕ) → HasRequestForm r → AllByRecursion IsDraftInRange s.drafts → AllByRecursion IsDraftInRange (drafts_after s desk r t)
unfolding drafts_after
drafts_stay s desk (Issue part) t form all = all
drafts_stay s desk (Begin category) t form all = all_append IsDraftInRange s.drafts _ all (tt, tt)
drafts_stay s desk (Put id part) t form all = more_intents t (intent.Put part) id s.drafts (put_part part form.1) all
drafts_stay s desk (Finish id part) t form all = more_intents t (intent.Finish part) id s.drafts (recursion_from_All IsPlace part.zones form.1.zones) all
drafts_stay s desk (Restate id part) t form all = more_intents t (intent.Restate part) id s.drafts (recursion_from_All IsPlace part.zones form.1.zones) all
drafts_stay s desk (Routine id part) t form all = more_intents t (intent.Routine part) id s.drafts (recursion_from_All IsPlace part.zones form.1.zones) all
drafts_stay s desk (Drop id place) t form all =
    changed (without_intent t place) id s.drafts (λ d was. all_append IsInRange (take place d.intents) (drop (place + 1) d.intents) (all_take place d.intents was) (all_drop (place + 1) d.intents was)) all
drafts_stay s desk (Take id) t form all = changed (taken_by t desk) id s.drafts (λ d was. was) all
drafts_stay s desk (Discard id) t form all = removed id s.drafts all
drafts_stay s desk (Send id) t form all = removed id s.drafts all
drafts_stay s desk (Correct number given) t form all = all

-- ---- what is made

abbrev pub IsMakingInRange : Making → Type 0
IsMakingInRange Making.none = Unit {0}
IsMakingInRange (Making.drafted c intents) = AllByRecursion IsInRange intents
IsMakingInRange (Making.corrected sent given) = Unit {0}

found_step : (b : Bool) (d e : Draft) (o : Option Draft) → cond b (Some d) o ≡ Some e → IsDraftInRange d → (o ≡ Some e → IsDraftInRange e) → IsDraftInRange e
found_step true d e o h own more = let same : d ≡ e = cc in subst IsDraftInRange same own
found_step false d e o h own more = more h

found : (id : ℕ) (drafts : List Draft) (d : Draft) → find (is_draft id) drafts ≡ Some d → AllByRecursion IsDraftInRange drafts → IsDraftInRange d
found id [] d h all = cc
found id (x ∷ drafts) d h all = found_step (is_draft id x) x d (find (is_draft id) drafts) h all.0 (λ g. found id drafts d g all.1)

drafted : (o : Option Draft) → ((d : Draft) → o ≡ Some d → IsDraftInRange d) → IsMakingInRange (drafted_by o)
drafted None own = tt
drafted (Some d) own = own d refl

corrected : (given : List EventTexts) (o : Option Sent) → IsMakingInRange (corrected_by given o)
corrected given None = tt
corrected given (Some sent) = tt

pub makes : (s : State) (r : Request) → HasRequestForm r → AllByRecursion IsDraftInRange s.drafts → IsMakingInRange (making_of s r)
makes s (Issue part) form all = (put_part part form.0, tt)
makes s (Begin category) form all = tt
makes s (Put id part) form all = tt
makes s (Finish id part) form all = tt
makes s (Restate id part) form all = tt
makes s (Routine id part) form all = tt
makes s (Drop id place) form all = tt
makes s (Take id) form all = tt
makes s (Discard id) form all = tt
makes s (Send id) form all = drafted (draft_at s id) (λ d h. found id s.drafts d h all)
makes s (Correct number given) form all = corrected given (product_at s number)

-- ---- the product

-- its text reads as its plan, and the rows after it are in range
abbrev Turns : State → ℕ → Making → Option Made → Type 0
Turns s t making made = ReadsWell s t making made × AllByRecursion IsRowInRange (rows_with_made s.rows t made)

module _ (s : State) (counts : List Count) (t : ℕ) (sound : IsSound s counts) (le : s.last ≤ t) (most : t ≤ 52000000) (ranges : HasRanges s) where
  in_range : IsMinute t
  in_range = omega (arith, most)

  one_made : (making : Making) (plan : Plan) (lines : List Line) → IsPlanOf s t making plan → CanBeText s.settings s.class plan t
      → plan.lines ≡ lines → AreSegments lines plan.segments → are_lawful s.rows t lines ≡ true → AllByRecursion IsLineInRange lines → Turns s t making (Some (made_of s t making plan))
  one_made making plan lines is can said are lawful own =
      let back = codes_back lines plan.segments are own s.settings s.class plan t refl can in
      let rows : AllByRecursion IsRowInRange (rows_after s.rows t lines) = rows_in s.rows t in_range ranges.rows lines lawful own in (
        (plan, is, refl, text_framed s.settings s.class plan t s.edition can back, text_alone s.settings s.class plan t s.edition can back),
        subst (λ (ls : List Line). AllByRecursion IsRowInRange (rows_after s.rows t ls)) (sym said) rows,
      )

  drafted_made : (c : Category) (intents : List Intent) (plan : Plan) → IsSoundMaking s (Making.drafted c intents) → AllByRecursion IsInRange intents
      → broken_lines s t (Making.drafted c intents) ≡ None → IsPlanOf s t (Making.drafted c intents) plan → Turns s t (Making.drafted c intents) (Some (made_of s t (Making.drafted c intents) plan))
  unfolding broken_lines
  drafted_made c intents plan own ranged h is =
      let ps = placed counts t intents in
      let told = rows_tell_places s.rows counts intents t sound.stands.numbered in
      let kept : broken c s.rows t ps ≡ None = subst (λ (qs : List Placed). broken c s.rows t qs ≡ None) told h in
      let planned : IsPlan c s.rows t ps plan = subst (λ (qs : List Placed). IsPlan c s.rows t qs plan) told is in
      let can : CanPlan s.rows counts c intents t = can_plan s counts t c intents sound le most own in
      one_made (Making.drafted c intents) plan (planned_lines c s.rows t ps) is (may_be_written s counts t (Making.drafted c intents) plan sound le most own h is)
      planned.lines planned.segments (planned_lawful c s.rows counts intents t can sound.order kept)
      (planned_in s.rows t in_range ranges.rows ps c (placed_in counts t [] intents ranged))

  corrected_made : (sent : Sent) (given : List EventTexts) (plan : Plan) → IsSoundMaking s (Making.corrected sent given)
      → broken_lines s t (Making.corrected sent given) ≡ None → IsPlanOf s t (Making.corrected sent given) plan → Turns s t (Making.corrected sent given) (Some (made_of s t (Making.corrected sent given) plan))
  corrected_made sent given plan own h is =
      let stands : Stands s.rows counts t = later s.rows counts s.last t le sound.stands in
      let planned : IsCorrection s.rows t sent (letters_of s.products (original_of sent)) given plan = is in
      one_made (Making.corrected sent given) plan (corrected_lines s.rows t sent.lines) is (may_be_written s counts t (Making.corrected sent given) plan sound le most own h is)
      planned.lines planned.segments (corrected_lawful s.rows t sent.lines stands.consistent.ends own.0.apart)
      (corrected_in s.rows t in_range ranges.rows sent.lines)

  pub turns : (making : Making) (made : Option Made) → IsSoundMaking s making → IsMakingInRange making → broken_lines s t making ≡ None → IsMade s t making made → Turns s t making made
  turns Making.none made own ranged h is = subst (Turns s t Making.none) (sym is) (tt, ranges.rows)
  turns (Making.drafted c intents) made own ranged h is = subst (Turns s t (Making.drafted c intents)) (sym is.3) (drafted_made c intents is.0 own ranged h is.1)
  turns (Making.corrected sent given) made own ranged h is = subst (Turns s t (Making.corrected sent given)) (sym is.3) (corrected_made sent given is.0 own h is.1)

-- the state after an entry
pub ranges_after : (s : State) (desk : List ℕ) (seq : ℕ) (r : Request) (e : Entry) (made : Option Made) → e.desk ≡ desk → e.request ≡ r → HasRequestForm r → HasRanges s → AllByRecursion IsRowInRange (rows_with_made s.rows e.minute made)
    → HasRanges (state_after s e made)
unfolding state_after
ranges_after s desk seq r e made is_desk is_request form ranges rows = record {
  rows = rows;
  drafts = drafts_stay s e.desk e.request e.minute (subst HasRequestForm (sym is_request) form) ranges.drafts;
}
