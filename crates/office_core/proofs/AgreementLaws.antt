-- The texts of an office agree with its board after each product.
use Rattle.std.proofs.Common.{◌≡◌, ◌∙◌, ◌≤◌, ℕ, ◌+◌, List, [], ◌∷◌, ◌++◌, true, false, Option, Some, None, IsOk, refl, sym, ap, subst, map}
use Rattle.std.specs.List.{AllByRecursion, AllPairs, count_by}
use Rattle.std.specs.List.Sorted.{IsStrictlySortedBy}
use Rattle.std.proofs.lemmas.List.{map-append}
use Rattle.hazard_types.specs.Days.{year_of}
use Rattle.hazard_types.specs.declared.codes.Category.{Category}
use Rattle.hazard_types.specs.declared.codes.Class.{Class}
use Rattle.hazard_types.specs.declared.hazard.Event.{Event}
use Rattle.hazard_types.specs.declared.line.Line.{Line}
use Rattle.hazard_types.specs.declared.line.Row.{Row}
use Rattle.office_types.specs.declared.request.Entry.{Entry}
use Rattle.office_types.specs.declared.request.Intent.{Intent}
use Rattle.office_types.specs.declared.request.Plan.{Plan}
use Rattle.office_types.specs.declared.request.Sent.{Sent}
use Rattle.desk_settings.specs.declared.settings.Settings.{Settings}
use Rattle.event_life.specs.Openings.{is_numbered, numbers_of, events_opened_by}
use Rattle.event_life.specs.Products.{by_key, is_new, is_routine, rows_after}
use Rattle.event_life.specs.Reordered.{are_lawful}
use Rattle.event_numbers.specs.declared.Count.{Count}
use Rattle.event_numbers.specs.Counts.{DrawsAll, count_of}
use Rattle.hazard_board.specs.Consistent.{AreOfTheYear, IsConsistent}
use Rattle.hazard_board.proofs.NumberLemmas.{have_one_open}
use Rattle.product_decoder.specs.Decoded.{decode}
use Rattle.product_frame.specs.Frame.{FrameOf}
use Rattle.product_frame.specs.Splitting.{IsOneProduct}
use Rattle.product_template.specs.Text.{frame_of}
use Rattle.segmenter.specs.Said.{IsApart, lines_in_text}
use Rattle.segmenter.specs.Segments.{AreSegments}
use Rattle.action_planner.specs.Conditions.{AreNumbered, CanPlan}
use Rattle.action_planner.specs.Corrections.{IsCorrection, corrected_lines}
use Rattle.action_planner.specs.Lines.{planned_lines}
use Rattle.action_planner.specs.Offences.{broken}
use Rattle.action_planner.specs.Placed.{opened, placed}
use Rattle.action_planner.specs.Plans.{IsPlan}
use Rattle.action_planner.proofs.CorrectionLemmas.{corrected_distinct, corrected_lawful, each_corrected}
use Rattle.action_planner.proofs.Lawful.{planned_distinct, planned_lawful}
use Rattle.action_planner.proofs.LawfulLists.{Has, all_has, all_weaker}
use Rattle.action_planner.proofs.LawfulOpenings.{new_lines_opened, years_of_issue}
use Rattle.action_planner.proofs.Standing.{opened_go_on}
use Rattle.action_planner.proofs.ToldLemmas.{new_numbers_alike, rows_tell_places}
use Rattle.office_core.specs.Agreement.{Agrees, texts_of}
use Rattle.office_core.specs.Keeping.{MayBePlanned, ReadsWell}
use Rattle.office_core.specs.Making.{Making, broken_lines, letters_of, original_of}
use Rattle.office_core.specs.Prepared.{draws}
use Rattle.office_core.specs.Sound.{IsSound}
use Rattle.office_core.specs.State.{State}
use Rattle.office_core.specs.Step.{state_after}
use Rattle.office_core.specs.declared.made.Made.{Made}
use Rattle.office_core.proofs.AgreementDecoding.{saying, text_decodes, text_says}
use Rattle.office_core.proofs.AgreementNumbers.{numbers_many}
use Rattle.office_core.proofs.AgreementProducts.{Agree, GoOnBy, one_more}
use Rattle.office_core.proofs.AgreementReading.{product_reads}
use Rattle.office_core.proofs.AgreementRoutine.{HasZeroOf, routine_zero, rows_have_numbers, zero_placed}

-- ---- what is asked of the lines of a product

pub record MayBeSaid (rows : List Row) (counts after : List Count) (t : ℕ) (lines : List Line) : Type 0 where
  pub lawful : are_lawful rows t lines ≡ true
  pub apart : AllPairs IsApart lines
  pub years : AreOfTheYear lines t
  pub zeros : AllByRecursion (HasZeroOf t) lines
  pub numbers : GoOnBy counts after lines

module _ (settings : Settings) (class : Class) (texts : List (List ℕ)) (rows : List Row) (counts after : List Count) (t : ℕ)
    (up : IsStrictlySortedBy by_key rows) (consistent : IsConsistent rows t) (numbered : AreNumbered rows counts) where
  ok : (text : List ℕ) (plan : Plan) → FrameOf text (frame_of settings class plan t) → IsOk (decode text)
  ok text plan is = rw (text_decodes text settings class plan t is) refl

  pub text_agrees : (text : List ℕ) (plan : Plan) (lines : List Line) → AreSegments lines plan.segments → MayBeSaid rows counts after t lines →
      FrameOf text (frame_of settings class plan t) → IsOneProduct text → Agree settings.office class texts rows counts →
      Agree settings.office class (texts ++ text ∷ []) (rows_after rows t lines) after
  text_agrees text plan lines are may is single agree =
      let p = saying settings.office class t (lines_in_text plan.segments) in
      let read = product_reads rows t settings.office class lines plan.segments up (have_one_open rows t up consistent) (rows_have_numbers rows counts numbered) may.lawful may.apart may.years may.zeros are in
      one_more settings.office class texts text p (text_says text settings class plan t is) rows counts after lines t agree (ok text plan is) single read may.numbers

-- ---- the lines of a draft

of_the_year : (lines : List Line) (events : List Event) (t : ℕ) → AllByRecursion (λ l. is_new l.action ≡ true → Has events l.event) lines → AllByRecursion (λ e. e.year ≡ year_of t) events → AreOfTheYear lines t
of_the_year lines events t new years = all_weaker (λ l. is_new l.action ≡ true → Has events l.event) (λ l. is_new l.action ≡ true → l.event.year ≡ year_of t)
    (λ l there n. all_has (λ (e : Event). e.year ≡ year_of t) events l.event years (there n)) lines new

pub planned_said : (c : Category) (rows : List Row) (counts after : List Count) (intents : List Intent) (t : ℕ) → CanPlan rows counts c intents t → IsStrictlySortedBy by_key rows →
    broken c rows t (placed counts t intents) ≡ None → DrawsAll counts after (opened (placed counts t intents)) → MayBeSaid rows counts after t (planned_lines c rows t (placed counts t intents))
planned_said c rows counts after intents t can up h draws =
    let ps = placed counts t intents in
    let lines = planned_lines c rows t ps in
    record {
      lawful = planned_lawful c rows counts intents t can up h;
      apart = planned_distinct c rows counts intents t can up h;
      years = of_the_year lines (opened ps) t (new_lines_opened rows t ps c) (years_of_issue counts t [] intents);
      zeros = routine_zero rows t ps c (zero_placed counts t [] intents);
      numbers = λ h year.
          let on = opened_go_on counts t intents h year in
          let many : on.0 ≡ count_by (is_numbered h year) (opened ps) = numbers_many h year (count_of counts h year + 1) on.0 (opened ps) on.1 in
          (on.0, new_numbers_alike c rows counts intents t can h year ∙ on.1, draws h year ∙ ap (λ (k : ℕ). count_of counts h year + k) (sym many));
    }

-- ---- the lines of a correction

none_opened : (lines : List Line) → AllByRecursion (λ (line : Line). is_new line.action ≡ false) lines → events_opened_by lines ≡ []
none_opened [] all = refl
none_opened (line ∷ lines) all = rw all.0 (none_opened lines all.1)

pub corrected_said : (rows : List Row) (counts after : List Count) (t : ℕ) (lines : List Line) → IsConsistent rows t → AllPairs IsApart lines → DrawsAll counts after [] →
    MayBeSaid rows counts after t (corrected_lines rows t lines)
corrected_said rows counts after t lines consistent apart draws =
    let old = each_corrected rows t lines (λ (l : Line). is_new l.action ≡ false) (λ before line h c. ap (λ (l : Line). is_new l.action) c.is) in
    let none = none_opened (corrected_lines rows t lines) old in
    record {
      lawful = corrected_lawful rows t lines consistent.ends apart;
      apart = corrected_distinct rows t lines apart;
      years = all_weaker (λ (l : Line). is_new l.action ≡ false) (λ (l : Line). is_new l.action ≡ true → l.event.year ≡ year_of t) (λ l o n. let never : false ≡ true = sym o ∙ n in cc) (corrected_lines rows t lines) old;
      zeros = each_corrected rows t lines (HasZeroOf t) (λ before line h c routine. let own : is_routine line.action ≡ false = ap (λ (l : Line). is_routine l.action) c.is in let never : false ≡ true = sym own ∙ routine in cc);
      numbers = λ h year. (0, ap (numbers_of h year) none, draws h year);
    }

-- ---- the office

pub agree_of : (s : State) (counts : List Count) → Agrees s counts → Agree s.settings.office s.class (texts_of s) s.rows counts
agree_of s counts a = record {
  whole = a.reads.whole;
  apart = a.reads.apart;
  lives = a.reads.lives;
  gapless = a.reads.gapless;
  rows_are = a.reads.rows;
  numbers = a.numbers;
}

pub agrees_by : (s : State) (counts : List Count) → Agree s.settings.office s.class (texts_of s) s.rows counts → Agrees s counts
agrees_by s counts a = record {
  reads = record { whole = a.whole; apart = a.apart; lives = a.lives; gapless = a.gapless; rows = a.rows_are };
  numbers = a.numbers;
}

-- the same texts and rows, with counts that are the same
kept_none : (s : State) (e : Entry) (counts after : List Count) → Agrees s counts → after ≡ counts → Agrees (state_after s e None) after
unfolding state_after
kept_none s e counts after a same = agrees_by (state_after s e None) after (subst (Agree s.settings.office s.class (texts_of s) s.rows) (sym same) (agree_of s counts a))

-- one product more
kept_some : (s : State) (e : Entry) (counts after : List Count) (made : Made) (plan : Plan) → IsSound s counts → Agrees s counts → IsConsistent s.rows e.minute → (lines : List Line) →
    made.sent.lines ≡ lines → AreSegments lines plan.segments → MayBeSaid s.rows counts after e.minute lines →
    FrameOf made.sent.text (frame_of s.settings s.class plan e.minute) → IsOneProduct made.sent.text → Agrees (state_after s e (Some made)) after
unfolding state_after
kept_some s e counts after made plan sound a consistent lines said are may is single =
    let more = text_agrees s.settings s.class (texts_of s) s.rows counts after e.minute sound.order consistent sound.stands.numbered made.sent.text plan lines are may is single (agree_of s counts a) in
    let texts : map (λ (sent : Sent). sent.text) (s.products ++ made.sent ∷ []) ≡ texts_of s ++ made.sent.text ∷ [] = map-append (λ (sent : Sent). sent.text) s.products (made.sent ∷ []) in
    agrees_by (state_after s e (Some made)) after
    (subst (λ (ts : List (List ℕ)). Agree s.settings.office s.class ts (rows_after s.rows e.minute made.sent.lines) after) (sym texts)
    (subst (λ (ls : List Line). Agree s.settings.office s.class (texts_of s ++ made.sent.text ∷ []) (rows_after s.rows e.minute ls) after) (sym said) more))

pub keeps_agreement : (s : State) (counts after : List Count) (making : Making) (made : Option Made) (e : Entry) →
    IsSound s counts → Agrees s counts → s.last ≤ e.minute → MayBePlanned s counts e.minute making →
    broken_lines s e.minute making ≡ None → ReadsWell s e.minute making made → draws counts after made →
    Agrees (state_after s e made) after
unfolding broken_lines
keeps_agreement s counts after making None e sound a le may kept reads drawn = kept_none s e counts after a drawn
keeps_agreement s counts after Making.none (Some made) e sound a le may kept reads drawn = absurd reads.1
keeps_agreement s counts after (Making.drafted c intents) (Some made) e sound a le may kept reads drawn =
    let t = e.minute in
    let plan = reads.0 in
    let same = rows_tell_places s.rows counts intents t sound.stands.numbered in
    let ps = placed counts t intents in
    let is : IsPlan c s.rows t ps plan = subst (λ ps. IsPlan c s.rows t ps plan) same reads.1 in
    let whole : broken c s.rows t ps ≡ None = subst (λ ps. broken c s.rows t ps ≡ None) same kept in
    let own : DrawsAll counts after (opened ps) = subst (DrawsAll counts after) (ap (λ (m : Made). m.opened) reads.2 ∙ is.opened) drawn in
    kept_some s e counts after made plan sound a may.consistent (planned_lines c s.rows t ps) (ap (λ (m : Made). m.sent.lines) reads.2 ∙ is.lines) is.segments
    (planned_said c s.rows counts after intents t may sound.order whole own) reads.3 reads.4
keeps_agreement s counts after (Making.corrected sent given) (Some made) e sound a le may kept reads drawn =
    let t = e.minute in
    let plan = reads.0 in
    let is : IsCorrection s.rows t sent (letters_of s.products (original_of sent)) given plan = reads.1 in
    let own : DrawsAll counts after [] = subst (DrawsAll counts after) (ap (λ (m : Made). m.opened) reads.2 ∙ is.opened) drawn in
    kept_some s e counts after made plan sound a may.consistent (corrected_lines s.rows t sent.lines) (ap (λ (m : Made). m.sent.lines) reads.2 ∙ is.lines) is.segments
    (corrected_said s.rows counts after t sent.lines may.consistent may.apart own) reads.3 reads.4
