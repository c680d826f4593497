-- What holds of each line of a plan: its hazard, its number, its zone, its flood values, and the end of an EXP line.
use Rattle.std.proofs.Common.{◌≡◌, ◌∙◌, inl, inr, ◌&&◌, not, ℕ, ◌≤◌, arith, List, [], ◌∷◌, ◌++◌, Bool, true, false, Option, Some, None, refl, sym, ap, subst, cond, filter, nat_le}
use Rattle.std.proofs.lemmas.Bool.{and_parts, both_ways, leb-true}
use Rattle.std.proofs.lemmas.List.Elements.{All-from_recursion, recursion_from_All}
use Rattle.std.specs.List.{All, AllByRecursion, Any, Contains, list_any}
use Rattle.std.specs.Option.{is_some}
use Rattle.hazard_types.specs.Hazards.{facts_of}
use Rattle.hazard_types.specs.Places.{Place}
use Rattle.hazard_types.specs.declared.codes.Action.{Action}
use Rattle.hazard_types.specs.declared.codes.Action.TheVariants.{Con, Cor, Upg, Can, Exp}
use Rattle.hazard_types.specs.declared.codes.Category.{Category}
use Rattle.hazard_types.specs.declared.hazard.Event.{Event}
use Rattle.hazard_types.specs.declared.line.Flood.{Flood}
use Rattle.hazard_types.specs.declared.line.Line.{Line}
use Rattle.hazard_types.specs.declared.line.Row.{Row}
use Rattle.hazard_types.specs.declared.period.End.{End}
use Rattle.hazard_types.specs.declared.period.End.TheVariants.{At, Ufn}
use Rattle.office_types.specs.declared.request.Intent.{Intent}
use Rattle.office_types.specs.declared.request.Intent.TheVariants.{Put, Finish, Restate, Routine}
use Rattle.office_types.specs.declared.request.PutPart.{PutPart}
use Rattle.hazard_types.specs.Same.{same_event, same_zone}
use Rattle.hazard_types.proofs.Equality.{event_itself, zone_one}
use Rattle.event_life.specs.Periods.{ends_after, is_live}
use Rattle.event_life.specs.Products.{has_rows, is_open, row_at}
use Rattle.event_numbers.specs.declared.Count.{Count}
use Rattle.event_numbers.specs.Counts.{count_of}
use Rattle.action_planner.specs.Conditions.{AreNumbered, AreSited, CanPlan, MayHold, needs_values}
use Rattle.action_planner.specs.Corrections.{corrected_lines}
use Rattle.action_planner.specs.Lines.{added_lines, finish_lines, goes_on, is_continued, is_near_end, is_overlaid, joined_row, line_on, lines_from, lines_in, planned_lines, restate_lines}
use Rattle.action_planner.specs.Offences.{broken, first_by, needs_event, rules, numbers_spent}
use Rattle.action_planner.specs.Placed.{Placed, is_opening, is_opening_target, placed, placed_from, speaks, touches, zones_of}
use Rattle.action_planner.specs.Standing.{AreKnown, HaveFourDigits, IsKnown}
use Rattle.action_planner.specs.Told.{flood_of, passes}
use Rattle.action_planner.proofs.CorrectionLemmas.{each_corrected, from_rows}
use Rattle.action_planner.proofs.LawfulLists.{Has, all_append, all_each, all_filter, all_has, all_map, all_weaker, any_from, any_has, contains_from, has_all, has_any}
use Rattle.action_planner.proofs.LawfulKeys.{IsOn, each_intent, each_zone, lines_on, put_action-none}
use Rattle.action_planner.proofs.LawfulPlaced.{IsFit, fits, given_none}
use Rattle.action_planner.proofs.RoutineLemmas.{zero_placed, is_routine_intent}
use Rattle.action_planner.proofs.SiteLemmas.{Needs, open_has, plan_values}
use Rattle.action_planner.proofs.SourceLemmas.{Comes, FromRow, comes}
use Rattle.action_planner.proofs.Standing.{four_digits, known_line, known_placed, is_among_opened}

-- ---- hazards

pub known_lines : (c : Category) (rows : List Row) (counts : List Count) (intents : List Intent) (t : ℕ) → CanPlan rows counts c intents t → AreKnown rows →
    All (λ (line : Line). IsKnown line.event.hazard) (planned_lines c rows t (placed counts t intents))
known_lines c rows counts intents t can known =
    let ps = placed counts t intents in
    All-from_recursion (λ (line : Line). IsKnown line.event.hazard) (planned_lines c rows t ps)
    (all_weaker (Comes rows ps) (λ (line : Line). IsKnown line.event.hazard) (known_line rows ps known (known_placed counts t c [] intents (recursion_from_All (MayHold c) intents can.fitting))) (planned_lines c rows t ps) (comes rows t ps c))

row_known : (rows : List Row) → AreKnown rows → (line : Line) → FromRow rows line → IsKnown line.event.hazard
row_known rows known line f = subst (λ (e : Event). IsKnown e.hazard) f.event (all_has (λ (row : Row). IsKnown row.event.hazard) rows f.row known f.there)

pub known_corrected : (rows : List Row) (t : ℕ) (lines : List Line) → AreKnown rows → All (λ (line : Line). IsKnown line.event.hazard) (corrected_lines rows t lines)
known_corrected rows t lines known =
    All-from_recursion (λ (line : Line). IsKnown line.event.hazard) (corrected_lines rows t lines)
    (all_weaker (FromRow rows) (λ (line : Line). IsKnown line.event.hazard) (row_known rows known) (corrected_lines rows t lines) (from_rows rows t lines))

-- ---- numbers

-- an event that has rows has a number of four digits, and none is 0
numbered_few : (rows : List Row) (counts : List Count) → AreNumbered rows counts → HaveFourDigits counts → (e : Event) → has_rows rows e ≡ true → e.etn ≤ 9999
numbered_few rows counts numbered digits e h =
    let q = and_parts (nat_le 1 e.etn) _ (sym (numbered e) ∙ h) in
    let high : e.etn ≤ count_of counts e.hazard e.year = leb-true e.etn _ q.1 in
    let most : count_of counts e.hazard e.year ≤ 9999 = digits e.hazard e.year in
    omega (arith, high, most)

row_has : (rows : List Row) (line : Line) → FromRow rows line → has_rows rows line.event ≡ true
row_has rows line f = any_has (λ (r : Row). same_event r.event line.event) rows f.row f.there (ap (λ (x : Event). same_event x line.event) f.event ∙ event_itself line.event)

module _ (c : Category) (rows : List Row) (counts : List Count) (intents : List Intent) (t : ℕ) (can : CanPlan rows counts c intents t) (digits : HaveFourDigits counts) (h : broken c rows t (placed counts t intents) ≡ None) where
  abbrev ps : List Placed
  ps = placed counts t intents

  fit_at : (p : Placed) → Has ps p → IsFit rows t ps p
  fit_at p g = all_has (IsFit rows t ps) ps p (fits c rows counts intents t can h) g

  none_spent : first_by numbers_spent ps ≡ None
  unfolding broken
  none_spent = (given_none (rules c rows t ps) h).1.1.1.1.1.1.1.1.1.1.1.1.1.0

  put_number : (p : Placed) → Has ps p → (part : PutPart) → p.intent ≡ Put part → (b : Bool) → is_opening p.intent ≡ b → p.event.etn ≤ 9999
  put_number p g part is true o = four_digits ps p.event none_spent (is_among_opened ps p g o)
  put_number p g part is false o =
      let joins : is_opening_target part.target ≡ false = ap is_opening (sym is) ∙ o in
      let going : is_open rows t p.event ≡ true = (fit_at p g).known (ap needs_event is ∙ ap not joins) in
      numbered_few rows counts can.numbered digits p.event (open_has rows t ps can.sited (fits c rows counts intents t can h) p.event going)

  line_number : (line : Line) → Comes rows ps line → line.event.etn ≤ 9999
  line_number line (inl f) = numbered_few rows counts can.numbered digits line.event (row_has rows line f)
  line_number line (inr (inl f)) = subst (λ (e : Event). e.etn ≤ 9999) f.event (put_number f.by f.among f.part f.put (is_opening f.by.intent) refl)
  line_number line (inr (inr f)) =
      let zero : f.by.event.etn ≡ 0 = all_has (λ (p : Placed). is_routine_intent p.intent ≡ true → p.event.etn ≡ 0) ps f.by (zero_placed counts t [] intents) f.among f.routine in
      subst (λ (e : Event). e.etn ≤ 9999) f.event (omega (arith, zero))

  pub numbered_lines : All (λ (line : Line). line.event.etn ≤ 9999) (planned_lines c rows t ps)
  numbered_lines = All-from_recursion (λ (line : Line). line.event.etn ≤ 9999) (planned_lines c rows t ps)
      (all_weaker (Comes rows ps) (λ (line : Line). line.event.etn ≤ 9999) line_number (planned_lines c rows t ps) (comes rows t ps c))

pub numbered_corrected : (rows : List Row) (counts : List Count) (t : ℕ) (lines : List Line) → AreNumbered rows counts → HaveFourDigits counts → All (λ (line : Line). line.event.etn ≤ 9999) (corrected_lines rows t lines)
numbered_corrected rows counts t lines numbered digits =
    All-from_recursion (λ (line : Line). line.event.etn ≤ 9999) (corrected_lines rows t lines)
    (all_weaker (FromRow rows) (λ (line : Line). line.event.etn ≤ 9999) (λ line f. numbered_few rows counts numbered digits line.event (row_has rows line f)) (corrected_lines rows t lines) (from_rows rows t lines))

-- ---- the end of an EXP line

abbrev pub IsClosed : End → Type 0
IsClosed end = (m : ℕ) × (end ≡ At m)

near_closed : (end : End) (t : ℕ) → is_near_end end t ≡ true → IsClosed end
near_closed (At m) t h = (m, refl)
near_closed Ufn t h = cc

abbrev is_expiring : Action → Bool
is_expiring Exp = true
is_expiring _ = false

exp_only : (x y : Bool) → is_expiring (cond x Upg (cond y Exp Can)) ≡ true → y ≡ true
exp_only true y h = cc
exp_only false true h = refl
exp_only false false h = cc

module _ (rows : List Row) (t : ℕ) (all : List Placed) where
  abbrev EndsClosed : Line → Type 0
  EndsClosed line = is_expiring line.action ≡ true → IsClosed line.end

  finish_closed : (o : Option Row) → AllByRecursion EndsClosed (finish_lines rows t all o)
  finish_closed None = tt
  finish_closed (Some row) = ((λ h. near_closed row.period.end t (exp_only (ends_after row.period.end t && is_overlaid rows t all row) (is_near_end row.period.end t) h)), tt)

  restate_closed : (o : Option Row) → AllByRecursion EndsClosed (restate_lines t o)
  restate_closed None = tt
  restate_closed (Some row) = ((λ h. cc), tt)

  closed_in : (e : Event) (i : Intent) (z : Place) → AllByRecursion EndsClosed (lines_in rows t all e i z)
  closed_in e (Put part) z = ((λ h. absurd (both_ways _ (put_action-none is_expiring refl refl refl refl refl rows t e part z (joined_row rows e z part.target)) h)), tt)
  closed_in e (Finish part) z = finish_closed (row_at rows e z)
  closed_in e (Restate part) z = restate_closed (row_at rows e z)
  closed_in e (Routine part) z = ((λ h. cc), tt)

  closed_lines : (c : Category) → AllByRecursion EndsClosed (planned_lines c rows t all)
  closed_lines c = all_append EndsClosed (lines_from rows t all all) (added_lines c rows t all)
      (each_intent rows t all EndsClosed (λ p. Unit {0}) (λ p u. each_zone rows t all EndsClosed (λ z. Unit {0}) p.event p.intent (λ z v. closed_in p.event p.intent z) (zones_of p.intent) (all_each (λ z. Unit {0}) (λ z. tt) (zones_of p.intent))) all (all_each (λ p. Unit {0}) (λ p. tt) all))
      (all_map EndsClosed (line_on Con t) (filter (is_continued c t all) rows) (all_each (λ r. EndsClosed (line_on Con t r)) (λ r h. cc) (filter (is_continued c t all) rows)))

expiring_is : (a : Action) → a ≡ Exp → is_expiring a ≡ true
expiring_is a e = ap is_expiring e

pub expiring_ends : (c : Category) (rows : List Row) (counts : List Count) (intents : List Intent) (t : ℕ) →
    All (λ (line : Line). line.action ≡ Exp → IsClosed line.end) (planned_lines c rows t (placed counts t intents))
expiring_ends c rows counts intents t =
    let P : Line → Type 0 = λ line. line.action ≡ Exp → IsClosed line.end in
    let lines = planned_lines c rows t (placed counts t intents) in
    All-from_recursion P lines (all_weaker (λ (line : Line). is_expiring line.action ≡ true → IsClosed line.end) P (λ line own e. own (expiring_is line.action e)) lines (closed_lines rows t (placed counts t intents) c))

pub corrected_never_expire : (rows : List Row) (t : ℕ) (lines : List Line) → All (λ (line : Line). line.action ≡ Cor) (corrected_lines rows t lines)
corrected_never_expire rows t lines =
    All-from_recursion (λ (line : Line). line.action ≡ Cor) (corrected_lines rows t lines)
    (each_corrected rows t lines (λ (line : Line). line.action ≡ Cor) (λ before line h c. ap (λ (l : Line). l.action) c.is))

-- ---- zones

abbrev IsTouched : List Placed → Line → Type 0
IsTouched ps line = (p : Placed) × Has ps p × Has (zones_of p.intent) line.zone

touched_zone : (ps : List Placed) (c : Category) (row : Row) → goes_on c ps row ≡ true → (p : Placed) × Has ps p × Has (zones_of p.intent) row.zone
touched_zone ps c row h =
    let a = and_parts _ (not (list_any (speaks row.event row.zone) ps)) h in
    let b = and_parts _ (list_any (touches row.zone) ps) a.0 in
    let p = has_any (touches row.zone) ps b.1 in
    let z = has_any (λ (y : Place). same_zone y row.zone) (zones_of p.0.intent) p.2 in
    (p.0, p.1, subst (λ (y : Place). Has (zones_of p.0.intent) y) (zone_one z.0 row.zone z.2) z.1)

module _ (rows : List Row) (t : ℕ) (all : List Placed) where
  zone_lines : (c : Category) → AllByRecursion (IsTouched all) (planned_lines c rows t all)
  zone_lines c = all_append (IsTouched all) (lines_from rows t all all) (added_lines c rows t all)
      (each_intent rows t all (IsTouched all) (Has all) (λ p h. each_zone rows t all (IsTouched all) (Has (zones_of p.intent)) p.event p.intent
      (λ z g. all_weaker (IsOn p.event z) (IsTouched all) (λ line on. (p, h, subst (λ (y : Place). Has (zones_of p.intent) y) (sym on.1) g)) (lines_in rows t all p.event p.intent z) (lines_on rows t all p.event p.intent z)) (zones_of p.intent) (has_all (zones_of p.intent))) all (has_all all))
      (all_map (IsTouched all) (line_on Con t) (filter (is_continued c t all) rows)
      (all_weaker (λ r. Unit {0} × (is_continued c t all r ≡ true)) (λ r. IsTouched all (line_on Con t r)) (λ r h. touched_zone all c r (and_parts (is_live t r) (goes_on c all r) h.1).1) (filter (is_continued c t all) rows)
      (all_filter (λ r. Unit {0}) (is_continued c t all) rows (all_each (λ r. Unit {0}) (λ r. tt) rows))))

intent_of : (counts : List Count) (t : ℕ) (earlier intents : List Intent) (p : Placed) → Has (placed_from counts t earlier intents) p → Has intents p.intent
intent_of counts t earlier [] p h = absurd h
intent_of counts t earlier (i ∷ intents) p (inl same) = inl (ap (λ (q : Placed). q.intent) same)
intent_of counts t earlier (i ∷ intents) p (inr h) = inr (intent_of counts t (earlier ++ i ∷ []) intents p h)

pub lines_in_zones_given : (c : Category) (rows : List Row) (counts : List Count) (intents : List Intent) (t : ℕ) →
    All (λ (line : Line). Any (λ (i : Intent). Contains (zones_of i) line.zone) intents) (planned_lines c rows t (placed counts t intents))
lines_in_zones_given c rows counts intents t =
    let ps = placed counts t intents in
    let P : Line → Type 0 = λ line. Any (λ (i : Intent). Contains (zones_of i) line.zone) intents in
    All-from_recursion P (planned_lines c rows t ps)
    (all_weaker (IsTouched ps) P (λ line w. any_from (λ (i : Intent). Contains (zones_of i) line.zone) intents w.0.intent (intent_of counts t [] intents w.0 w.1) (contains_from (zones_of w.0.intent) line.zone w.2)) (planned_lines c rows t ps) (zone_lines rows t ps c))

-- ---- flood values

pub needed_values : (c : Category) (rows : List Row) (counts : List Count) (intents : List Intent) (t : ℕ) → CanPlan rows counts c intents t → broken c rows t (placed counts t intents) ≡ None →
    All (λ (line : Line). needs_values (facts_of line.event.hazard) ≡ true → is_some line.flood ≡ true) (planned_lines c rows t (placed counts t intents))
needed_values c rows counts intents t can h =
    let ps = placed counts t intents in
    All-from_recursion (λ (line : Line). needs_values (facts_of line.event.hazard) ≡ true → is_some line.flood ≡ true) (planned_lines c rows t ps)
    (plan_values rows t ps can.sited (fits c rows counts intents t can h) (planned_lines c rows t ps) (comes rows t ps c))

pub corrected_values : (rows : List Row) (t : ℕ) (lines : List Line) → AreSited rows → All (λ (line : Line). needs_values (facts_of line.event.hazard) ≡ true → is_some line.flood ≡ true) (corrected_lines rows t lines)
corrected_values rows t lines sited =
    let P : Line → Type 0 = λ line. needs_values (facts_of line.event.hazard) ≡ true → is_some line.flood ≡ true in
    All-from_recursion P (corrected_lines rows t lines)
    (all_weaker (FromRow rows) P (λ line f needs. ap is_some (sym f.flood) ∙ all_has (λ (row : Row). Needs row.event → is_some row.flood ≡ true) rows f.row sited.values f.there (subst Needs (sym f.event) needs)) (corrected_lines rows t lines) (from_rows rows t lines))

module _ (test : Flood → Bool) where
  row_passes : (rows : List Row) → AllByRecursion (λ (row : Row). passes test row.flood ≡ true) rows → (line : Line) → FromRow rows line → passes test line.flood ≡ true
  row_passes rows all line f = ap (passes test) (sym f.flood) ∙ all_has (λ (row : Row). passes test row.flood ≡ true) rows f.row all f.there

  pub given_values : (c : Category) (rows : List Row) (counts : List Count) (intents : List Intent) (t : ℕ) → All (λ (row : Row). passes test row.flood ≡ true) rows → All (λ (i : Intent). passes test (flood_of i) ≡ true) intents →
      All (λ (line : Line). passes test line.flood ≡ true) (planned_lines c rows t (placed counts t intents))
  given_values c rows counts intents t of_rows of_intents =
      let ps = placed counts t intents in
      let P : Line → Type 0 = λ line. passes test line.flood ≡ true in
      let rows_pass = recursion_from_All (λ (row : Row). passes test row.flood ≡ true) rows of_rows in
      let intents_pass = recursion_from_All (λ (i : Intent). passes test (flood_of i) ≡ true) intents of_intents in
      All-from_recursion P (planned_lines c rows t ps)
      (all_weaker (Comes rows ps) P (λ line from. line_passes rows ps rows_pass (λ p g. all_has (λ (i : Intent). passes test (flood_of i) ≡ true) intents p.intent intents_pass (intent_of counts t [] intents p g)) line from) (planned_lines c rows t ps) (comes rows t ps c))
    where
      line_passes : (rows : List Row) (ps : List Placed) → AllByRecursion (λ (row : Row). passes test row.flood ≡ true) rows → ((p : Placed) → Has ps p → passes test (flood_of p.intent) ≡ true) → (line : Line) → Comes rows ps line → passes test line.flood ≡ true
      line_passes rows ps all each line (inl f) = row_passes rows all line f
      line_passes rows ps all each line (inr (inl f)) = ap (passes test) (sym f.flood) ∙ ap (λ (i : Intent). passes test (flood_of i)) (sym f.put) ∙ each f.by f.among
      line_passes rows ps all each line (inr (inr f)) = ap (passes test) f.flood

  pub corrected_given : (rows : List Row) (t : ℕ) (lines : List Line) → All (λ (row : Row). passes test row.flood ≡ true) rows → All (λ (line : Line). passes test line.flood ≡ true) (corrected_lines rows t lines)
  corrected_given rows t lines of_rows =
      All-from_recursion (λ (line : Line). passes test line.flood ≡ true) (corrected_lines rows t lines)
      (all_weaker (FromRow rows) (λ (line : Line). passes test line.flood ≡ true) (row_passes rows (recursion_from_All (λ (row : Row). passes test row.flood ≡ true) rows of_rows)) (corrected_lines rows t lines) (from_rows rows t lines))
