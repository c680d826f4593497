-- What holds of an office's rows and numbers holds after the product of a draft too.
use Rattle.std.proofs.Common.{◌≡◌, ◌&&◌, ◌||◌, not, ℕ, ◌+◌, ◌<◌, ◌≤◌, List, [], ◌∷◌, ◌++◌, Bool, true, false, Option, Some, None, inl, inr, refl, sym, ap, subst, ◌∙◌, cond, filter, arith, nat_le, nat_lt}
use Rattle.std.proofs.lemmas.Bool.{and_from, and_parts, and_right, cases_eq, le-leb, leb-false, leb-true, ltb-false, not-true, or_right}
use Rattle.std.proofs.lemmas.List.Elements.{recursion_from_All}
use Rattle.std.specs.Cmp.{both_ways}
use Rattle.std.specs.List.{AllByRecursion, count_by}
use Rattle.std.specs.List.Sorted.{IsStrictlySortedBy}
use Rattle.hazard_types.specs.Days.{year_of}
use Rattle.hazard_types.specs.Hazards.{facts_of}
use Rattle.hazard_types.specs.Places.{Place}
use Rattle.hazard_types.specs.Same.{same_event}
use Rattle.std.specs.Option.{is_some}
use Rattle.hazard_types.specs.declared.codes.Category.{Category}
use Rattle.hazard_types.specs.declared.facts.Facts.{Facts}
use Rattle.hazard_types.specs.declared.hazard.Event.{Event}
use Rattle.hazard_types.specs.declared.hazard.Hazard.{Hazard}
use Rattle.hazard_types.specs.declared.line.Line.{Line}
use Rattle.hazard_types.specs.declared.line.Row.{Row}
use Rattle.office_types.specs.declared.refusal.Refusal.{Refusal}
use Rattle.office_types.specs.declared.request.Intent.{Intent}
use Rattle.office_types.specs.declared.request.Intent.TheVariants.{Put, Finish, Restate, Routine}
use Rattle.office_types.specs.declared.request.Target.{Target}
use Rattle.office_types.specs.declared.request.Target.TheVariants.{Fresh, Join}
use Rattle.hazard_types.proofs.Equality.{event_itself, event_one}
use Rattle.hazard_types.specs.declared.codes.Action.{Action}
use Rattle.hazard_types.specs.declared.codes.Action.TheVariants.{New}
use Rattle.event_life.specs.Openings.{is_numbered}
use Rattle.event_life.specs.Products.{by_key, has_rows, is_new, is_routine, rows_after}
use Rattle.event_numbers.specs.declared.Count.{Count}
use Rattle.event_numbers.specs.Counts.{count_of, DrawsAll}
use Rattle.event_life.specs.Reordered.{are_lawful}
use Rattle.event_life.proofs.LawfulLemmas.{touches}
use Rattle.hazard_board.specs.Clashes.{least_clash}
use Rattle.hazard_board.specs.Consistent.{AreOfTheYear}
use Rattle.hazard_board.specs.Taken.{rows_taken}
use Rattle.hazard_board.proofs.ConsistentLemmas.{stays_consistent}
use Rattle.hazard_board.proofs.NumberLemmas.{after_consistent, behind_hold, stays_behind}
use Rattle.hazard_board.proofs.Turns.{lawful_taken}
use Rattle.action_planner.specs.Conditions.{AreNumbered, CanPlan, Fits, FitsTarget, MayHold}
use Rattle.action_planner.specs.Lines.{planned_lines}
use Rattle.action_planner.specs.Offences.{broken, first_by, refused_clash, rules, numbers_spent}
use Rattle.action_planner.specs.Placed.{Placed, event_of_intent, event_of_target, is_opening, opened, opens_hazard, placed, placed_from}
use Rattle.action_planner.specs.Standing.{AreKnown, HaveFourDigits, IsKnown, Stands}
use Rattle.action_planner.proofs.Lawful.{planned_lawful, sound}
use Rattle.action_planner.proofs.LawfulLines.{not_bad}
use Rattle.action_planner.proofs.LawfulLists.{Has, all_filter, all_has, all_kept, all_weaker, any_has, has_any, has_filter, has_map, has_right, kept, map_has}
use Rattle.action_planner.proofs.LawfulOpenings.{new_lines_opened, new_numbers, opened_have_lines, some_placed, years_of_issue}
use Rattle.action_planner.proofs.AfterLemmas.{all_after}
use Rattle.action_planner.proofs.LawfulPlaced.{by_none, fits, given_none, map_none}
use Rattle.action_planner.proofs.SiteLemmas.{opened_apart, plan_sited}
use Rattle.action_planner.proofs.SourceLemmas.{Comes, comes}
use Rattle.action_planner.proofs.LawfulSteps.{IsSound}
use Rattle.action_planner.proofs.StandingNumbers.{GoOn, drawn_behind, drawn_there, drawn_within, go_on}
use Rattle.action_planner.proofs.StandingRows.{after_has, are_of, new_without_rows}

-- at first, and later

none_numbered : (n : ℕ) (b : Bool) → nat_le n 0 ≡ b → false ≡ (nat_le 1 n && b)
none_numbered n true h = let none = leb-true n 0 h in let same : n ≡ 0 = omega (arith, none) in rw same refl
none_numbered n false h = sym (and_right (nat_le 1 n) false refl)

pub at_first : (t : ℕ) → Stands [] [] t
at_first t = record {
  consistent = record { apart = tt; numbered = tt; ends = tt };
  behind = tt;
  numbered = λ e. none_numbered e.etn (nat_le e.etn 0) refl;
  digits = λ h year. omega arith;
  sited = record { values = tt; one = tt };
  known = tt;
}

pub later : (rows : List Row) (counts : List Count) (t u : ℕ) → t ≤ u → Stands rows counts t → Stands rows counts u
later rows counts t u le s = record {
  consistent = stays_consistent rows t u le s.consistent;
  behind = stays_behind rows t u le s.behind;
  numbered = s.numbered;
  digits = s.digits;
  sited = s.sited;
  known = s.known;
}

-- the numbers that a draft draws

pub opened_go_on : (counts : List Count) (t : ℕ) (intents : List Intent) → GoOn (count_of counts) (opened (placed counts t intents))
opened_go_on counts t intents =
    go_on (count_of counts) (opened (placed counts t intents)) (year_of t) (years_of_issue counts t [] intents) (λ h. (count_by (opens_hazard h) intents, new_numbers counts intents t h))

not_spent : (opening : Bool) (etn : ℕ) (r : Refusal) → opening ≡ true → cond (opening && nat_lt 9999 etn) (Some r) None ≡ None → etn ≤ 9999
not_spent true etn r o h = ltb-false 9999 etn (not_bad (nat_lt 9999 etn) r h)
not_spent false etn r o h = cc

pub four_digits : (ps : List Placed) (e : Event) → first_by numbers_spent ps ≡ None → Has (opened ps) e → e.etn ≤ 9999
four_digits ps e none h =
    let m = has_map (λ (x : Placed). x.event) (filter (λ (x : Placed). is_opening x.intent) ps) e h in
    let k = has_filter (λ (x : Placed). is_opening x.intent) ps m.0 m.1 in
    let own : numbers_spent m.0 ≡ None = all_has (λ (p : Placed). numbers_spent p ≡ None) ps m.0 (by_none numbers_spent ps none) k.0 in
    subst (λ (x : Event). x.etn ≤ 9999) m.2 (not_spent (is_opening m.0.intent) m.0.event.etn _ k.1 own)

pub is_among_opened : (ps : List Placed) (p : Placed) → Has ps p → is_opening p.intent ≡ true → Has (opened ps) p.event
is_among_opened ps p h o = map_has (λ (x : Placed). x.event) (filter (λ (x : Placed). is_opening x.intent) ps) p (kept (λ (x : Placed). is_opening x.intent) ps p h o)

pub drawn_in_order : (c : Category) (rows : List Row) (counts : List Count) (intents : List Intent) (t : ℕ) (earlier behind : List Event) (e : Event) →
    broken c rows t (placed counts t intents) ≡ None → opened (placed counts t intents) ≡ earlier ++ e ∷ behind →
    (e.etn ≡ count_of counts e.hazard e.year + count_by (is_numbered e.hazard e.year) earlier + 1) × (e.etn ≤ 9999)
unfolding broken
drawn_in_order c rows counts intents t earlier behind e h parts =
    let ps = placed counts t intents in
    let given = given_none (rules c rows t ps) h in
    let there : Has (opened ps) e = subst (λ (es : List Event). Has es e) (sym parts) (has_right earlier (e ∷ behind) e (inl refl)) in (
      drawn_behind (count_of counts) (opened ps) (opened_go_on counts t intents) e earlier behind parts,
      four_digits ps e given.1.1.1.1.1.1.1.1.1.1.1.1.1.0 there,
    )

-- rows after the product

new_touches : (a : Action) → is_new a ≡ true → not (is_routine a) ≡ true
new_touches New h = refl
new_touches _ h = cc

no_clash : (c : Category) (rows : List Row) (t : ℕ) (ps : List Placed) → broken c rows t ps ≡ None → least_clash t (rows_taken rows t (planned_lines c rows t ps)) ≡ None
unfolding broken
no_clash c rows t ps h = map_none refused_clash (least_clash t (rows_taken rows t (planned_lines c rows t ps))) (given_none (rules c rows t ps) h).1.1.1.1.1.1.1.1.1.1.1.0

of_the_year : (lines : List Line) (events : List Event) (t : ℕ) → AllByRecursion (λ l. is_new l.action ≡ true → Has events l.event) lines → AllByRecursion (λ e. e.year ≡ year_of t) events → AreOfTheYear lines t
of_the_year lines events t new years = all_weaker (λ l. is_new l.action ≡ true → Has events l.event) (λ l. is_new l.action ≡ true → l.event.year ≡ year_of t)
    (λ l own n. all_has (λ (e : Event). e.year ≡ year_of t) events l.event years (own n)) lines new

-- numbers after the product

or_last : (b : Bool) → (b || false) ≡ b
or_last true = refl
or_last false = refl

second_false : (a b : Bool) → a ≡ true → false ≡ (a && b) → b ≡ false
second_false true b own h = sym h
second_false false b own h = cc

-- an event has rows after the product where it had them, or has the number of one that was opened
numbered_by : (etn count more : ℕ) (had spoken : Bool) → had ≡ (nat_le 1 etn && nat_le etn count) →
    (had ≡ false → spoken ≡ true → (count < etn) × (etn ≤ count + more)) → (had ≡ false → count < etn → etn ≤ count + more → spoken ≡ true) →
    (spoken || had) ≡ (nat_le 1 etn && nat_le etn (count + more))
numbered_by etn count more true spoken own new there =
    let p = and_parts (nat_le 1 etn) _ (sym own) in
    let high = leb-true etn count p.1 in
    let still : (nat_le 1 etn && nat_le etn (count + more)) ≡ true = and_from _ _ p.0 (le-leb etn (count + more) (omega (arith, high))) in
    or_right spoken true refl ∙ sym still
numbered_by etn count more false spoken own new there =
    or_last spoken ∙ both_ways spoken (nat_le 1 etn && nat_le etn (count + more))
    (λ s. let w = new refl s in and_from _ _ (le-leb 1 etn (omega (arith, w.0))) (le-leb etn (count + more) w.1))
    (λ s.
    let p = and_parts (nat_le 1 etn) _ s in
    there refl (leb-false etn count (second_false (nat_le 1 etn) _ p.0 own)) (leb-true etn (count + more) p.1))

module _ (rows : List Row) (t : ℕ) (lines : List Line) (events : List Event) where
  -- a line of an event without rows is NEW
  abbrev OpensNew : Line → Type 0
  OpensNew l = has_rows rows l.event ≡ false → is_new l.action ≡ true

  -- a NEW line is of one of these events
  abbrev OpensOne : Line → Type 0
  OpensOne l = is_new l.action ≡ true → Has events l.event

  spoken_of : AllByRecursion OpensNew lines → AllByRecursion OpensOne lines → (e : Event) → has_rows rows e ≡ false → are_of lines e ≡ true → Has events e
  spoken_of new one e none h =
      let w = has_any (λ (l : Line). same_event l.event e) lines h in
      let l : Line = w.0 in
      let same : l.event ≡ e = event_one l.event e w.2 in
      let first : is_new l.action ≡ true = all_has OpensNew lines l new w.1 (ap (has_rows rows) same ∙ none) in
      subst (λ (x : Event). Has events x) same (all_has OpensOne lines l one w.1 first)

  numbered_after : (counts after : List Count) → AreNumbered rows counts → DrawsAll counts after events → GoOn (count_of counts) events →
      (all : List Line) → lines ≡ filter touches all → are_lawful rows t all ≡ true → AllByRecursion OpensNew lines → AllByRecursion OpensOne lines →
      ((e : Event) → Has events e → (l : Line) × Has lines l × (is_new l.action ≡ true) × (l.event ≡ e)) → AreNumbered (rows_after rows t all) after
  numbered_after counts after numbered draws on all kept_are lawful new one each e =
      let said : Has events e → are_of lines e ≡ true = λ h.
      let w = each e h in
      any_has (λ (l : Line). same_event l.event e) lines w.0 w.1 (ap (λ (x : Event). same_event x e) w.3 ∙ event_itself e) in
      after_has rows t all e lawful
      ∙ ap (λ (ls : List Line). are_of ls e || has_rows rows e) (sym kept_are)
      ∙ numbered_by e.etn (count_of counts e.hazard e.year) (count_by (is_numbered e.hazard e.year) events) (has_rows rows e) (are_of lines e) (numbered e)
      (λ none h. drawn_within (count_of counts) events on e (spoken_of new one e none h))
      (λ none low high. said (drawn_there (count_of counts) events on e low high))
      ∙ ap (λ (n : ℕ). nat_le 1 e.etn && nat_le e.etn n) (sym (draws e.hazard e.year))

-- hazards after the product

known_by : (h : Hazard) (f : Facts) → facts_of h ≡ Some f → IsKnown h
known_by h f e = ap (λ (o : Option Facts). is_some o) e

known_target : (counts : List Count) (t : ℕ) (earlier : List Intent) (c : Category) (zones : List Place) (target : Target) → FitsTarget c target zones → IsKnown (event_of_target counts t earlier target).hazard
known_target counts t earlier c zones (Fresh h) fit = known_by h fit.0.0 fit.0.1
known_target counts t earlier c zones (Join e) fit = known_by e.hazard fit.0.0 fit.0.1

known_intent : (counts : List Count) (t : ℕ) (earlier : List Intent) (c : Category) (i : Intent) → Fits c i → IsKnown (event_of_intent counts t earlier i).hazard
known_intent counts t earlier c (Put part) fit = known_target counts t earlier c part.zones part.target fit
known_intent counts t earlier c (Finish part) fit = known_by part.event.hazard fit.0.0 fit.0.1
known_intent counts t earlier c (Restate part) fit = known_by part.event.hazard fit.0.0 fit.0.1
known_intent counts t earlier c (Routine part) fit = known_by part.hazard fit.0.0 fit.0.1

abbrev pub IsKnownAt : Placed → Type 0
IsKnownAt p = IsKnown p.event.hazard

pub known_placed : (counts : List Count) (t : ℕ) (c : Category) (earlier intents : List Intent) → AllByRecursion (MayHold c) intents → AllByRecursion IsKnownAt (placed_from counts t earlier intents)
known_placed counts t c earlier [] all = tt
known_placed counts t c earlier (i ∷ intents) all = (known_intent counts t earlier c i all.0.0, known_placed counts t c (earlier ++ i ∷ []) intents all.1)

pub known_line : (rows : List Row) (ps : List Placed) → AreKnown rows → AllByRecursion IsKnownAt ps → (line : Line) → Comes rows ps line → IsKnown line.event.hazard
known_line rows ps known fit line (inl f) = subst (λ (e : Event). IsKnown e.hazard) f.event (all_has (λ (row : Row). IsKnown row.event.hazard) rows f.row known f.there)
known_line rows ps known fit line (inr (inl f)) = subst (λ (e : Event). IsKnown e.hazard) f.event (all_has IsKnownAt ps f.by fit f.among)
known_line rows ps known fit line (inr (inr f)) = subst (λ (e : Event). IsKnown e.hazard) f.event (all_has IsKnownAt ps f.by fit f.among)

-- numbers after the product have four digits

pub digits_after : (counts after : List Count) (ps : List Placed) → GoOn (count_of counts) (opened ps) → HaveFourDigits counts → first_by numbers_spent ps ≡ None → DrawsAll counts after (opened ps) → HaveFourDigits after
digits_after counts after ps on digits none draws h year =
    let more : ℕ = count_by (is_numbered h year) (opened ps) in
    let before : count_of counts h year ≤ 9999 = digits h year in
    let drawn : count_of after h year ≡ count_of counts h year + more = draws h year in
    let last : Event = record { hazard = h; etn = count_of counts h year + more; year = year } in
    elim (cases_eq more 0) as (λ _. count_of after h year ≤ 9999) [
      | inl same ↦ omega (arith, before, drawn, same)
      | inr other ↦
          let there : Has (opened ps) last = drawn_there (count_of counts) (opened ps) on last (omega (arith, other)) (omega arith) in
          let fits : count_of counts h year + more ≤ 9999 = four_digits ps last none there in
          omega (arith, fits, drawn)
    ]

pub plans_keep : (c : Category) (rows : List Row) (counts after : List Count) (intents : List Intent) (t : ℕ) →
    CanPlan rows counts c intents t → Stands rows counts t → IsStrictlySortedBy by_key rows → broken c rows t (placed counts t intents) ≡ None →
    DrawsAll counts after (opened (placed counts t intents)) → Stands (rows_after rows t (planned_lines c rows t (placed counts t intents))) after t
unfolding broken
plans_keep c rows counts after intents t can stands up h draws =
    let ps = placed counts t intents in
    let lines = planned_lines c rows t ps in
    let lawful : are_lawful rows t lines ≡ true = planned_lawful c rows counts intents t can up h in
    let some_lines = filter touches lines in
    let one = new_lines_opened rows t ps c in
    let years = of_the_year lines (opened ps) t one (years_of_issue counts t [] intents) in
    let none : least_clash t (rows_after rows t lines) ≡ None = subst (λ (after : List Row). least_clash t after ≡ None) (lawful_taken rows t lines lawful) (no_clash c rows t ps h) in
    let new = all_weaker (λ l. IsSound rows t l × (touches l ≡ true)) (λ l. has_rows rows l.event ≡ false → is_new l.action ≡ true) (λ l s. new_without_rows rows t l (not-true _ s.1) s.0) some_lines
    (all_filter (IsSound rows t) touches lines (sound c rows counts intents t can up h)) in
    let fitting = recursion_from_All (MayHold c) intents can.fitting in
    let some = some_placed counts c t [] intents fitting in
    let each : (e : Event) → Has (opened ps) e → (l : Line) × Has some_lines l × (is_new l.action ≡ true) × (l.event ≡ e) = λ e g.
    let w = opened_have_lines rows t ps c some e g in (w.0, kept touches lines w.0 w.1 (new_touches w.0.action w.2), w.2, w.3) in
    let from = comes rows t ps c in
    let known : AllByRecursion (λ l. IsKnown l.event.hazard) some_lines = all_kept (λ l. IsKnown l.event.hazard) touches lines (all_weaker (Comes rows ps) (λ l. IsKnown l.event.hazard) (known_line rows ps stands.known (known_placed counts t c [] intents fitting)) lines from) in
    record {
      consistent = after_consistent rows t lines up can.consistent stands.behind years none;
      behind = behind_hold rows t lines up stands.behind years;
      numbered = numbered_after rows t some_lines (opened ps) counts after can.numbered draws (opened_go_on counts t intents) lines refl lawful new (all_kept (λ l. is_new l.action ≡ true → Has (opened ps) l.event) touches lines one) each;
      digits = digits_after counts after ps (opened_go_on counts t intents) stands.digits (given_none (rules c rows t ps) h).1.1.1.1.1.1.1.1.1.1.1.1.1.0 draws;
      sited = plan_sited rows t ps can.sited (fits c rows counts intents t can h) (opened_apart counts t [] intents) lines from lawful;
      known = all_after (λ row. IsKnown row.event.hazard) rows t lines lawful stands.known known;
    }
