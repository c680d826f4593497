-- What a lawful line opens, and the numbers of the events that a draft opens.
use Rattle.std.proofs.Common.{◌≡◌, inl, inr, ℕ, suc, ◌+◌, ◌≤◌, List, [], ◌∷◌, ◌++◌, Bool, true, false, Option, Some, None, refl, sym, ap, subst, ◌∙◌, cond, map, filter, length, arith, option_map}
use Rattle.std.proofs.lemmas.Bool.{and_from, and_left, eq-eqb, both_ways}
use Rattle.std.proofs.lemmas.List.Sums.{sum_by-cons, sum_by-append}
use Rattle.std.proofs.lemmas.List.Elements.{All-from_recursion, recursion_from_All}
use Rattle.std.specs.List.{All, AllByRecursion, Any, Contains, count_by}
use Rattle.std.specs.Option.{is_none}
use Rattle.hazard_types.specs.Days.{year_of}
use Rattle.hazard_types.specs.Places.{Place}
use Rattle.hazard_types.specs.Same.{same_hazard}
use Rattle.hazard_types.specs.declared.codes.Action.{Action}
use Rattle.hazard_types.specs.declared.codes.Action.TheVariants.{New, Con, Exa, Ext, Exb, Rou}
use Rattle.hazard_types.specs.declared.hazard.Event.{Event}
use Rattle.hazard_types.specs.declared.hazard.Hazard.{Hazard}
use Rattle.hazard_types.specs.declared.line.Line.{Line}
use Rattle.hazard_types.specs.declared.line.Row.{Row}
use Rattle.event_life.specs.declared.life.Around.{Around}
use Rattle.event_life.specs.declared.life.Life.{Life}
use Rattle.hazard_types.specs.declared.codes.Category.{Category}
use Rattle.office_types.specs.declared.request.PutPart.{PutPart}
use Rattle.event_life.specs.Periods.{same_at}
use Rattle.hazard_board.specs.Board.{has_period}
use Rattle.action_planner.specs.Lines.{added_lines, is_continued, joined_row, line_on, lines_from, lines_in, lines_in_zones, opening_action, planned_lines, line_of_put, put_line_on, period_of_put, period_of_put_on, unless_ended}
use Rattle.action_planner.specs.Conditions.{CanPlan, MayHold}
use Rattle.action_planner.proofs.LawfulLists.{Has, all_append, all_each, all_map, all_weaker, any_from, contains_from, has_all, has_filter, has_left, has_map, has_right, kept, map_has}
use Rattle.action_planner.proofs.LawfulKeys.{IsOn, each_intent, each_zone, either_action, finish_never, lines_on, restate_never}
use Rattle.event_life.specs.Lives.{opens}
use Rattle.event_life.specs.Products.{is_new, is_routine, life_of, row_at}
use Rattle.event_life.specs.Openings.{counted_from, is_numbered, numbers_of}
use Rattle.event_numbers.specs.declared.Count.{Count}
use Rattle.event_numbers.specs.Counts.{count_of}
use Rattle.office_types.specs.declared.request.Intent.{Intent}
use Rattle.office_types.specs.declared.request.Intent.TheVariants.{Put, Finish, Restate, Routine}
use Rattle.office_types.specs.declared.request.Target.{Target}
use Rattle.office_types.specs.declared.request.Target.TheVariants.{Fresh, Join}
use Rattle.hazard_types.proofs.Equality.{hazard_one}
use Rattle.action_planner.specs.Placed.{Placed, event_of_intent, event_of_target, is_opening, is_opening_target, new_event, opened, opens_hazard, placed, placed_from, targets_new, zones_of}
use Rattle.event_life.specs.Table.{breach_of_line, first_of, on_life, on_nothing}

opens_on_nothing : (a : Action) (line : Line) (t : ℕ) (around : Around) → is_routine a ≡ false → first_of (on_nothing a line t around) ≡ None → opens a ≡ true
opens_on_nothing New line t around plain h = refl
opens_on_nothing Exa line t around plain h = refl
opens_on_nothing Exb line t around plain h = refl
opens_on_nothing Rou line t around plain h = cc
opens_on_nothing _ line t around plain h = cc

opens_on_life : (a : Action) (life : Life) (line : Line) (t : ℕ) (around : Around) → life.ended ≡ false → first_of (on_life a life line t around) ≡ None → opens a ≡ false
opens_on_life New life line t around going h = let never = rw going at h in cc never
opens_on_life Exa life line t around going h = let never = rw going at h in cc never
opens_on_life Exb life line t around going h = let never = rw going at h in cc never
opens_on_life _ life line t around going h = refl

opens_on_ended : (a : Action) (life : Life) (line : Line) (t : ℕ) (around : Around) → is_routine a ≡ false → life.ended ≡ true → first_of (on_life a life line t around) ≡ None → opens a ≡ true
opens_on_ended New life line t around plain over h = refl
opens_on_ended Exa life line t around plain over h = refl
opens_on_ended Exb life line t around plain over h = refl
opens_on_ended Rou life line t around plain over h = cc
opens_on_ended _ life line t around plain over h = let never = rw over at h in cc never

opens_on_row : (row : Row) (b : Bool) → row.ended ≡ b → (line : Line) (t : ℕ) (around : Around) → is_routine line.action ≡ false → first_of (on_life line.action (life_of row) line t around) ≡ None → opens line.action ≡ is_none (unless_ended (Some row))
opens_on_row row true e line t around plain h = rw e (opens_on_ended line.action (life_of row) line t around plain e h)
opens_on_row row false e line t around plain h = rw e (opens_on_life line.action (life_of row) line t around e h)

opens_by : (o : Option Row) (line : Line) (t : ℕ) (around : Around) → is_routine line.action ≡ false → breach_of_line (option_map life_of o) line t around ≡ None → opens line.action ≡ is_none (unless_ended o)
unfolding breach_of_line
opens_by None line t around plain h = opens_on_nothing line.action line t around plain h
opens_by (Some row) line t around plain h = opens_on_row row row.ended refl line t around plain h

-- a line that has no breach, and is no routine line, opens exactly where the event has no row in the zone that no line has ended
pub opens_exactly : (rows : List Row) (line : Line) (t : ℕ) (around : Around) → is_routine line.action ≡ false → breach_of_line (option_map life_of (row_at rows line.event line.zone)) line t around ≡ None →
    opens line.action ≡ is_none (unless_ended (row_at rows line.event line.zone))
opens_exactly rows line t around plain h = opens_by (row_at rows line.event line.zone) line t around plain h

-- numbers

map_step : (b : Bool) (e : Event) (events : List Event) → map (λ (x : Event). x.etn) (cond b (e ∷ events) events) ≡ cond b (e.etn ∷ map (λ (x : Event). x.etn) events) (map (λ (x : Event). x.etn) events)
map_step true e events = refl
map_step false e events = refl

pub numbers-cons : (h : Hazard) (year : ℕ) (e : Event) (events : List Event) → numbers_of h year (e ∷ events) ≡ cond (is_numbered h year e) (e.etn ∷ numbers_of h year events) (numbers_of h year events)
numbers-cons h year e events = map_step (is_numbered h year e) e (filter (is_numbered h year) events)

opened_step : (b : Bool) (p : Placed) (ps : List Placed) → map (λ (x : Placed). x.event) (cond b (p ∷ ps) ps) ≡ cond b (p.event ∷ map (λ (x : Placed). x.event) ps) (map (λ (x : Placed). x.event) ps)
opened_step true p ps = refl
opened_step false p ps = refl

opened-cons : (p : Placed) (ps : List Placed) → opened (p ∷ ps) ≡ cond (is_opening p.intent) (p.event ∷ opened ps) (opened ps)
opened-cons p ps = opened_step (is_opening p.intent) p (filter (λ (x : Placed). is_opening x.intent) ps)

module _ (counts : List Count) (t : ℕ) (h : Hazard) where
  -- the next number of the hazard
  abbrev next : List Intent → ℕ
  next earlier = count_of counts h (year_of t) + 1 + count_by (opens_hazard h) earlier

  other_hazard : (g : Hazard) (etn : ℕ) → same_hazard g h ≡ false → is_numbered h (year_of t) (record { hazard = g; etn = etn; year = year_of t }) ≡ false
  other_hazard g etn e = and_left (same_hazard g h) _ e

  own_hazard : (g : Hazard) (etn : ℕ) → same_hazard g h ≡ true → is_numbered h (year_of t) (record { hazard = g; etn = etn; year = year_of t }) ≡ true
  own_hazard g etn e = and_from (same_hazard g h) _ e (eq-eqb (year_of t) (year_of t) refl)

  -- what an intent adds to the numbers
  abbrev Adds : List Intent → Intent → Event → Type 0
  Adds earlier i e =
      (opens_hazard h i ≡ true → (is_opening i ≡ true) × (is_numbered h (year_of t) e ≡ true) × (e.etn ≡ next earlier))
      × (opens_hazard h i ≡ false → is_opening i ≡ true → is_numbered h (year_of t) e ≡ false)

  adds_target : (earlier : List Intent) (target : Target) →
      (targets_new h target ≡ true → (is_opening_target target ≡ true) × (is_numbered h (year_of t) (event_of_target counts t earlier target) ≡ true) × ((event_of_target counts t earlier target).etn ≡ next earlier))
      × (targets_new h target ≡ false → is_opening_target target ≡ true → is_numbered h (year_of t) (event_of_target counts t earlier target) ≡ false)
  adds_target earlier (Fresh g) =
      (λ e. (refl, own_hazard g (new_event counts t earlier g).etn e, ap (λ (x : Hazard). (new_event counts t earlier x).etn) (hazard_one g h e)), λ e o. other_hazard g (new_event counts t earlier g).etn e)
  adds_target earlier (Join d) = (λ e. cc, λ e o. cc)

  adds : (earlier : List Intent) (i : Intent) → Adds earlier i (event_of_intent counts t earlier i)
  adds earlier (Put part) = adds_target earlier part.target
  adds earlier (Finish part) = (λ e. cc, λ e o. cc)
  adds earlier (Restate part) = (λ e. cc, λ e o. cc)
  adds earlier (Routine part) = (λ e. cc, λ e o. cc)

  numbers_step : (e : Event) (events : List Event) (opening : Bool) (n k : ℕ) (own : Bool) → (own ≡ true → (opening ≡ true) × (is_numbered h (year_of t) e ≡ true) × (e.etn ≡ n)) → (own ≡ false → opening ≡ true → is_numbered h (year_of t) e ≡ false) →
      numbers_of h (year_of t) events ≡ counted_from (n + cond own 1 0) k → numbers_of h (year_of t) (cond opening (e ∷ events) events) ≡ counted_from n (cond own (suc k) k)
  numbers_step e events true n k true yes_own no_own rest =
      let p = yes_own refl in
      numbers-cons h (year_of t) e events ∙ rw (p.1, p.2) (ap (λ (ns : List ℕ). n ∷ ns) rest)
  numbers_step e events false n k true yes_own no_own rest = let p = (yes_own refl).0 in cc
  numbers_step e events true n k false yes_own no_own rest = numbers-cons h (year_of t) e events ∙ rw (no_own refl refl) (let same : n + 0 ≡ n = omega arith in rw same at rest)
  numbers_step e events false n k false yes_own no_own rest = let same : n + 0 ≡ n = omega arith in rw same at rest

  count_step : (own : Bool) (k : ℕ) → cond own (suc k) k ≡ cond own 1 0 + k
  count_step true k = omega arith
  count_step false k = omega arith

  -- the new events of the hazard have the next numbers
  pub numbers_go_on : (earlier intents : List Intent) → numbers_of h (year_of t) (opened (placed_from counts t earlier intents)) ≡ counted_from (next earlier) (count_by (opens_hazard h) intents)
  numbers_go_on earlier [] = refl
  numbers_go_on earlier (i ∷ intents) =
      let e = event_of_intent counts t earlier i in
      let p : Placed = record { place = length earlier; event = e; intent = i } in
      let ps = placed_from counts t (earlier ++ i ∷ []) intents in
      let k = count_by (opens_hazard h) intents in
      let a = adds earlier i in
      let later : next (earlier ++ i ∷ []) ≡ next earlier + cond (opens_hazard h i) 1 0 =
      omega (arith, sum_by-append (λ (x : Intent). cond (opens_hazard h x) 1 0) earlier (i ∷ [])) in
      let rest : numbers_of h (year_of t) (opened ps) ≡ counted_from (next earlier + cond (opens_hazard h i) 1 0) k = numbers_go_on (earlier ++ i ∷ []) intents ∙ ap (λ (n : ℕ). counted_from n k) later in
      let count : cond (opens_hazard h i) (suc k) k ≡ count_by (opens_hazard h) (i ∷ intents) = count_step (opens_hazard h i) k ∙ sym (sum_by-cons (λ (x : Intent). cond (opens_hazard h x) 1 0) i intents) in
      ap (numbers_of h (year_of t)) (opened-cons p ps)
      ∙ numbers_step e (opened ps) (is_opening i) (next earlier) k (opens_hazard h i) a.0 a.1 rest
      ∙ ap (counted_from (next earlier)) count

year_target : (counts : List Count) (t : ℕ) (earlier : List Intent) (target : Target) → is_opening_target target ≡ true → (event_of_target counts t earlier target).year ≡ year_of t
year_target counts t earlier (Fresh h) o = refl
year_target counts t earlier (Join d) o = cc

year_placed : (counts : List Count) (t : ℕ) (earlier : List Intent) (i : Intent) → is_opening i ≡ true → (event_of_intent counts t earlier i).year ≡ year_of t
year_placed counts t earlier (Put part) o = year_target counts t earlier part.target o
year_placed counts t earlier (Finish part) o = cc
year_placed counts t earlier (Restate part) o = cc
year_placed counts t earlier (Routine part) o = cc

years_step : (t : ℕ) (e : Event) (events : List Event) (b : Bool) → (b ≡ true → e.year ≡ year_of t) → AllByRecursion (λ x. x.year ≡ year_of t) events → AllByRecursion (λ x. x.year ≡ year_of t) (cond b (e ∷ events) events)
years_step t e events true own rest = (own refl, rest)
years_step t e events false own rest = rest

-- the new events are of the year of issue
pub years_of_issue : (counts : List Count) (t : ℕ) (earlier intents : List Intent) → AllByRecursion (λ e. e.year ≡ year_of t) (opened (placed_from counts t earlier intents))
years_of_issue counts t earlier [] = tt
years_of_issue counts t earlier (i ∷ intents) =
    let e = event_of_intent counts t earlier i in
    let p : Placed = record { place = length earlier; event = e; intent = i } in
    let ps = placed_from counts t (earlier ++ i ∷ []) intents in
    let all = years_step t e (opened ps) (is_opening i) (year_placed counts t earlier i) (years_of_issue counts t (earlier ++ i ∷ []) intents) in
    subst (λ (events : List Event). AllByRecursion (λ x. x.year ≡ year_of t) events) (sym (opened-cons p ps)) all

-- NEW lines

opening_new : (rows : List Row) (t : ℕ) (e : Event) (part : PutPart) (target : Target) → is_new (opening_action rows t e part target) ≡ is_opening_target target
opening_new rows t e part (Fresh h) = refl
opening_new rows t e part (Join d) = either_action is_new (has_period rows e (period_of_put part t) t) Exa Exb refl refl

put_new : (rows : List Row) (t : ℕ) (e : Event) (part : PutPart) (z : Place) (o : Option Row) → is_new (put_line_on rows t e part z o).action ≡ true → is_opening_target part.target ≡ true
put_new rows t e part z None h = sym (opening_new rows t e part part.target) ∙ h
put_new rows t e part z (Some row) h = absurd (both_ways _ (either_action is_new (same_at t row.period (period_of_put_on part t row)) Con Ext refl refl) h)

new_by : (rows : List Row) (e : Event) (z : Place) (target : Target) → is_opening_target target ≡ true → joined_row rows e z target ≡ None
new_by rows e z (Fresh h) o = refl
new_by rows e z (Join d) o = cc

new_put : (rows : List Row) (t : ℕ) (e : Event) (part : PutPart) (z : Place) → is_opening_target part.target ≡ true → is_new (line_of_put rows t e part z).action ≡ true
new_put rows t e part z o =
    ap (λ (x : Option Row). is_new (put_line_on rows t e part z x).action) (new_by rows e z part.target o) ∙ opening_new rows t e part part.target ∙ o

module _ (rows : List Row) (t : ℕ) (all : List Placed) where
  abbrev IsOpened : Line → Type 0
  IsOpened line = is_new line.action ≡ true → Has (opened all) line.event

  opened_in : (e : Event) (i : Intent) (z : Place) → (is_opening i ≡ true → Has (opened all) e) → AllByRecursion IsOpened (lines_in rows t all e i z)
  opened_in e (Put part) z own = (
    λ h.
        let on : IsOn e z (line_of_put rows t e part z) = (lines_on rows t all e (Put part) z).0 in
        let there : Has (opened all) e = own (put_new rows t e part z (joined_row rows e z part.target) h) in
        subst (λ (x : Event). Has (opened all) x) (sym on.0) there,
    tt,
  )
  opened_in e (Finish part) z own = finish_never is_new (λ (line : Line). Has (opened all) line.event) refl refl refl rows t all (row_at rows e z)
  opened_in e (Restate part) z own = restate_never is_new (λ (line : Line). Has (opened all) line.event) refl t (row_at rows e z)
  opened_in e (Routine part) z own = ((λ h. cc), tt)

  is_among : (p : Placed) → Has all p → is_opening p.intent ≡ true → Has (opened all) p.event
  is_among p h o = map_has (λ (x : Placed). x.event) (filter (λ (x : Placed). is_opening x.intent) all) p (kept (λ (x : Placed). is_opening x.intent) all p h o)

  -- each NEW line is of an opened event
  pub new_lines_opened : (c : Category) → AllByRecursion IsOpened (planned_lines c rows t all)
  new_lines_opened c = all_append IsOpened (lines_from rows t all all) (added_lines c rows t all)
      (each_intent rows t all IsOpened (Has all) (λ p h. each_zone rows t all IsOpened (λ z. Unit {0}) p.event p.intent (λ z u. opened_in p.event p.intent z (is_among p h)) (zones_of p.intent) (all_each (λ z. Unit {0}) (λ z. tt) (zones_of p.intent))) all (has_all all))
      (all_map IsOpened (line_on Con t) (filter (is_continued c t all) rows) (all_each (λ r. IsOpened (line_on Con t r)) (λ r h. cc) (filter (is_continued c t all) rows)))

  abbrev pub HasNew : List Line → Event → Type 0
  HasNew lines e = (l : Line) × Has lines l × (is_new l.action ≡ true) × (l.event ≡ e)

  new_zone : (e : Event) (i : Intent) → is_opening i ≡ true → (zones : List Place) → 1 ≤ length zones → HasNew (lines_in_zones rows t all e i zones) e
  new_zone e (Put part) o [] some = absurd (omega (arith, some))
  new_zone e (Put part) o (z ∷ zones) some =
      let on : IsOn e z (line_of_put rows t e part z) = (lines_on rows t all e (Put part) z).0 in
      (line_of_put rows t e part z, inl refl, new_put rows t e part z o, on.0)
  new_zone e (Finish part) o zones some = cc
  new_zone e (Restate part) o zones some = cc
  new_zone e (Routine part) o zones some = cc

  new_among : (qs : List Placed) → AllByRecursion (λ p. 1 ≤ length (zones_of p.intent)) qs → (p : Placed) → Has qs p → is_opening p.intent ≡ true → HasNew (lines_from rows t all qs) p.event
  new_among [] some p h o = absurd h
  new_among (q ∷ qs) some p (inl same) o =
      let opening : is_opening q.intent ≡ true = ap (λ (x : Placed). is_opening x.intent) same ∙ o in
      let m = new_zone q.event q.intent opening (zones_of q.intent) some.0 in
      (m.0, has_left (lines_in_zones rows t all q.event q.intent (zones_of q.intent)) (lines_from rows t all qs) m.0 m.1, m.2, m.3 ∙ ap (λ (x : Placed). x.event) same)
  new_among (q ∷ qs) some p (inr h) o =
      let m = new_among qs some.1 p h o in
      (m.0, has_right (lines_in_zones rows t all q.event q.intent (zones_of q.intent)) (lines_from rows t all qs) m.0 m.1, m.2, m.3)

  -- each opened event has a NEW line
  pub opened_have_lines : (c : Category) → AllByRecursion (λ p. 1 ≤ length (zones_of p.intent)) all → (e : Event) → Has (opened all) e → HasNew (planned_lines c rows t all) e
  opened_have_lines c some e h =
      let m = has_map (λ (x : Placed). x.event) (filter (λ (x : Placed). is_opening x.intent) all) e h in
      let k = has_filter (λ (x : Placed). is_opening x.intent) all m.0 m.1 in
      let n = new_among all some m.0 k.0 k.1 in
      (n.0, has_left (lines_from rows t all all) (added_lines c rows t all) n.0 n.1, n.2, n.3 ∙ m.2)

pub some_placed : (counts : List Count) (c : Category) (t : ℕ) (earlier intents : List Intent) → AllByRecursion (MayHold c) intents → AllByRecursion (λ p. 1 ≤ length (zones_of p.intent)) (placed_from counts t earlier intents)
some_placed counts c t earlier [] all = tt
some_placed counts c t earlier (i ∷ intents) all = (all.0.1.some, some_placed counts c t (earlier ++ i ∷ []) intents all.1)

-- in the words of clauses

pub new_numbers : (counts : List Count) (intents : List Intent) (t : ℕ) (h : Hazard) → numbers_of h (year_of t) (opened (placed counts t intents)) ≡ counted_from (count_of counts h (year_of t) + 1) (count_by (opens_hazard h) intents)
new_numbers counts intents t h =
    let first : count_of counts h (year_of t) + 1 + 0 ≡ count_of counts h (year_of t) + 1 = omega arith in
    numbers_go_on counts t h [] intents ∙ ap (λ (n : ℕ). counted_from n (count_by (opens_hazard h) intents)) first

pub new_years : (counts : List Count) (intents : List Intent) (t : ℕ) → All (λ (e : Event). e.year ≡ year_of t) (opened (placed counts t intents))
new_years counts intents t = All-from_recursion (λ (e : Event). e.year ≡ year_of t) (opened (placed counts t intents)) (years_of_issue counts t [] intents)

pub new_lines : (c : Category) (rows : List Row) (counts : List Count) (intents : List Intent) (t : ℕ) → All (λ (l : Line). is_new l.action ≡ true → Contains (opened (placed counts t intents)) l.event) (planned_lines c rows t (placed counts t intents))
new_lines c rows counts intents t =
    let all = placed counts t intents in
    let P : Line → Type 0 = λ l. is_new l.action ≡ true → Contains (opened all) l.event in
    All-from_recursion P (planned_lines c rows t all)
    (all_weaker (λ l. is_new l.action ≡ true → Has (opened all) l.event) P (λ l h n. contains_from (opened all) l.event (h n)) (planned_lines c rows t all) (new_lines_opened rows t all c))

pub new_events : (c : Category) (rows : List Row) (counts : List Count) (intents : List Intent) (t : ℕ) → CanPlan rows counts c intents t →
    All (λ (e : Event). Any (λ (l : Line). (is_new l.action ≡ true) × (l.event ≡ e)) (planned_lines c rows t (placed counts t intents))) (opened (placed counts t intents))
new_events c rows counts intents t can =
    let all = placed counts t intents in
    let lines = planned_lines c rows t all in
    let some = some_placed counts c t [] intents (recursion_from_All (MayHold c) intents can.fitting) in
    let Q : Event → Type 0 = λ e. Any (λ (l : Line). (is_new l.action ≡ true) × (l.event ≡ e)) lines in
    All-from_recursion Q (opened all)
    (all_weaker (Has (opened all)) Q (λ e h.
    let m = opened_have_lines rows t all c some e h in
    any_from (λ (l : Line). (is_new l.action ≡ true) × (l.event ≡ e)) lines m.0 m.1 (m.2, m.3)) (opened all) (has_all (opened all)))
