-- No two lines of a draft speak of one event in one zone.
use Rattle.std.proofs.Common.{◌≡◌, ◌==◌, ◌&&◌, not, ℕ, List, [], ◌∷◌, ◌++◌, Bool, true, false, Option, Some, None, Less, Equal, refl, sym, ap, ◌∙◌, inl, inr, cond, filter}
use Rattle.std.proofs.lemmas.Bool.{and_parts, and_from, or_parts, or_left, or_right, not-true, not_from_false, false_from_ne_true, both_ways}
use Rattle.std.proofs.lemmas.List.Folds.{list_any-append}
use Rattle.std.specs.List.{AllByRecursion, AllPairs, IsDistinct, list_any}
use Rattle.std.specs.List.Sorted.{IsStrictlySortedBy}
use Rattle.hazard_types.specs.Places.{Place}
use Rattle.hazard_types.specs.Same.{same_zone, same_event}
use Rattle.hazard_types.specs.declared.codes.Action.{Action}
use Rattle.hazard_types.specs.declared.codes.Action.TheVariants.{New, Con, Exa, Ext, Exb, Upg, Can, Exp}
use Rattle.hazard_types.specs.declared.codes.Category.{Category}
use Rattle.hazard_types.specs.declared.hazard.Event.{Event}
use Rattle.hazard_types.specs.declared.line.Line.{Line}
use Rattle.hazard_types.specs.declared.line.Row.{Row}
use Rattle.office_types.specs.declared.request.Intent.{Intent}
use Rattle.office_types.specs.declared.request.Intent.TheVariants.{Put, Finish, Restate, Routine}
use Rattle.office_types.specs.declared.request.PutPart.{PutPart}
use Rattle.office_types.specs.declared.request.Target.{Target}
use Rattle.office_types.specs.declared.request.Target.TheVariants.{Fresh, Join}
use Rattle.hazard_types.proofs.Equality.{event_itself, event_one, zone_itself, zone_one}
use Rattle.event_life.specs.Periods.{ends_after, is_live, same_at}
use Rattle.event_life.specs.Products.{by_key, is_routine, is_upgrade, row_at, concerns}
use Rattle.event_life.proofs.Keys.{key_ties}
use Rattle.event_life.proofs.Puts.{at_key, at_key-parts, concerns-parts}
use Rattle.hazard_board.specs.Board.{has_period}
use Rattle.action_planner.specs.Placed.{Placed, zones_of, touches, speaks}
use Rattle.action_planner.specs.Lines.{is_near_end, is_overlaid, period_of_put, period_of_put_on, opening_action, joined_row, put_line_on, line_of_put, line_on, finish_lines, restate_lines, lines_in, lines_in_zones, lines_from, goes_on, is_continued, added_lines, planned_lines}
use Rattle.action_planner.specs.Offences.{is_shared}
use Rattle.action_planner.proofs.LawfulLists.{EachPair, Has, all_append, all_both, all_each, all_weaker, all_filter, all_has, all_map, any_has, has_all, pair_append, pair_filter, pair_map, pair_weaker, pairs_from}
use Rattle.action_planner.proofs.LawfulPlaced.{IsFit}
use Rattle.action_planner.proofs.LawfulSteps.{going_from, row_at-parts}

-- the line is of this event and zone
abbrev pub of_key : Event → Place → Line → Bool
of_key e z line = same_event line.event e && same_zone line.zone z

pub of_key-parts : (e : Event) (z : Place) (line : Line) → of_key e z line ≡ true → (line.event ≡ e) × (line.zone ≡ z)
of_key-parts e z line h = let p = and_parts (same_event line.event e) _ h in (event_one line.event e p.0, zone_one line.zone z p.1)

pub key_of : (e : Event) (z : Place) (line : Line) → line.event ≡ e → line.zone ≡ z → of_key e z line ≡ true
key_of e z line event zone = and_from _ _ (ap (same_event line.event) (sym event) ∙ event_itself line.event) (ap (same_zone line.zone) (sym zone) ∙ zone_itself line.zone)

-- the lines are not of one event in one zone
abbrev pub AreApart : Line → Line → Type 0
AreApart l m = of_key l.event l.zone m ≡ false

pub apart_turned : (l m : Line) → AreApart l m → AreApart m l
apart_turned l m apart = false_from_ne_true _ (λ h.
    let p = of_key-parts m.event m.zone l h in
    both_ways _ apart (key_of l.event l.zone m (sym p.0) (sym p.1)))

pub apart_unspoken : (e : Event) (z : Place) (m : Line) → of_key e z m ≡ false → concerns e z m ≡ false
apart_unspoken e z m apart = false_from_ne_true _ (λ h.
    let p = concerns-parts e z m h in
    both_ways _ apart (key_of e z m p.1 p.2))

-- the line is of this event and zone
abbrev pub IsOn : Event → Place → Line → Type 0
IsOn e z line = (line.event ≡ e) × (line.zone ≡ z)

pub either_action : (f : Action → Bool) (b : Bool) (x y : Action) → f x ≡ false → f y ≡ false → f (cond b x y) ≡ false
either_action f true x y p q = p
either_action f false x y p q = q

-- what a test tells of the lines that have it holds of those that end or restate a row, where no such line has it
pub finish_never : (test : Action → Bool) (P : Line → Type 0) → test Upg ≡ false → test Can ≡ false → test Exp ≡ false → (rows : List Row) (t : ℕ) (all : List Placed) (o : Option Row) → AllByRecursion (λ (line : Line). test line.action ≡ true → P line) (finish_lines rows t all o)
finish_never test P upg can exp rows t all None = tt
finish_never test P upg can exp rows t all (Some row) =
    let never = either_action test (ends_after row.period.end t && is_overlaid rows t all row) Upg (cond (is_near_end row.period.end t) Exp Can) upg (either_action test (is_near_end row.period.end t) Exp Can exp can) in
    (λ h. absurd (both_ways _ never h), tt)

pub restate_never : (test : Action → Bool) (P : Line → Type 0) → test Con ≡ false → (t : ℕ) (o : Option Row) → AllByRecursion (λ (line : Line). test line.action ≡ true → P line) (restate_lines t o)
restate_never test P con t None = tt
restate_never test P con t (Some row) = (λ h. absurd (both_ways _ con h), tt)

opening_action-none : (f : Action → Bool) → f New ≡ false → f Exa ≡ false → f Exb ≡ false → (rows : List Row) (t : ℕ) (e : Event) (part : PutPart) (target : Target) → f (opening_action rows t e part target) ≡ false
opening_action-none f n a b rows t e part (Fresh h) = n
opening_action-none f n a b rows t e part (Join d) = either_action f (has_period rows e (period_of_put part t) t) Exa Exb a b

-- a put's line has one of five actions
pub put_action-none : (f : Action → Bool) → f New ≡ false → f Exa ≡ false → f Exb ≡ false → f Con ≡ false → f Ext ≡ false → (rows : List Row) (t : ℕ) (e : Event) (part : PutPart) (z : Place) (o : Option Row) → f (put_line_on rows t e part z o).action ≡ false
put_action-none f n a b c x rows t e part z None = opening_action-none f n a b rows t e part part.target
put_action-none f n a b c x rows t e part z (Some row) = either_action f (same_at t row.period (period_of_put_on part t row)) Con Ext c x

pub put-no_upgrade : (rows : List Row) (t : ℕ) (e : Event) (part : PutPart) (z : Place) → is_upgrade (line_of_put rows t e part z).action ≡ false
put-no_upgrade rows t e part z = put_action-none is_upgrade refl refl refl refl refl rows t e part z (joined_row rows e z part.target)

pub put-no_routine : (rows : List Row) (t : ℕ) (e : Event) (part : PutPart) (z : Place) → is_routine (line_of_put rows t e part z).action ≡ false
put-no_routine rows t e part z = put_action-none is_routine refl refl refl refl refl rows t e part z (joined_row rows e z part.target)

joined_zone : (rows : List Row) (e : Event) (z : Place) (target : Target) (row : Row) → joined_row rows e z target ≡ Some row → row.zone ≡ z
joined_zone rows e z (Fresh h) row g = cc
joined_zone rows e z (Join d) row g = (row_at-parts rows e z row (going_from (row_at rows e z) row g).0).1

put_on : (rows : List Row) (t : ℕ) (e : Event) (part : PutPart) (z : Place) (o : Option Row) → joined_row rows e z part.target ≡ o → IsOn e z (put_line_on rows t e part z o)
put_on rows t e part z None h = (refl, refl)
put_on rows t e part z (Some row) h = (refl, joined_zone rows e z part.target row h)

module _ (rows : List Row) (t : ℕ) (all : List Placed) where
  finish_on : (e : Event) (z : Place) (o : Option Row) → row_at rows e z ≡ o → AllByRecursion (IsOn e z) (finish_lines rows t all o)
  finish_on e z None h = tt
  finish_on e z (Some row) h = let p = row_at-parts rows e z row h in ((p.0, p.1), tt)

  restate_on : (e : Event) (z : Place) (o : Option Row) → row_at rows e z ≡ o → AllByRecursion (IsOn e z) (restate_lines t o)
  restate_on e z None h = tt
  restate_on e z (Some row) h = let p = row_at-parts rows e z row h in ((p.0, p.1), tt)

  -- an intent's lines in a zone are of its event there
  pub lines_on : (e : Event) (i : Intent) (z : Place) → AllByRecursion (IsOn e z) (lines_in rows t all e i z)
  lines_on e (Put part) z = (put_on rows t e part z (joined_row rows e z part.target) refl, tt)
  lines_on e (Finish part) z = finish_on e z (row_at rows e z) refl
  lines_on e (Restate part) z = restate_on e z (row_at rows e z) refl
  lines_on e (Routine part) z = ((refl, refl), tt)

  finish_alone : (R : Line → Line → Type 0) (o : Option Row) → EachPair R (finish_lines rows t all o)
  finish_alone R None = tt
  finish_alone R (Some row) = (tt, tt)

  restate_alone : (R : Line → Line → Type 0) (o : Option Row) → EachPair R (restate_lines t o)
  restate_alone R None = tt
  restate_alone R (Some row) = (tt, tt)

  -- there is one at most
  lines_alone : (R : Line → Line → Type 0) (e : Event) (i : Intent) (z : Place) → EachPair R (lines_in rows t all e i z)
  lines_alone R e (Put part) z = (tt, tt)
  lines_alone R e (Finish part) z = finish_alone R (row_at rows e z)
  lines_alone R e (Restate part) z = restate_alone R (row_at rows e z)
  lines_alone R e (Routine part) z = (tt, tt)

  -- what holds of the lines of each zone, or intent, holds of them all
  pub each_zone : (Q : Line → Type 0) (F : Place → Type 0) (e : Event) (i : Intent) → ((z : Place) → F z → AllByRecursion Q (lines_in rows t all e i z)) → (zones : List Place) → AllByRecursion F zones → AllByRecursion Q (lines_in_zones rows t all e i zones)
  each_zone Q F e i own [] h = tt
  each_zone Q F e i own (z ∷ zones) h = all_append Q (lines_in rows t all e i z) (lines_in_zones rows t all e i zones) (own z h.0) (each_zone Q F e i own zones h.1)

  pub each_intent : (Q : Line → Type 0) (F : Placed → Type 0) → ((p : Placed) → F p → AllByRecursion Q (lines_in_zones rows t all p.event p.intent (zones_of p.intent))) → (ps : List Placed) → AllByRecursion F ps → AllByRecursion Q (lines_from rows t all ps)
  each_intent Q F own [] h = tt
  each_intent Q F own (p ∷ ps) h = all_append Q (lines_in_zones rows t all p.event p.intent (zones_of p.intent)) (lines_from rows t all ps) (own p h.0) (each_intent Q F own ps h.1)

  -- within an intent

  apart_zone : (l m : Line) (z : Place) → l.zone ≡ z → same_zone z m.zone ≡ false → AreApart l m
  apart_zone l m z e h = false_from_ne_true _ (λ s.
      let p = of_key-parts l.event l.zone m s in
      let same : m.zone ≡ z = p.1 ∙ e in
      let g : same_zone z z ≡ false = ap (same_zone z) (sym same) ∙ h in
      both_ways _ g (zone_itself z))

  zones_apart : (e : Event) (i : Intent) (zones : List Place) → IsDistinct same_zone zones → EachPair AreApart (lines_in_zones rows t all e i zones)
  unfolding IsDistinct
  zones_apart e i [] once = tt
  zones_apart e i (z ∷ zones) once =
      let others : AllByRecursion (λ m. same_zone z m.zone ≡ false) (lines_in_zones rows t all e i zones) =
      each_zone (λ m. same_zone z m.zone ≡ false) (λ y. same_zone z y ≡ false) e i (λ y h. all_weaker (IsOn e y) (λ m. same_zone z m.zone ≡ false) (λ m on. ap (same_zone z) on.1 ∙ h) (lines_in rows t all e i y) (lines_on e i y)) zones once.0 in
      let across : AllByRecursion (λ l. AllByRecursion (AreApart l) (lines_in_zones rows t all e i zones)) (lines_in rows t all e i z) =
      all_weaker (IsOn e z) (λ l. AllByRecursion (AreApart l) (lines_in_zones rows t all e i zones)) (λ l on. all_weaker (λ m. same_zone z m.zone ≡ false) (AreApart l) (λ m h. apart_zone l m z on.1 h) (lines_in_zones rows t all e i zones) others) (lines_in rows t all e i z) (lines_on e i z) in
      pair_append AreApart (lines_in rows t all e i z) (lines_in_zones rows t all e i zones) (lines_alone AreApart e i z) (zones_apart e i zones once.1) across

  -- the intent is on the event and zone of each of its lines
  pub touched_zones : (p : Placed) → AllByRecursion (λ z. touches z p ≡ true) (zones_of p.intent)
  touched_zones p = all_weaker (Has (zones_of p.intent)) (λ z. touches z p ≡ true) (λ z h. any_has (λ y. same_zone y z) (zones_of p.intent) z h (zone_itself z)) (zones_of p.intent) (has_all (zones_of p.intent))

  spoken_on : (p : Placed) (z : Place) (l : Line) → touches z p ≡ true → IsOn p.event z l → speaks l.event l.zone p ≡ true
  spoken_on p z l touched on = and_from _ _ (ap (same_event p.event) on.0 ∙ event_itself p.event) (ap (λ (y : Place). touches y p) on.1 ∙ touched)

  pub lines_spoken : (p : Placed) → AllByRecursion (λ l. speaks l.event l.zone p ≡ true) (lines_in_zones rows t all p.event p.intent (zones_of p.intent))
  lines_spoken p = each_zone (λ l. speaks l.event l.zone p ≡ true) (λ z. touches z p ≡ true) p.event p.intent
      (λ z h. all_weaker (IsOn p.event z) (λ l. speaks l.event l.zone p ≡ true) (λ l on. spoken_on p z l h on) (lines_in rows t all p.event p.intent z) (lines_on p.event p.intent z))
      (zones_of p.intent) (touched_zones p)

  -- between intents

  apart_intent : (l m : Line) (e : Event) (z : Place) (q : Placed) → IsOn e z l → speaks e z q ≡ false → speaks m.event m.zone q ≡ true → AreApart l m
  apart_intent l m e z q on h own = false_from_ne_true _ (λ s.
      let p = of_key-parts l.event l.zone m s in
      let same : speaks m.event m.zone q ≡ speaks e z q = ap (λ (x : Event). speaks x m.zone q) (p.0 ∙ on.0) ∙ ap (λ (y : Place). speaks e y q) (p.1 ∙ on.1) in
      both_ways _ h (sym same ∙ own))

  other_intents : (p : Placed) (z : Place) (qs : List Placed) → list_any (λ q. not (q.place == p.place) && speaks p.event z q) qs ≡ false → AllByRecursion (λ q. (q.place == p.place) ≡ false) qs → AllByRecursion (λ q. speaks p.event z q ≡ false) qs
  other_intents p z [] h places = tt
  other_intents p z (q ∷ qs) h places =
      let parts = or_parts (not (q.place == p.place) && speaks p.event z q) _ h in
      let first : speaks p.event z q ≡ false = rw places.0 at parts.0 in
      (first, other_intents p z qs parts.1 places.1)

  -- these are among all
  abbrev Among : List Placed → Type 0
  Among qs = (f : Placed → Bool) → list_any f all ≡ false → list_any f qs ≡ false

  intents_apart : (qs : List Placed) → Among qs → AllByRecursion (IsFit rows t all) qs → EachPair (λ p q. (q.place == p.place) ≡ false) qs → EachPair AreApart (lines_from rows t all qs)
  intents_apart [] among fit places = tt
  intents_apart (p ∷ qs) among fit places =
      let rest : Among qs = λ f h. (or_parts (f p) (list_any f qs) (among f h)).1 in
      let F : Place → Type 0 = λ z. AllByRecursion (λ q. speaks p.event z q ≡ false) qs in
      let own : IsFit rows t all p = fit.0 in
      let disjoint : AllByRecursion F (zones_of p.intent) = all_weaker (λ z. is_shared all p z ≡ false) F (λ z h. other_intents p z qs (rest (λ q. not (q.place == p.place) && speaks p.event z q) h) places.0) (zones_of p.intent) own.own in
      let Q : Line → Type 0 = λ l. AllByRecursion (AreApart l) (lines_from rows t all qs) in
      let across : AllByRecursion Q (lines_in_zones rows t all p.event p.intent (zones_of p.intent)) =
      each_zone Q F p.event p.intent (λ z h. all_weaker (IsOn p.event z) Q (λ l on.
      each_intent (AreApart l) (λ q. speaks p.event z q ≡ false) (λ q g. all_weaker (λ m. speaks m.event m.zone q ≡ true) (AreApart l) (λ m s. apart_intent l m p.event z q on g s) (lines_in_zones rows t all q.event q.intent (zones_of q.intent)) (lines_spoken q)) qs h) (lines_in rows t all p.event p.intent z) (lines_on p.event p.intent z)) (zones_of p.intent) disjoint in
      pair_append AreApart (lines_in_zones rows t all p.event p.intent (zones_of p.intent)) (lines_from rows t all qs)
      (zones_apart p.event p.intent (zones_of p.intent) own.once) (intents_apart qs rest fit.1 places.1) across

  -- rows that go on beside

  sorted_pairs : (own : List Row) → IsStrictlySortedBy by_key own → EachPair (λ r s. by_key r s ≡ Less) own
  unfolding IsStrictlySortedBy
  sorted_pairs [] up = tt
  sorted_pairs (r ∷ own) up = (up.0, sorted_pairs own up.1)

  -- rows in order are each found at their event and zone
  pub rows_own : (own : List Row) → IsStrictlySortedBy by_key own → AllByRecursion (λ r. row_at own r.event r.zone ≡ Some r) own
  unfolding IsStrictlySortedBy
  rows_own [] up = tt
  rows_own (r ∷ own) up =
      let here : row_at (r ∷ own) r.event r.zone ≡ Some r = rw (event_itself r.event, zone_itself r.zone) refl in
      let behind : (s : Row) → (by_key r s ≡ Less) × (row_at own s.event s.zone ≡ Some s) → row_at (r ∷ own) s.event s.zone ≡ Some s = λ s h.
      let apart : at_key s.event s.zone r ≡ false = false_from_ne_true _ (λ g.
      let k = at_key-parts s.event s.zone r g in
      let tied : by_key r s ≡ Equal = key_ties r s k.1 k.0 in
      let less : by_key r s ≡ Less = h.0 in cc) in
      ap (λ (b : Bool). cond b (Some r) (row_at own s.event s.zone)) apart ∙ h.1 in
      (here, all_weaker (λ s. (by_key r s ≡ Less) × (row_at own s.event s.zone ≡ Some s)) (λ s. row_at (r ∷ own) s.event s.zone ≡ Some s) behind own (all_both (λ s. by_key r s ≡ Less) (λ s. row_at own s.event s.zone ≡ Some s) own up.0 (rows_own own up.1)))

  apart_rows : (r s : Row) → by_key r s ≡ Less → AreApart (line_on Con t r) (line_on Con t s)
  apart_rows r s less = false_from_ne_true _ (λ h.
      let p = of_key-parts r.event r.zone (line_on Con t s) h in
      let tied : by_key r s ≡ Equal = key_ties r s (sym p.1) (sym p.0) in cc)

  added_apart : (c : Category) → IsStrictlySortedBy by_key rows → EachPair AreApart (added_lines c rows t all)
  added_apart c up = pair_map AreApart (line_on Con t) (filter (is_continued c t all) rows)
      (pair_weaker (λ r s. by_key r s ≡ Less) (λ r s. AreApart (line_on Con t r) (line_on Con t s)) apart_rows (filter (is_continued c t all) rows)
      (pair_filter (λ r s. by_key r s ≡ Less) (is_continued c t all) rows (sorted_pairs rows up)))

  -- of no added line an intent speaks
  added_unspoken : (c : Category) → AllByRecursion (λ m. list_any (speaks m.event m.zone) all ≡ false) (added_lines c rows t all)
  added_unspoken c =
      all_map (λ m. list_any (speaks m.event m.zone) all ≡ false) (line_on Con t) (filter (is_continued c t all) rows)
      (all_weaker (λ r. Unit {0} × (is_continued c t all r ≡ true)) (λ r. list_any (speaks r.event r.zone) all ≡ false) (λ r h. not-true _ (and_parts _ (not (list_any (speaks r.event r.zone) all)) (and_parts (is_live t r) (goes_on c all r) h.1).1).1) (filter (is_continued c t all) rows)
      (all_filter (λ r. Unit {0}) (is_continued c t all) rows (all_each (λ r. Unit {0}) (λ r. tt) rows)))

  -- of each line of an intent one speaks
  from_spoken : (qs : List Placed) → AllByRecursion (λ l. list_any (speaks l.event l.zone) qs ≡ true) (lines_from rows t all qs)
  from_spoken [] = tt
  from_spoken (p ∷ qs) = all_append (λ l. list_any (speaks l.event l.zone) (p ∷ qs) ≡ true) (lines_in_zones rows t all p.event p.intent (zones_of p.intent)) (lines_from rows t all qs)
      (all_weaker (λ l. speaks l.event l.zone p ≡ true) (λ l. list_any (speaks l.event l.zone) (p ∷ qs) ≡ true) (λ l h. or_left (speaks l.event l.zone p) (list_any (speaks l.event l.zone) qs) h) (lines_in_zones rows t all p.event p.intent (zones_of p.intent)) (lines_spoken p))
      (all_weaker (λ l. list_any (speaks l.event l.zone) qs ≡ true) (λ l. list_any (speaks l.event l.zone) (p ∷ qs) ≡ true) (λ l h. or_right (speaks l.event l.zone p) (list_any (speaks l.event l.zone) qs) h) (lines_from rows t all qs) (from_spoken qs))

  apart_added : (l m : Line) → list_any (speaks l.event l.zone) all ≡ true → list_any (speaks m.event m.zone) all ≡ false → AreApart l m
  apart_added l m h g = false_from_ne_true _ (λ s.
      let p = of_key-parts l.event l.zone m s in
      let same : list_any (speaks m.event m.zone) all ≡ list_any (speaks l.event l.zone) all = ap (λ (x : Event). list_any (speaks x m.zone) all) p.0 ∙ ap (λ (y : Place). list_any (speaks l.event y) all) p.1 in
      both_ways _ g (same ∙ h))

  pub planned_apart : (c : Category) → IsStrictlySortedBy by_key rows → AllByRecursion (IsFit rows t all) all → EachPair (λ p q. (q.place == p.place) ≡ false) all → EachPair AreApart (planned_lines c rows t all)
  planned_apart c up fit places = pair_append AreApart (lines_from rows t all all) (added_lines c rows t all)
      (intents_apart all (λ f h. h) fit places) (added_apart c up)
      (all_weaker (λ l. list_any (speaks l.event l.zone) all ≡ true) (λ l. AllByRecursion (AreApart l) (added_lines c rows t all))
      (λ l h. all_weaker (λ m. list_any (speaks m.event m.zone) all ≡ false) (AreApart l) (λ m g. apart_added l m h g) (added_lines c rows t all) (added_unspoken c)) (lines_from rows t all all) (from_spoken all))

-- lines that are apart, either way

-- a line's event and zone are no other line's
pub one_line : (lines : List Line) (l : Line) → EachPair AreApart lines → Has lines l → AllByRecursion (λ m. concerns l.event l.zone m ≡ true → m ≡ l) lines
one_line [] l apart h = tt
one_line (x ∷ lines) l apart (inl same) = (
  λ s. same,
  all_weaker (AreApart x) (λ m. concerns l.event l.zone m ≡ true → m ≡ l) (λ m a s.
      let other : concerns l.event l.zone m ≡ false = ap (λ (y : Line). concerns y.event y.zone m) (sym same) ∙ apart_unspoken x.event x.zone m a in
      absurd (both_ways _ other s)) lines apart.0,
)
one_line (x ∷ lines) l apart (inr h) =
    let apart_here : AreApart x l = all_has (AreApart x) lines l apart.0 h in (
      λ s. absurd (both_ways _ (apart_unspoken l.event l.zone x (apart_turned x l apart_here)) s),
      one_line lines l apart.1 h,
    )

pub spoken_itself : (l : Line) → is_routine l.action ≡ false → concerns l.event l.zone l ≡ true
spoken_itself l plain = and_from _ _ (and_from _ _ (not_from_false _ plain) (event_itself l.event)) (zone_itself l.zone)

-- in the words of clauses
pub distinct_from : (lines : List Line) → EachPair AreApart lines → AllPairs (λ (l m : Line). (l.event ≡ m.event) × (l.zone ≡ m.zone) → ⊥) lines
distinct_from lines apart =
    pairs_from (λ (l m : Line). (l.event ≡ m.event) × (l.zone ≡ m.zone) → ⊥) lines
    (pair_weaker AreApart (λ l m. (l.event ≡ m.event) × (l.zone ≡ m.zone) → ⊥) (λ l m a same. both_ways _ a (key_of l.event l.zone m (sym same.0) (sym same.1))) lines apart)

pub turned_pairs : (lines : List Line) → EachPair AreApart lines → EachPair (λ l m. concerns m.event m.zone l ≡ false) lines
turned_pairs lines apart = pair_weaker AreApart (λ l m. concerns m.event m.zone l ≡ false) (λ l m a. apart_unspoken m.event m.zone l (apart_turned l m a)) lines apart

-- none of the earlier lines speaks as this one does
abbrev pub IsFirst : List Line → Line → Type 0
IsFirst earlier line = list_any (concerns line.event line.zone) earlier ≡ false

abbrev pub AreFirst : List Line → List Line → Type 0
AreFirst earlier lines = AllByRecursion (IsFirst earlier) lines × EachPair (λ l m. concerns m.event m.zone l ≡ false) lines

firsts : (earlier : List Line) (line : Line) (lines : List Line) → AllByRecursion (IsFirst earlier) lines → AllByRecursion (λ m. concerns m.event m.zone line ≡ false) lines → AllByRecursion (IsFirst (earlier ++ line ∷ [])) lines
firsts earlier line [] h g = tt
firsts earlier line (m ∷ lines) h g = (list_any-append (concerns m.event m.zone) earlier (line ∷ []) ∙ rw (h.0, g.0) refl, firsts earlier line lines h.1 g.1)

pub first_more : (earlier : List Line) (line : Line) (lines : List Line) → AreFirst earlier (line ∷ lines) → AreFirst (earlier ++ line ∷ []) lines
first_more earlier line lines first = (firsts earlier line lines first.0.1 first.1.0, first.1.1)

pub all_first : (lines : List Line) → AllByRecursion (IsFirst []) lines
all_first [] = tt
all_first (line ∷ lines) = (refl, all_first lines)
