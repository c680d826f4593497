-- Each line of a draft of which no rule is broken has no breach, where each UPG line has its higher row.
use Rattle.std.proofs.Common.{◌≡◌, inl, inr, not, ℕ, List, [], ◌∷◌, Bool, true, false, Option, Some, None, refl, cond, filter, find}
use Rattle.std.proofs.lemmas.Bool.{and_parts, not-false, not_from_false}
use Rattle.std.specs.List.{AllByRecursion}
use Rattle.std.specs.List.Sorted.{IsStrictlySortedBy}
use Rattle.hazard_types.specs.Places.{Place}
use Rattle.hazard_types.specs.declared.codes.Action.TheVariants.{Con}
use Rattle.hazard_types.specs.declared.codes.Category.{Category}
use Rattle.hazard_types.specs.declared.hazard.Event.{Event}
use Rattle.hazard_types.specs.declared.line.Row.{Row}
use Rattle.office_types.specs.declared.refusal.Refusal.{Refusal}
use Rattle.office_types.specs.declared.request.Intent.{Intent}
use Rattle.office_types.specs.declared.request.Intent.TheVariants.{Put, Finish, Restate, Routine}
use Rattle.event_life.specs.Periods.{ends_after, is_live, keeps_open}
use Rattle.event_life.specs.Products.{by_key, has_rows, is_number_held, is_open, row_at}
use Rattle.event_life.proofs.Puts.{at_key}
use Rattle.action_planner.specs.Placed.{Placed, zones_of, is_opening}
use Rattle.action_planner.specs.Lines.{line_on, finish_lines, restate_lines, lines_in, lines_in_zones, lines_from, goes_on, is_continued, added_lines, planned_lines}
use Rattle.action_planner.specs.Offences.{is_bad_period, bad_period_of, has_row_by, is_gone, needs_event, was_left}
use Rattle.action_planner.proofs.LawfulLists.{Has, all_append, all_both, all_filter, all_has, all_map, all_weaker}
use Rattle.action_planner.proofs.LawfulPlaced.{IsFit}
use Rattle.action_planner.proofs.LawfulSteps.{IsSound, row_at-own, put_sound, con_sound, finish_sound, routine_sound}
use Rattle.action_planner.proofs.LawfulKeys.{each_zone, each_intent, rows_own}

found_has_step : {X : Type 0} (f : X → Bool) (b : Bool) (x y : X) (xs : List X) → cond b (Some x) (find f xs) ≡ Some y → (find f xs ≡ Some y → Has xs y) → Has (x ∷ xs) y
found_has_step f true x y xs h more = let same : x ≡ y = cc in inl same
found_has_step f false x y xs h more = inr (more h)

pub found_has : {X : Type 0} (f : X → Bool) (xs : List X) (y : X) → find f xs ≡ Some y → Has xs y
found_has f [] y h = cc
found_has f (x ∷ xs) y h = found_has_step f (f x) x y xs h (found_has f xs y)

pub not_bad : (bad : Bool) (r : Refusal) → cond bad (Some r) None ≡ None → bad ≡ false
not_bad true r h = cc
not_bad false r h = refl

abbrev LastsLong : Row → Type 0
LastsLong row = ends_after row.period.end row.period.begin ≡ true

module _ (rows : List Row) (t : ℕ) (all : List Placed) (long : AllByRecursion LastsLong rows) where
  finish_in : (e : Event) (z : Place) (o : Option Row) → row_at rows e z ≡ o → not (has_row_by (keeps_open t) o) ≡ false → AllByRecursion (IsSound rows t) (finish_lines rows t all o)
  finish_in e z None h there = tt
  finish_in e z (Some row) h there = (finish_sound rows t all row (row_at-own rows e z row h) (not-false _ there), tt)

  restate_in : (e : Event) (z : Place) (o : Option Row) → row_at rows e z ≡ o → not (has_row_by (is_live t) o) ≡ false → AllByRecursion (IsSound rows t) (restate_lines t o)
  restate_in e z None h there = tt
  restate_in e z (Some row) h there =
      let lasts : LastsLong row = all_has LastsLong rows row long (found_has (at_key e z) rows row h) in
      (con_sound rows t row (row_at-own rows e z row h) (not-false _ there) lasts, tt)

  sound_in : (place : ℕ) (e : Event) (i : Intent) (z : Place) → (is_opening i ≡ true → has_rows rows e ≡ false) → (is_opening i ≡ true → is_number_held rows t e ≡ false) → (needs_event i ≡ true → is_open rows t e ≡ true) →
      bad_period_of t place i ≡ None → is_gone rows t e i z ≡ false → was_left rows t e i z ≡ false → AllByRecursion (IsSound rows t) (lines_in rows t all e i z)
  sound_in place e (Put part) z new free going period there live = (put_sound rows t e part z (λ o. (new o, free o)) (λ o. going (not_from_false _ o)) (not_bad (is_bad_period part t) _ period) live, tt)
  sound_in place e (Finish part) z new free going period there live = finish_in e z (row_at rows e z) refl there
  sound_in place e (Restate part) z new free going period there live = restate_in e z (row_at rows e z) refl there
  sound_in place e (Routine part) z new free going period there live = (routine_sound rows t e z, tt)

  intent_sound : (p : Placed) → IsFit rows t all p → AllByRecursion (IsSound rows t) (lines_in_zones rows t all p.event p.intent (zones_of p.intent))
  intent_sound p fit =
      let F : Place → Type 0 = λ z. (is_gone rows t p.event p.intent z ≡ false) × (was_left rows t p.event p.intent z ≡ false) in
      each_zone rows t all (IsSound rows t) F p.event p.intent (λ z h. sound_in p.place p.event p.intent z fit.new fit.free fit.known fit.period h.0 h.1) (zones_of p.intent)
      (all_both (λ z. is_gone rows t p.event p.intent z ≡ false) (λ z. was_left rows t p.event p.intent z ≡ false) (zones_of p.intent) fit.there fit.live)

  goes_on_live : (c : Category) (r : Row) → is_continued c t all r ≡ true → is_live t r ≡ true
  goes_on_live c r h = (and_parts (is_live t r) (goes_on c all r) h).0

  added_sound : (c : Category) → IsStrictlySortedBy by_key rows → AllByRecursion (IsSound rows t) (added_lines c rows t all)
  added_sound c up =
      let P : Row → Type 0 = λ r. LastsLong r × (row_at rows r.event r.zone ≡ Some r) in
      let known : AllByRecursion P rows = all_both LastsLong (λ r. row_at rows r.event r.zone ≡ Some r) rows long (rows_own rows t all rows up) in
      all_map (IsSound rows t) (line_on Con t) (filter (is_continued c t all) rows)
      (all_weaker (λ r. P r × (is_continued c t all r ≡ true)) (λ r. IsSound rows t (line_on Con t r)) (λ r h. con_sound rows t r h.0.1 (goes_on_live c r h.1) h.0.0) (filter (is_continued c t all) rows)
      (all_filter P (is_continued c t all) rows known))

  pub planned_sound : (c : Category) → IsStrictlySortedBy by_key rows → AllByRecursion (IsFit rows t all) all → AllByRecursion (IsSound rows t) (planned_lines c rows t all)
  planned_sound c up fit = all_append (IsSound rows t) (lines_from rows t all all) (added_lines c rows t all)
      (each_intent rows t all (IsSound rows t) (IsFit rows t all) intent_sound all fit) (added_sound c up)
