-- The lines of a draft of which no rule is broken are those of the cases.
use Rattle.std.proofs.Common.{◌≡◌, ◌⊎◌, inl, inr, List, [], ◌∷◌, true, false, Some, None, refl, sym, subst, ◌↔◌, ℕ, codes, filter}
use Rattle.std.proofs.lemmas.Bool.Decides.{Decides-and, Decides-like, Decides-not}
use Rattle.std.specs.Bool.{Decides}
use Rattle.std.specs.List.{All, AllByRecursion, Any, Contains}
use Rattle.std.specs.List.Sorted.{IsStrictlySortedBy}
use Rattle.hazard_types.specs.Names.{is_fl_phenomenon}
use Rattle.hazard_types.specs.Places.{Place}
use Rattle.hazard_types.specs.declared.codes.Action.TheVariants.{Con}
use Rattle.hazard_types.specs.declared.codes.Category.{Category}
use Rattle.hazard_types.specs.declared.hazard.Event.{Event}
use Rattle.hazard_types.specs.declared.line.Line.{Line}
use Rattle.hazard_types.specs.declared.line.Row.{Row}
use Rattle.office_types.specs.declared.request.Intent.{Intent}
use Rattle.event_life.specs.Products.{by_key, row_at}
use Rattle.event_life.proofs.Puts.{at_key}
use Rattle.event_numbers.specs.declared.Count.{Count}
use Rattle.action_planner.specs.Placed.{Placed, placed, zones_of, touches, speaks}
use Rattle.action_planner.specs.Lines.{added_lines, is_continued, line_on, lines_from, lines_in, lines_in_zones, planned_lines}
use Rattle.action_planner.specs.Conditions.{CanPlan, IsFollowedBy}
use Rattle.action_planner.specs.Offences.{broken, is_gone, was_left}
use Rattle.action_planner.specs.Cases.{IsContinued, IsLive, IsPlanned, Says, SpeaksOf}
use Rattle.action_planner.proofs.LawfulLists.{Has, all_both, all_has, all_weaker, any_from, contains_from, has_all, has_filter, has_left, has_map, has_right, has_split, kept, map_has}
use Rattle.action_planner.proofs.LawfulPlaced.{IsFit, fits}
use Rattle.action_planner.proofs.LawfulSteps.{row_at-parts}
use Rattle.action_planner.proofs.LawfulKeys.{IsOn, each_intent, each_zone, lines_on, rows_own}
use Rattle.action_planner.proofs.LawfulLines.{found_has}
use Rattle.action_planner.proofs.CasesWords.{any_Decides, any_in, flood_Decides, follows_Decides, has_from, live_Decides, none_Decides, speaks_Decides, touches_Decides}
use Rattle.action_planner.proofs.CasesLines.{restate_is, restates_by, said_in, says_in}

module _ (rows : List Row) (t : ℕ) (all : List Placed) (fit : AllByRecursion (IsFit rows t all) all) (c : Category) where
  -- lines of intents

  abbrev IsSaid : Line → Placed → Type 0
  IsSaid line p = SpeaksOf p line.event line.zone × Says rows t all p.intent line

  abbrev MayStand : Event → Intent → Place → Type 0
  MayStand e i z = (is_gone rows t e i z ≡ false) × (was_left rows t e i z ≡ false)

  -- the intent is on a line in its zone, and says it
  said_by : (p : Placed) (z : Place) → Has (zones_of p.intent) z → (line : Line) → IsOn p.event z line → Says rows t all p.intent line → IsSaid line p
  said_by p z h line on s = ((sym on.0, subst (Contains (zones_of p.intent)) (sym on.1) (contains_from (zones_of p.intent) z h)), s)

  said_zone : (p : Placed) (z : Place) → Has (zones_of p.intent) z → MayStand p.event p.intent z → AllByRecursion (λ line. IsSaid line p) (lines_in rows t all p.event p.intent z)
  said_zone p z h may =
      all_weaker (λ line. IsOn p.event z line × Says rows t all p.intent line) (λ line. IsSaid line p) (λ line s. said_by p z h line s.0 s.1) (lines_in rows t all p.event p.intent z)
      (all_both (IsOn p.event z) (Says rows t all p.intent) (lines_in rows t all p.event p.intent z) (lines_on rows t all p.event p.intent z) (says_in rows t all fit p.event p.intent z may.0 may.1))

  said_intent : (p : Placed) → IsFit rows t all p → AllByRecursion (λ line. IsSaid line p) (lines_in_zones rows t all p.event p.intent (zones_of p.intent))
  said_intent p own =
      let zones = zones_of p.intent in
      each_zone rows t all (λ line. IsSaid line p) (λ z. Has zones z × MayStand p.event p.intent z) p.event p.intent (λ z h. said_zone p z h.0 h.1) zones
      (all_both (Has zones) (MayStand p.event p.intent) zones (has_all zones)
      (all_both (λ z. is_gone rows t p.event p.intent z ≡ false) (λ z. was_left rows t p.event p.intent z ≡ false) zones own.there own.live))

  all_said : AllByRecursion (λ line. Any (IsSaid line) all) (lines_from rows t all all)
  all_said =
      each_intent rows t all (λ line. Any (IsSaid line) all) (λ p. Has all p × IsFit rows t all p)
      (λ p h. all_weaker (λ line. IsSaid line p) (λ line. Any (IsSaid line) all) (λ line s. any_from (IsSaid line) all p h.0 s) (lines_in_zones rows t all p.event p.intent (zones_of p.intent)) (said_intent p h.1)) all
      (all_both (Has all) (IsFit rows t all) all (has_all all) fit)

  zone_has : (e : Event) (i : Intent) (zones : List Place) (z : Place) (line : Line) → Has zones z → Has (lines_in rows t all e i z) line → Has (lines_in_zones rows t all e i zones) line
  zone_has e i [] z line h g = absurd h
  zone_has e i (y ∷ zones) z line (inl same) g = has_left (lines_in rows t all e i y) (lines_in_zones rows t all e i zones) line (subst (λ (x : Place). Has (lines_in rows t all e i x) line) (sym same) g)
  zone_has e i (y ∷ zones) z line (inr h) g = has_right (lines_in rows t all e i y) (lines_in_zones rows t all e i zones) line (zone_has e i zones z line h g)

  intent_has : (qs : List Placed) (p : Placed) (line : Line) → Has qs p → Has (lines_in_zones rows t all p.event p.intent (zones_of p.intent)) line → Has (lines_from rows t all qs) line
  intent_has [] p line h g = absurd h
  intent_has (q ∷ qs) p line (inl same) g = has_left (lines_in_zones rows t all q.event q.intent (zones_of q.intent)) (lines_from rows t all qs) line (subst (λ (x : Placed). Has (lines_in_zones rows t all x.event x.intent (zones_of x.intent)) line) (sym same) g)
  intent_has (q ∷ qs) p line (inr h) g = has_right (lines_in_zones rows t all q.event q.intent (zones_of q.intent)) (lines_from rows t all qs) line (intent_has qs p line h g)

  said_has : (line : Line) → Any (IsSaid line) all → Has (lines_from rows t all all) line
  said_has line w =
      let m = any_in (IsSaid line) all w in
      let s : IsSaid line m.0 = m.2 in
      intent_has all m.0 line m.1 (zone_has m.0.event m.0.intent (zones_of m.0.intent) line.zone line (has_from (zones_of m.0.intent) line.zone s.0.1) (said_in rows t all fit m.0.event m.0.intent line.zone line (sym s.0.0) refl s.1))

  -- rows that go on beside

  -- what is asked of the event and the zone
  abbrev Beside : Event → Place → Type 0
  Beside e z = IsFollowedBy c e.hazard × (¬ (e.hazard.phen ≡ codes "FL")) × Any (λ (p : Placed). Contains (zones_of p.intent) z) all × All (λ (p : Placed). ¬ SpeaksOf p e z) all

  beside_Decides : (row : Row) → Decides (is_continued c t all row) (IsLive t row × Beside row.event row.zone)
  beside_Decides row =
      Decides-like _ (λ h. (h.0, (h.1.0.0.0, h.1.0.0.1, h.1.0.1, h.1.1))) (λ h. (h.0, (((h.1.0, h.1.1), h.1.2), h.1.3)))
      (Decides-and _ _ (live_Decides t row)
      (Decides-and _ _ (Decides-and _ _ (Decides-and _ _
      (follows_Decides c row.event.hazard)
      (Decides-not (is_fl_phenomenon row.event.hazard) (flood_Decides row.event.hazard)))
      (any_Decides (touches row.zone) (λ (p : Placed). Contains (zones_of p.intent) row.zone) (touches_Decides row.zone) all))
      (none_Decides (speaks row.event row.zone) (λ (p : Placed). SpeaksOf p row.event row.zone) (speaks_Decides row.event row.zone) all)))

  beside_from : (row : Row) → row_at rows row.event row.zone ≡ Some row → is_continued c t all row ≡ true → IsContinued c rows t all (line_on Con t row)
  beside_from row h test =
      let b = (beside_Decides row).0 test in
      record { unspoken = b.1.3; touched = b.1.2; category = b.1.0; no_flood = b.1.1; restated = restates_by rows t row h b.0 }

  added_from : IsStrictlySortedBy by_key rows → (line : Line) → Has (added_lines c rows t all) line → IsContinued c rows t all line
  added_from up line h =
      let m = has_map (line_on Con t) (filter (is_continued c t all) rows) line h in
      let k = has_filter (is_continued c t all) rows m.0 m.1 in
      let own : row_at rows m.0.event m.0.zone ≡ Some m.0 = all_has (λ (r : Row). row_at rows r.event r.zone ≡ Some r) rows m.0 (rows_own rows t all rows up) k.0 in
      subst (IsContinued c rows t all) m.2 (beside_from m.0 own k.1)

  added_to : (line : Line) → IsContinued c rows t all line → Has (added_lines c rows t all) line
  added_to line g =
      let row = g.restated.row in
      let p = row_at-parts rows line.event line.zone row g.restated.there in
      let said : Beside line.event line.zone = (g.category, g.no_flood, g.touched, g.unspoken) in
      let asked : Beside row.event row.zone = subst (λ (e : Event). Beside e row.zone) (sym p.0) (subst (Beside line.event) (sym p.1) said) in
      let stands : Has (filter (is_continued c t all) rows) row = kept (is_continued c t all) rows row (found_has (at_key line.event line.zone) rows row g.restated.there) ((beside_Decides row).1 (g.restated.live, asked)) in
      subst (Has (added_lines c rows t all)) (restate_is rows t line g.restated) (map_has (line_on Con t) (filter (is_continued c t all) rows) row stands)

  -- all lines

  planned_from : IsStrictlySortedBy by_key rows → (line : Line) → Has (lines_from rows t all all) line ⊎ Has (added_lines c rows t all) line → IsPlanned c rows t all line
  planned_from up line (inl h) = inl (all_has (λ (l : Line). Any (IsSaid l) all) (lines_from rows t all all) line all_said h)
  planned_from up line (inr h) = inr (added_from up line h)

  planned_to : (line : Line) → IsPlanned c rows t all line → Has (planned_lines c rows t all) line
  planned_to line (inl w) = has_left (lines_from rows t all all) (added_lines c rows t all) line (said_has line w)
  planned_to line (inr g) = has_right (lines_from rows t all all) (added_lines c rows t all) line (added_to line g)

pub planned_exactly : (c : Category) (rows : List Row) (counts : List Count) (intents : List Intent) (t : ℕ) →
    CanPlan rows counts c intents t → IsStrictlySortedBy by_key rows → broken c rows t (placed counts t intents) ≡ None →
    (line : Line) → Contains (planned_lines c rows t (placed counts t intents)) line ↔ IsPlanned c rows t (placed counts t intents) line
planned_exactly c rows counts intents t can up unbroken line =
    let all = placed counts t intents in
    let fit = fits c rows counts intents t can unbroken in
    let lines = planned_lines c rows t all in (
      λ h. planned_from rows t all fit c up line (has_split (lines_from rows t all all) (added_lines c rows t all) line (has_from lines line h)),
      λ s. contains_from lines line (planned_to rows t all fit c line s),
    )
