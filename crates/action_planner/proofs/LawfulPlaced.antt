-- What the rules tell of each intent of a draft at its place.
use Rattle.std.proofs.Common.{◌≡◌, ◌==◌, ◌&&◌, not, ℕ, ◌<◌, List, [], ◌∷◌, ◌++◌, Bool, true, false, Option, Some, None, refl, ◌∙◌, cond, length, arith, option_map, nat_le, find}
use Rattle.std.proofs.lemmas.Bool.{and_right, lt-leb, ne_eqb}
use Rattle.std.proofs.lemmas.List.{length_push}
use Rattle.std.proofs.lemmas.List.Elements.{recursion_from_All}
use Rattle.std.specs.List.{AllByRecursion, IsDistinct}
use Rattle.std.specs.Option.{option_or}
use Rattle.hazard_types.specs.Days.{year_of}
use Rattle.hazard_types.specs.Places.{Place}
use Rattle.hazard_types.specs.Same.{same_zone}
use Rattle.hazard_types.specs.declared.codes.Category.{Category}
use Rattle.hazard_types.specs.declared.hazard.Event.{Event}
use Rattle.hazard_types.specs.declared.line.Row.{Row}
use Rattle.office_types.specs.declared.refusal.Refusal.{Refusal}
use Rattle.office_types.specs.declared.request.Intent.{Intent}
use Rattle.office_types.specs.declared.request.Intent.TheVariants.{Put, Finish, Restate, Routine}
use Rattle.office_types.specs.declared.request.Target.{Target}
use Rattle.office_types.specs.declared.request.Target.TheVariants.{Fresh, Join}
use Rattle.event_life.specs.Products.{has_rows, is_number_held, is_open}
use Rattle.event_numbers.specs.declared.Count.{Count}
use Rattle.event_numbers.specs.Counts.{count_of}
use Rattle.action_planner.specs.Placed.{Placed, placed, placed_from, event_of_intent, event_of_target, new_event, is_opening, is_opening_target, zones_of}
use Rattle.action_planner.specs.Conditions.{AreNumbered, CanPlan, MayHold}
use Rattle.action_planner.specs.Offences.{broken, rules, first_by, first_given, zone_named, refused_not_live, refused_left_before, refused_twice, needs_event, not_open, not_live, is_gone, left_before, was_left, twice, is_shared, bad_period, needed_flood, site_moved, number_held, holds, held_by}
use Rattle.action_planner.proofs.LawfulLists.{EachPair, find_none, none_from}

-- an intent of which no rule is broken
pub record IsFit (rows : List Row) (t : ℕ) (all : List Placed) (p : Placed) : Type 0 where
  pub new : is_opening p.intent ≡ true → has_rows rows p.event ≡ false
  pub free : is_opening p.intent ≡ true → is_number_held rows t p.event ≡ false
  pub known : needs_event p.intent ≡ true → is_open rows t p.event ≡ true
  pub period : bad_period t p ≡ None
  pub there : AllByRecursion (λ z. is_gone rows t p.event p.intent z ≡ false) (zones_of p.intent)
  pub live : AllByRecursion (λ z. was_left rows t p.event p.intent z ≡ false) (zones_of p.intent)
  pub own : AllByRecursion (λ z. is_shared all p z ≡ false) (zones_of p.intent)
  pub once : IsDistinct same_zone (zones_of p.intent)
  pub flood : needed_flood p ≡ None
  pub site : site_moved rows p ≡ None

-- rules

or_none : {X : Type 0} (a b : Option X) → option_or a b ≡ None → (a ≡ None) × (b ≡ None)
or_none None b h = (refl, h)
or_none (Some x) b h = cc

pub given_none : {X : Type 0} (xs : List (Option X)) → first_given xs ≡ None → AllByRecursion (λ x. x ≡ None) xs
given_none [] h = tt
given_none (x ∷ xs) h = let p = or_none x (first_given xs) h in (p.0, given_none xs p.1)

pub by_none : (rule : Placed → Option Refusal) (ps : List Placed) → first_by rule ps ≡ None → AllByRecursion (λ p. rule p ≡ None) ps
by_none rule [] h = tt
by_none rule (p ∷ ps) h = let q = or_none (rule p) (first_by rule ps) h in (q.0, by_none rule ps q.1)

pub map_none : {X Y : Type 0} (f : X → Y) (o : Option X) → option_map f o ≡ None → o ≡ None
map_none f None h = refl
map_none f (Some x) h = cc

named_none : (names : Event → Place → Refusal) (e : Event) (offends : Place → Bool) (zones : List Place) → zone_named names e (find offends zones) ≡ None → AllByRecursion (λ z. offends z ≡ false) zones
named_none names e offends zones h = find_none offends zones (map_none (names e) (find offends zones) h)

open_by : (wanted going : Bool) (e : Refusal) → cond (wanted && not going) (Some e) None ≡ None → wanted ≡ true → going ≡ true
open_by wanted true e h o = refl
open_by true false e h o = cc
open_by false false e h o = cc

held_by_none : (rows : List Row) (t : ℕ) (e : Event) (opening : Bool) → cond opening (option_map held_by (find (holds t e) rows)) None ≡ None → opening ≡ true → is_number_held rows t e ≡ false
held_by_none rows t e true h o = none_from (holds t e) rows (find_none (holds t e) rows (map_none held_by (find (holds t e) rows) h))
held_by_none rows t e false h o = cc

-- new numbers

module _ (rows : List Row) (counts : List Count) (numbered : AreNumbered rows counts) (t : ℕ) where
  new_target : (earlier : List Intent) (target : Target) → is_opening_target target ≡ true → has_rows rows (event_of_target counts t earlier target) ≡ false
  new_target earlier (Fresh h) o =
      let e = new_event counts t earlier h in
      let above : count_of counts h (year_of t) < e.etn = omega arith in
      numbered e ∙ and_right (nat_le 1 e.etn) (nat_le e.etn (count_of counts h (year_of t))) (lt-leb e.etn (count_of counts h (year_of t)) above)
  new_target earlier (Join d) o = cc

  new_intent : (earlier : List Intent) (i : Intent) → is_opening i ≡ true → has_rows rows (event_of_intent counts t earlier i) ≡ false
  new_intent earlier (Put part) o = new_target earlier part.target o
  new_intent earlier (Finish part) o = cc
  new_intent earlier (Restate part) o = cc
  new_intent earlier (Routine part) o = cc

  pub new_placed : (earlier intents : List Intent) → AllByRecursion (λ p. is_opening p.intent ≡ true → has_rows rows p.event ≡ false) (placed_from counts t earlier intents)
  new_placed earlier [] = tt
  new_placed earlier (i ∷ intents) = (new_intent earlier i, new_placed (earlier ++ i ∷ []) intents)

once_placed : (counts : List Count) (c : Category) (t : ℕ) (earlier intents : List Intent) → AllByRecursion (MayHold c) intents → AllByRecursion (λ p. IsDistinct same_zone (zones_of p.intent)) (placed_from counts t earlier intents)
once_placed counts c t earlier [] all = tt
once_placed counts c t earlier (i ∷ intents) all = (all.0.1.once, once_placed counts c t (earlier ++ i ∷ []) intents all.1)

-- places are in order

later_placed : (counts : List Count) (t n : ℕ) (earlier intents : List Intent) → n < length earlier → AllByRecursion (λ q. (q.place == n) ≡ false) (placed_from counts t earlier intents)
later_placed counts t n earlier [] h = tt
later_placed counts t n earlier (i ∷ intents) h =
    let longer : n < length (earlier ++ i ∷ []) = omega (arith, length_push earlier i, h) in
    (ne_eqb (length earlier) n (λ e. absurd (omega (arith, e, h))), later_placed counts t n (earlier ++ i ∷ []) intents longer)

pub places_apart : (counts : List Count) (t : ℕ) (earlier intents : List Intent) → EachPair (λ p q. (q.place == p.place) ≡ false) (placed_from counts t earlier intents)
places_apart counts t earlier [] = tt
places_apart counts t earlier (i ∷ intents) =
    let longer : length earlier < length (earlier ++ i ∷ []) = omega (arith, length_push earlier i) in
    (later_placed counts t (length earlier) (earlier ++ i ∷ []) intents longer, places_apart counts t (earlier ++ i ∷ []) intents)

-- all together

fit_all : (rows : List Row) (t : ℕ) (all ps : List Placed) →
    AllByRecursion (λ p. is_opening p.intent ≡ true → has_rows rows p.event ≡ false) ps → AllByRecursion (λ p. IsDistinct same_zone (zones_of p.intent)) ps →
    AllByRecursion (λ p. not_open rows t p ≡ None) ps → AllByRecursion (λ p. not_live rows t p ≡ None) ps → AllByRecursion (λ p. left_before rows t p ≡ None) ps →
    AllByRecursion (λ p. twice all p ≡ None) ps → AllByRecursion (λ p. bad_period t p ≡ None) ps → AllByRecursion (λ p. number_held rows t p ≡ None) ps →
    AllByRecursion (λ p. needed_flood p ≡ None) ps → AllByRecursion (λ p. site_moved rows p ≡ None) ps →
    AllByRecursion (IsFit rows t all) ps
fit_all rows t all [] new once known there live own period free flood site = tt
fit_all rows t all (p ∷ ps) new once known there live own period free flood site =
    let first : IsFit rows t all p = record {
      new = new.0;
      free = held_by_none rows t p.event (is_opening p.intent) free.0;
      known = open_by (needs_event p.intent) (is_open rows t p.event) _ known.0;
      period = period.0;
      there = named_none refused_not_live p.event (is_gone rows t p.event p.intent) (zones_of p.intent) there.0;
      live = named_none refused_left_before p.event (was_left rows t p.event p.intent) (zones_of p.intent) live.0;
      own = named_none refused_twice p.event (is_shared all p) (zones_of p.intent) own.0;
      once = once.0;
      flood = flood.0;
      site = site.0;
    } in
    (first, fit_all rows t all ps new.1 once.1 known.1 there.1 live.1 own.1 period.1 free.1 flood.1 site.1)

-- where no rule is broken, each intent is fit
pub fits : (c : Category) (rows : List Row) (counts : List Count) (intents : List Intent) (t : ℕ) → CanPlan rows counts c intents t → broken c rows t (placed counts t intents) ≡ None →
    AllByRecursion (IsFit rows t (placed counts t intents)) (placed counts t intents)
unfolding broken
fits c rows counts intents t can h =
    let ps = placed counts t intents in
    let given = given_none (rules c rows t ps) h in
    fit_all rows t ps ps
    (new_placed rows counts can.numbered t [] intents)
    (once_placed counts c t [] intents (recursion_from_All (MayHold c) intents can.fitting))
    (by_none (not_open rows t) ps given.1.0)
    (by_none (not_live rows t) ps given.1.1.0)
    (by_none (left_before rows t) ps given.1.1.1.0)
    (by_none (twice ps) ps given.1.1.1.1.0)
    (by_none (bad_period t) ps given.1.1.1.1.1.0)
    (by_none (number_held rows t) ps given.1.1.1.1.1.1.1.1.1.1.1.1.0)
    (by_none needed_flood ps given.1.1.1.1.1.1.1.1.0)
    (by_none (site_moved rows) ps given.1.1.1.1.1.1.1.1.1.1.0)
