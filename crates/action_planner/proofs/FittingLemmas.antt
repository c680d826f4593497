-- The tests of fitting decide what is asked of a draft.
use Rattle.std.proofs.Common.{◌≡◌, ◌↔◌, not, List, [], ◌∷◌, Bool, true, false, Option, Some, None, refl, sym, ap, subst, ◌∙◌, find, length}
use Rattle.std.proofs.lemmas.Bool.{and_from, and_parts, not-false, not-true, not_from_false, not_from_true}
use Rattle.std.proofs.lemmas.Bool.Decides.{Decides-and}
use Rattle.std.proofs.lemmas.List.Elements.{All-from_recursion, recursion_from_All}
use Rattle.std.specs.Bool.{Decides, IsTrue}
use Rattle.std.specs.List.{All, AllByRecursion, IsDistinct, list_any}
use Rattle.std.specs.Option.{is_none}
use Rattle.hazard_types.specs.Hazards.{facts_of}
use Rattle.hazard_types.specs.Places.{Place}
use Rattle.hazard_types.specs.Same.{same_zone}
use Rattle.hazard_types.specs.declared.codes.Category.{Category}
use Rattle.hazard_types.specs.declared.facts.Facts.{Facts}
use Rattle.hazard_types.specs.declared.hazard.Hazard.{Hazard}
use Rattle.office_types.specs.declared.request.Intent.{Intent}
use Rattle.office_types.specs.declared.request.Intent.TheVariants.{Put, Finish, Restate, Routine}
use Rattle.office_types.specs.declared.request.Target.{Target}
use Rattle.office_types.specs.declared.request.Target.TheVariants.{Fresh, Join}
use Rattle.hazard_types.proofs.Equality.{category_decides, kind_decides}
use Rattle.action_planner.specs.Conditions.{AreOfKind, AreZones, Fits, FitsTarget, IsFollowedBy, IsOpenedBy, MayHold}
use Rattle.action_planner.specs.Fitting.{are_of_kind, is_valid_zone_list, fits, fits_following, fits_target, may_hold, of_other_kind, opens_with, stand_once}
use Rattle.action_planner.specs.Placed.{zones_of}
use Rattle.action_planner.proofs.CasesWords.{category_told, follows_Decides, le_Decides}
use Rattle.action_planner.proofs.LawfulLists.{all_weaker, find_none, no_find, none_from, none_of}

-- ---- kinds of zones

own_kind : (facts : Facts) (z : Place) → Decides (not (of_other_kind (Some facts) z)) (z.kind ≡ facts.kind)
own_kind facts z = (
  λ h. (kind_decides z.kind facts.kind).0 (not-false _ (not-true _ h)),
  λ e. not_from_false _ (not_from_true _ ((kind_decides z.kind facts.kind).1 e)),
)

-- no zone is of another kind
abbrev AreOf : Option Facts → List Place → Type 0
AreOf o zones = (f : Facts) → o ≡ Some f → All (λ (z : Place). z.kind ≡ f.kind) zones

none_other : (o : Option Facts) (zones : List Place) → AllByRecursion (λ z. of_other_kind o z ≡ false) zones ↔ AreOf o zones
none_other None zones = (λ h f e. cc, λ h. each_none zones)
  where
    each_none : (zones : List Place) → AllByRecursion (λ z. of_other_kind None z ≡ false) zones
    each_none [] = tt
    each_none (z ∷ zones) = (refl, each_none zones)
none_other (Some facts) zones = (
  λ h f e.
      let same : facts ≡ f = cc in
      subst (λ (x : Facts). All (λ (z : Place). z.kind ≡ x.kind) zones) same
      (All-from_recursion (λ (z : Place). z.kind ≡ facts.kind) zones (all_weaker (λ z. of_other_kind (Some facts) z ≡ false) (λ z. z.kind ≡ facts.kind) (λ z n. (own_kind facts z).0 (not_from_false _ n)) zones h)),
  λ h. all_weaker (λ z. z.kind ≡ facts.kind) (λ z. of_other_kind (Some facts) z ≡ false) (λ z e. not-true _ ((own_kind facts z).1 e)) zones (recursion_from_All (λ (z : Place). z.kind ≡ facts.kind) zones (h facts refl)),
)

is_none_of : (p : Option Place) → is_none p ≡ true → p ≡ None
is_none_of None h = refl
is_none_of (Some z) h = cc

pub kind_Decides : (o : Option Facts) (zones : List Place) → Decides (are_of_kind o zones) (AreOf o zones)
kind_Decides o zones = (
  λ h. (none_other o zones).0 (find_none (of_other_kind o) zones (is_none_of (find (of_other_kind o) zones) h)),
  λ h. ap (λ (p : Option Place). is_none p) (no_find (of_other_kind o) zones ((none_other o zones).1 h)),
)

pub none_found : (h : Hazard) (zones : List Place) (found : Option Place) → found ≡ find (of_other_kind (facts_of h)) zones → (found ≡ None) ↔ AreOfKind h zones
none_found h zones found is = (
  λ n. (none_other (facts_of h) zones).0 (find_none (of_other_kind (facts_of h)) zones (sym is ∙ n)),
  λ a. is ∙ no_find (of_other_kind (facts_of h)) zones ((none_other (facts_of h) zones).1 a),
)

-- ---- categories

pub opens_Decides : (c : Category) (h : Hazard) → Decides (opens_with c (facts_of h)) (IsOpenedBy c h)
opens_Decides c h = category_told (opens_with c) (λ (f : Facts). f.opens) c refl (λ facts. category_decides facts.opens c) (facts_of h)

target_Decides : (c : Category) (target : Target) (zones : List Place) → Decides (fits_target c target zones) (FitsTarget c target zones)
target_Decides c (Fresh h) zones = Decides-and _ _ (opens_Decides c h) (kind_Decides (facts_of h) zones)
target_Decides c (Join e) zones = Decides-and _ _ (follows_Decides c e.hazard) (kind_Decides (facts_of e.hazard) zones)

following_Decides : (c : Category) (h : Hazard) (zones : List Place) → Decides (fits_following c h zones) (IsFollowedBy c h × AreOfKind h zones)
following_Decides c h zones = Decides-and _ _ (follows_Decides c h) (kind_Decides (facts_of h) zones)

fits_Decides : (c : Category) (i : Intent) → Decides (fits c i) (Fits c i)
fits_Decides c (Put part) = target_Decides c part.target part.zones
fits_Decides c (Finish part) = following_Decides c part.event.hazard part.zones
fits_Decides c (Restate part) = following_Decides c part.event.hazard part.zones
fits_Decides c (Routine part) = following_Decides c part.hazard part.zones

-- ---- lists of zones

pub once_Decides : (zones : List Place) → Decides (stand_once zones) (IsDistinct same_zone zones)
unfolding IsDistinct
once_Decides [] = (λ h. tt, λ h. refl)
once_Decides (z ∷ zones) = (
  λ h. let p = and_parts (not (list_any (λ (y : Place). same_zone z y) zones)) _ h in (none_of (λ (y : Place). same_zone z y) zones (not-true _ p.0), (once_Decides zones).0 p.1),
  λ h. and_from _ _ (not_from_false _ (none_from (λ (y : Place). same_zone z y) zones h.0)) ((once_Decides zones).1 h.1),
)

pub zones_Decide : (zones : List Place) → Decides (is_valid_zone_list zones) (AreZones zones)
zones_Decide zones =
    let d = Decides-and _ _ (Decides-and _ _ (le_Decides 1 (length zones)) (le_Decides (length zones) 600)) (once_Decides zones) in (
      λ h. let p = d.0 h in record { some = p.0.0; few = p.0.1; once = p.1 },
      λ a. d.1 ((a.some, a.few), a.once),
    )

pub hold_Decides : (c : Category) (i : Intent) → Decides (may_hold c i) (MayHold c i)
hold_Decides c i = Decides-and _ _ (fits_Decides c i) (zones_Decide (zones_of i))

-- what an equal answer tells
pub told : (answer test : Bool) (P : Type 0) → answer ≡ test → Decides test P → IsTrue answer ↔ P
told answer test P is d = (λ h. d.0 (sym is ∙ h), λ p. is ∙ d.1 p)
