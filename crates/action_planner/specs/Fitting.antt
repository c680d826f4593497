-- The tests by which it is decided whether a draft may hold an intent.
use Rattle.std.specs.Prelude.{◌&&◌, not, Bool, true, false, List, [], ◌∷◌, find, length, nat_le, Option, Some, None, is_none}
use Rattle.std.specs.List.{list_any}
use Rattle.hazard_types.specs.Hazards.{facts_of}
use Rattle.std.specs.Ordering.{is_lt}
use Rattle.hazard_types.specs.Places.{Place, by_place}
use Rattle.hazard_types.specs.Same.{same_zone}
use Rattle.hazard_types.specs.contracts.codes.CategoryPartialEq.TheImpl as category
use Rattle.hazard_types.specs.contracts.zone.KindPartialEq.TheImpl as kind
use Rattle.hazard_types.specs.declared.codes.Category.{Category}
use Rattle.hazard_types.specs.declared.facts.Facts.{Facts}
use Rattle.hazard_types.specs.declared.hazard.Hazard.{Hazard}
use Rattle.office_types.specs.declared.request.Intent.{Intent}
use Rattle.office_types.specs.declared.request.Intent.TheVariants.{Put, Finish, Restate, Routine}
use Rattle.office_types.specs.declared.request.Target.{Target}
use Rattle.office_types.specs.declared.request.Target.TheVariants.{Fresh, Join}
use Rattle.action_planner.specs.Lines.{follows}
use Rattle.action_planner.specs.Placed.{zones_of}

-- the zone is of another kind than the hazard's
abbrev pub of_other_kind : Option Facts → Place → Bool
of_other_kind None z = false
of_other_kind (Some facts) z = not (kind.eq-value.it z.kind facts.kind)

abbrev pub are_of_kind : Option Facts → List Place → Bool
are_of_kind facts zones = is_none (find (of_other_kind facts) zones)

-- the category opens new events of the hazard
abbrev pub opens_with : Category → Option Facts → Bool
opens_with c None = false
opens_with c (Some facts) = category.eq-value.it facts.opens c

abbrev pub fits_target : Category → Target → List Place → Bool
fits_target c (Fresh h) zones = opens_with c (facts_of h) && are_of_kind (facts_of h) zones
fits_target c (Join e) zones = follows c (facts_of e.hazard) && are_of_kind (facts_of e.hazard) zones

abbrev pub fits_following : Category → Hazard → List Place → Bool
fits_following c h zones = follows c (facts_of h) && are_of_kind (facts_of h) zones

abbrev pub fits : Category → Intent → Bool
fits c (Put part) = fits_target c part.target part.zones
fits c (Finish part) = fits_following c part.event.hazard part.zones
fits c (Restate part) = fits_following c part.event.hazard part.zones
fits c (Routine part) = fits_following c part.hazard part.zones

-- each zone stands once
abbrev pub stand_once : List Place → Bool
stand_once [] = true
stand_once (z ∷ zones) = not (list_any (λ (y : Place). same_zone z y) zones) && stand_once zones

-- the zone is before the first of some
abbrev pub is_before_first : Place → List Place → Bool
is_before_first z [] = true
is_before_first z (y ∷ zones) = is_lt (by_place z y)

-- each zone is before the next
abbrev pub ascend : List Place → Bool
ascend [] = true
ascend (z ∷ zones) = is_before_first z zones && ascend zones

abbrev pub is_valid_zone_list : List Place → Bool
is_valid_zone_list zones = nat_le 1 (length zones) && nat_le (length zones) 600 && stand_once zones

abbrev pub may_hold : Category → Intent → Bool
may_hold c i = fits c i && is_valid_zone_list (zones_of i)
