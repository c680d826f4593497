-- Zones in ascending order stand once; sorted zones that stand once ascend.
use Rattle.std.proofs.Common.{◌≡◌, ◌∙◌, ◌+◌, ℕ, suc, true, false, List, [], ◌∷◌, Ordering, Less, Equal, Greater, refl, sym, ap, subst, is_lt, get_or, arith}
use Rattle.std.specs.List.{AllByRecursion, IsDistinct}
use Rattle.std.specs.List.Sorted.{IsPermutation, IsSorted, IsStrictlySortedBy}
use Rattle.std.specs.Ordering.{ordering_reverse}
use Rattle.std.proofs.lemmas.Bool.{and_parts, and_from, false_from_ne_true}
use Rattle.std.proofs.lemmas.Cmp.{tied_itself}
use Rattle.event_life.proofs.Keyed.{same_tests}
use Rattle.std.proofs.lemmas.List.Sorted.{IsPermutation-sym}
use Rattle.std.proofs.lemmas.Map.Keys.{IsDistinct-IsPermutation}
use Rattle.hazard_types.specs.Places.{Place, by_place}
use Rattle.hazard_types.specs.Same.{same_zone}
use Rattle.hazard_types.proofs.Equality.{zone_one, zone_itself}
use Rattle.hazard_types.proofs.OrderLaws.{by_place_total, by_place_ties}
use Rattle.action_planner.specs.Fitting.{ascend, is_before_first, stand_once}
use Rattle.action_planner.proofs.FittingLemmas.{once_Decides}

is_less : (o : Ordering) → is_lt o ≡ true → o ≡ Less
is_less Less h = refl
is_less Equal h = cc
is_less Greater h = cc

further : (z y : Place) (zones : List Place) → by_place z y ≡ Less → AllByRecursion (λ x. by_place y x ≡ Less) zones → AllByRecursion (λ x. by_place z x ≡ Less) zones
further z y [] less all = tt
further z y (x ∷ zones) less all = (by_place_total.trans z y x less all.0, further z y zones less all.1)

all_above : (z : Place) (zones : List Place) → is_before_first z zones ≡ true → IsStrictlySortedBy by_place zones → AllByRecursion (λ x. by_place z x ≡ Less) zones
unfolding IsStrictlySortedBy
all_above z [] h up = tt
all_above z (y ∷ zones) h up = let less = is_less (by_place z y) h in (less, further z y zones less up.0)

strictly : (zones : List Place) → ascend zones ≡ true → IsStrictlySortedBy by_place zones
unfolding IsStrictlySortedBy
strictly [] h = tt
strictly (z ∷ zones) h =
    let p = and_parts (is_before_first z zones) _ h in
    let up = strictly zones p.1 in
    (all_above z zones p.0 up, up)

other_zone : (z y : Place) → by_place z y ≡ Less → same_zone z y ≡ false
other_zone z y less = false_from_ne_true _ (λ h.
    let tied : by_place z y ≡ Equal = ap (by_place z) (sym (zone_one z y h)) ∙ tied_itself by_place_total z in cc)

all_other : (z : Place) (zones : List Place) → AllByRecursion (λ x. by_place z x ≡ Less) zones → AllByRecursion (λ x. same_zone z x ≡ false) zones
all_other z [] all = tt
all_other z (y ∷ zones) all = (other_zone z y all.0, all_other z zones all.1)

differ : (zones : List Place) → IsStrictlySortedBy by_place zones → IsDistinct same_zone zones
unfolding IsStrictlySortedBy IsDistinct
differ [] up = tt
differ (z ∷ zones) up = (all_other z zones up.0, differ zones up.1)

-- zones that ascend stand once
pub once_ascending : (zones : List Place) → ascend zones ≡ true → stand_once zones ≡ true
once_ascending zones h = (once_Decides zones).1 (differ zones (strictly zones h))

-- sorted zones that differ ascend

next_above : (o : Ordering) (z y : Place) → by_place z y ≡ o → is_lt (by_place y z) ≡ false → same_zone z y ≡ false → is_lt o ≡ true
next_above Less z y is fall other = refl
next_above Equal z y is fall other = let same : same_zone z y ≡ true = rw (by_place_ties z y is) (zone_itself y) in cc
next_above Greater z y is fall other =
    let less : by_place y z ≡ Less = by_place_total.antisymm y z ∙ ap ordering_reverse is in
    let above : is_lt (by_place y z) ≡ true = ap is_lt less in cc

sorted_rest : (z : Place) (zones : List Place) → IsSorted by_place (z ∷ zones) → IsSorted by_place zones
sorted_rest z zones up k d low high =
    let next : suc k + 1 ≡ suc (k + 1) = omega arith in
    subst (λ (n : ℕ). is_lt (by_place (get_or (z ∷ zones) n d) (get_or zones k d)) ≡ false) next (up (suc k) d (omega arith) (omega (arith, high)))

first_above : (z : Place) (zones : List Place) → IsSorted by_place (z ∷ zones) → AllByRecursion (λ x. same_zone z x ≡ false) zones → is_before_first z zones ≡ true
first_above z [] up all = refl
first_above z (y ∷ zones) up all = next_above (by_place z y) z y refl (up 0 z (omega arith) (omega arith)) all.0

ascending : (zones : List Place) → IsSorted by_place zones → IsDistinct same_zone zones → ascend zones ≡ true
unfolding IsDistinct
ascending [] up apart = refl
ascending (z ∷ zones) up apart = and_from _ _ (first_above z zones up apart.0) (ascending zones (sorted_rest z zones up) apart.1)

turned : (a b : Place) → same_zone a b ≡ same_zone b a
turned a b = same_tests (same_zone a b) (same_zone b a)
    (λ h. rw (zone_one a b h) (zone_itself b))
    (λ h. rw (zone_one b a h) (zone_itself a))

-- zones stand once exactly where they ascend once sorted
pub once_sorted : (zones sorted : List Place) → IsPermutation zones sorted → IsSorted by_place sorted → ascend sorted ≡ stand_once zones
once_sorted zones sorted moved up = same_tests (ascend sorted) (stand_once zones)
    (λ h. (once_Decides zones).1 (IsDistinct-IsPermutation same_zone turned sorted zones (IsPermutation-sym zones sorted moved) (differ sorted (strictly sorted h))))
    (λ h. ascending sorted up (IsDistinct-IsPermutation same_zone turned zones sorted moved ((once_Decides zones).0 h)))
