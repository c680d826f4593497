-- Of rows in order those of one zone stand together.
use Rattle.std.proofs.Common.{◌≡◌, ◌∙◌, ◌&&◌, ◌+◌, ℕ, zero, suc, List, [], ◌∷◌, Bool, true, false, None, Ordering, Less, Equal, Greater, refl, sym, ap, subst, cond, arith, find, filter, take, drop, drop-cons, length-drop, ◌-◌, ◌<◌, length, get_or}
use Rattle.std.specs.List.{AllByRecursion}
use Rattle.std.specs.List.Sorted.{IsStrictlySortedBy}
use Rattle.std.specs.Ordering.{ordering_then}
use Rattle.std.proofs.lemmas.Bool.{and_parts, false_from_ne_true}
use Rattle.std.proofs.lemmas.Cmp.{tied_itself}
use Rattle.std.proofs.lemmas.List.{take_all}
use Rattle.hazard_types.specs.Orders.{by_event}
use Rattle.hazard_types.specs.Places.{Place, by_place}
use Rattle.hazard_types.specs.Same.{same_zone}
use Rattle.hazard_types.specs.declared.line.Row.{Row}
use Rattle.hazard_types.proofs.Equality.{zone_one, zone_itself}
use Rattle.hazard_types.proofs.OrderLaws.{by_place_total, by_place_ties}
use Rattle.event_life.specs.Products.{by_key}
use Rattle.hazard_board.specs.Board.{by_row_event}
use Rattle.hazard_board.specs.Clashes.{clash}

-- behind a row of another zone there is none of this zone any more

first_less : (p q : Ordering) → ordering_then p q ≡ Less → (p ≡ Equal → ⊥) → p ≡ Less
first_less Less q h apart = refl
first_less Equal q h apart = absurd (apart refl)
first_less Greater q h apart = cc

not_greater : (p q : Ordering) → ordering_then p q ≡ Less → p ≡ Greater → ⊥
not_greater Less q h g = cc
not_greater Equal q h g = cc
not_greater Greater q h g = cc

zone_less : (a b : Row) → by_key a b ≡ Less → same_zone a.zone b.zone ≡ false → by_place a.zone b.zone ≡ Less
zone_less a b less other = first_less (by_place a.zone b.zone) (by_event a.event b.event) less (λ tied.
    let same : a.zone ≡ b.zone = by_place_ties a.zone b.zone tied in
    let itself : same_zone a.zone b.zone ≡ true = rw same (zone_itself b.zone) in cc)

pub further : (p q r : Place) (o : Ordering) → by_place q r ≡ o → by_place p q ≡ Less → (o ≡ Greater → ⊥) → by_place p r ≡ Less
further p q r Less is less h = by_place_total.trans p q r less is
further p q r Equal is less h = let same = by_place_ties q r is in rw (sym same) less
further p q r Greater is less h = absurd (h refl)

apart_zone : (a c : Row) → by_place a.zone c.zone ≡ Less → same_zone a.zone c.zone ≡ false
apart_zone a c less = false_from_ne_true _ (λ h.
    let same = zone_one a.zone c.zone h in
    let tied : by_place a.zone c.zone ≡ Equal = rw same (tied_itself by_place_total c.zone) in cc)

outside : (t : ℕ) (a c : Row) → same_zone a.zone c.zone ≡ false → clash t a c ≡ false
outside t a c other = rw other refl

none_further : (t : ℕ) (a b : Row) (rows : List Row) → by_place a.zone b.zone ≡ Less → AllByRecursion (λ y. by_key b y ≡ Less) rows → find (clash t a) rows ≡ None
none_further t a b [] less above = refl
none_further t a b (c ∷ rows) less above =
    let later = further a.zone b.zone c.zone (by_place b.zone c.zone) refl less (not_greater (by_place b.zone c.zone) (by_event b.event c.event) above.0) in
    rw (outside t a c (apart_zone a c later)) (none_further t a b rows less above.1)

zone_turned : (a b : Row) → same_zone a.zone b.zone ≡ false → same_zone b.zone a.zone ≡ false
zone_turned a b h = false_from_ne_true _ (λ g.
    let same = zone_one b.zone a.zone g in
    let itself : same_zone a.zone b.zone ≡ true = rw same (zone_itself a.zone) in cc)

-- from a row of another zone on, no row clashes
pub none_outside : (t : ℕ) (a b : Row) (rows : List Row) (i : ℕ) → IsStrictlySortedBy by_key (a ∷ rows) → i < length rows → b ≡ get_or rows i b → same_zone b.zone a.zone ≡ false → find (clash t a) (drop i rows) ≡ None
unfolding IsStrictlySortedBy
none_outside t a b [] i up within is other = absurd (omega (arith, within))
none_outside t a b (r ∷ rows) zero up within is other =
    let apart : same_zone a.zone r.zone ≡ false = zone_turned r a (subst (λ (x : Row). same_zone x.zone a.zone ≡ false) is other) in
    rw (outside t a r apart) (none_further t a r rows (zone_less a r up.0.0 apart) up.1.0)
none_outside t a b (r ∷ rows) (suc i) up within is other = none_outside t a b rows i (up.0.1, up.1.1) (omega (arith, within)) is other

-- what is left of rows in order is in order
pub sorted_left : (rows : List Row) (i : ℕ) → IsStrictlySortedBy by_key rows → IsStrictlySortedBy by_key (drop i rows)
unfolding IsStrictlySortedBy
sorted_left rows zero up = up
sorted_left [] (suc i) up = tt
sorted_left (r ∷ rows) (suc i) up = sorted_left rows i up.1

-- each row with those behind it
pub sorted_at : (rows : List Row) (i : ℕ) (r : Row) → IsStrictlySortedBy by_key rows → i < length rows → r ≡ get_or rows i r → IsStrictlySortedBy by_key (r ∷ take (length rows - (i + 1)) (drop (i + 1) rows))
sorted_at rows i r up within is =
    let cut : drop i rows ≡ r ∷ drop (suc i) rows = drop-cons rows i r within ∙ ap (λ (x : Row). x ∷ drop (suc i) rows) (sym is) in
    let next : suc i ≡ i + 1 = omega arith in
    let count : length (drop (i + 1) rows) ≡ length rows - (i + 1) = length-drop (i + 1) rows in
    let whole : take (length rows - (i + 1)) (drop (i + 1) rows) ≡ drop (i + 1) rows = take_all (length rows - (i + 1)) (drop (i + 1) rows) (omega (arith, count)) in
    rw (whole, ← next) (subst (IsStrictlySortedBy by_key) cut (sorted_left rows i up))

-- rows of one zone in order stand by event

then_second : (p q : Ordering) → ordering_then p q ≡ Less → p ≡ Equal → q ≡ Less
then_second Less q h e = cc
then_second Equal q h e = h
then_second Greater q h e = cc

event_less : (a b : Row) (z : Place) → same_zone a.zone z ≡ true → same_zone b.zone z ≡ true → by_key a b ≡ Less → by_row_event a b ≡ Less
event_less a b z h g less =
    let same : a.zone ≡ b.zone = zone_one a.zone z h ∙ sym (zone_one b.zone z g) in
    let tied : by_place a.zone b.zone ≡ Equal = rw same (tied_itself by_place_total b.zone) in
    then_second (by_place a.zone b.zone) (by_event a.event b.event) less tied

kept_above : (z : Place) (p : Row → Bool) (a : Row) (rows : List Row) → same_zone a.zone z ≡ true → AllByRecursion (λ y. by_key a y ≡ Less) rows → AllByRecursion (λ y. by_row_event a y ≡ Less) (filter (λ (r : Row). same_zone r.zone z && p r) rows)
kept_above z p a [] own above = tt
kept_above z p a (b ∷ rows) own above =
    let step : (keep : Bool) → (same_zone b.zone z && p b) ≡ keep → AllByRecursion (λ y. by_row_event a y ≡ Less) (cond keep (b ∷ filter (λ (r : Row). same_zone r.zone z && p r) rows) (filter (λ (r : Row). same_zone r.zone z && p r) rows)) =
    λ k. elim k as (λ k. (same_zone b.zone z && p b) ≡ k → AllByRecursion (λ y. by_row_event a y ≡ Less) (cond k (b ∷ filter (λ (r : Row). same_zone r.zone z && p r) rows) (filter (λ (r : Row). same_zone r.zone z && p r) rows))) [
      | true ↦ λ e. (event_less a b z own (and_parts (same_zone b.zone z) _ e).0 above.0, kept_above z p a rows own above.1)
      | false ↦ λ e. kept_above z p a rows own above.1
    ] in
    step (same_zone b.zone z && p b) refl

pub zone_by_event : (z : Place) (p : Row → Bool) (rows : List Row) → IsStrictlySortedBy by_key rows → IsStrictlySortedBy by_row_event (filter (λ (r : Row). same_zone r.zone z && p r) rows)
unfolding IsStrictlySortedBy
zone_by_event z p [] up = tt
zone_by_event z p (a ∷ rows) up =
    let step : (keep : Bool) → (same_zone a.zone z && p a) ≡ keep → IsStrictlySortedBy by_row_event (cond keep (a ∷ filter (λ (r : Row). same_zone r.zone z && p r) rows) (filter (λ (r : Row). same_zone r.zone z && p r) rows)) =
    λ k. elim k as (λ k. (same_zone a.zone z && p a) ≡ k → IsStrictlySortedBy by_row_event (cond k (a ∷ filter (λ (r : Row). same_zone r.zone z && p r) rows) (filter (λ (r : Row). same_zone r.zone z && p r) rows))) [
      | true ↦ λ e. (kept_above z p a rows (and_parts (same_zone a.zone z) _ e).0 up.0, zone_by_event z p rows up.1)
      | false ↦ λ e. zone_by_event z p rows up.1
    ] in
    step (same_zone a.zone z && p a) refl
