-- What look-ups over a draft tell of its intents.
use Rattle.std.proofs.Common.{◌≡◌, ◌∙◌, ◌==◌, ◌&&◌, ◌||◌, not, ℕ, Bool, true, false, List, [], ◌∷◌, Option, Some, None, Equal, cond, refl, sym, ap, is_some}
use Rattle.std.specs.BTreeMap.{is_at}
use Rattle.std.specs.BTreeSet.{insert_key}
use Rattle.std.specs.Cmp.{IsTotalOrder}
use Rattle.std.specs.List.{list_any}
use Rattle.std.proofs.Math.Bool.{or-false}
use Rattle.std.proofs.lemmas.Bool.{and_parts, and_from, eqb-true, eq-eqb}
use Rattle.std.proofs.lemmas.Cmp.{on_total, then_total}
use Rattle.hazard_types.specs.Orders.{by_event}
use Rattle.hazard_types.specs.Places.{Place, by_place}
use Rattle.hazard_types.specs.Same.{same_event, same_zone}
use Rattle.hazard_types.specs.declared.hazard.Event.{Event}
use Rattle.hazard_types.proofs.Equality.{event_one, event_itself, zone_one, zone_itself}
use Rattle.hazard_types.proofs.OrderLaws.{by_event_total, by_event_ties, by_place_total, by_place_ties}
use Rattle.event_life.proofs.Keys.{then_parts}
use Rattle.event_life.proofs.Keyed.{at_one, at_itself, found_after, has_after, same_tests, zone_at}
use Rattle.action_planner.specs.declared.spoken.IntentsOn.{IntentsOn}
use Rattle.action_planner.specs.declared.spoken.Spot.{Spot}
use Rattle.action_planner.specs.Lines.{puts_or_finishes}
use Rattle.action_planner.specs.Placed.{Placed, zones_of, touches, speaks}
use Rattle.action_planner.specs.Spoken.{by_spot, spot_of, Spots, speakers_at, with_intent, add_spot, add_spots, spots_from, add_zones, zones_from, is_taken, has_other}

by_spot_total : IsTotalOrder by_spot
by_spot_total = then_total (on_total (λ (s : Spot). s.event) by_event_total) (on_total (λ (s : Spot). s.zone) by_place_total)

by_spot_ties : (a b : Spot) → by_spot a b ≡ Equal → a ≡ b
by_spot_ties a b h = let p = then_parts (by_event a.event b.event) _ h in λ i. record { event = by_event_ties a.event b.event p.0 i; zone = by_place_ties a.zone b.zone p.1 i }

spot_at : (q k : Spot) → is_at (by_spot q) k ≡ (same_event k.event q.event && same_zone k.zone q.zone)
spot_at q k = same_tests (is_at (by_spot q) k) (same_event k.event q.event && same_zone k.zone q.zone)
    (λ h. rw (at_one by_spot by_spot_total by_spot_ties q k h) (and_from _ _ (event_itself k.event) (zone_itself k.zone)))
    (λ h.
    let p = and_parts (same_event k.event q.event) (same_zone k.zone q.zone) h in
    let event_is = event_one k.event q.event p.0 in
    let zone_is = zone_one k.zone q.zone p.1 in
    let same : k ≡ q = λ i. record { event = event_is i; zone = zone_is i } in
    rw same (at_itself by_spot by_spot_total by_spot_ties q))

-- the zones that are touched

or_or : (a b c : Bool) → ((a || b) || c) ≡ (a || (b || c))
or_or true b c = refl
or_or false b c = refl

moved_in : (a b c : Bool) → ((a || b) || c) ≡ (b || (a || c))
moved_in true true c = refl
moved_in true false c = refl
moved_in false b c = refl

abbrev has_zone : Place → List Place → Bool
has_zone q zones = list_any (is_at (by_place q)) zones

zones_added : (q : Place) (held zones : List Place) → has_zone q (add_zones held zones) ≡ (has_zone q held || list_any (λ (y : Place). same_zone y q) zones)
zones_added q held [] = sym (or-false (has_zone q held))
zones_added q held (z ∷ zones) =
    let rest = list_any (λ (y : Place). same_zone y q) zones in
    zones_added q (insert_key by_place held z) zones
    ∙ ap (λ b. b || rest) (has_after by_place by_place_total by_place_ties q z held)
    ∙ ap (λ b. (b || has_zone q held) || rest) (zone_at q z)
    ∙ moved_in (same_zone z q) (has_zone q held) rest

zones_of_all : (q : Place) (held : List Place) (ps : List Placed) → has_zone q (zones_from held ps) ≡ (has_zone q held || list_any (touches q) ps)
zones_of_all q held [] = sym (or-false (has_zone q held))
zones_of_all q held (p ∷ ps) =
    zones_of_all q (add_zones held (zones_of p.intent)) ps
    ∙ ap (λ b. b || list_any (touches q) ps) (zones_added q held (zones_of p.intent))
    ∙ or_or (has_zone q held) (touches q p) (list_any (touches q) ps)

pub zone_touched : (q : Place) (zones : List Place) (ps : List Placed) → zones ≡ zones_from [] ps → has_zone q zones ≡ list_any (touches q) ps
zone_touched q zones ps is = ap (has_zone q) is ∙ zones_of_all q [] ps

zone_alike : (q : Place) (zones : List Place) → list_any (λ (y : Place). same_zone y q) zones ≡ has_zone q zones
zone_alike q [] = refl
zone_alike q (z ∷ zones) = ap (λ (b : Bool). b || list_any (λ (y : Place). same_zone y q) zones) (sym (zone_at q z)) ∙ ap (λ (b : Bool). is_at (by_place q) z || b) (zone_alike q zones)

-- told by the test of zones
pub zone_listed : (q : Place) (zones : List Place) (ps : List Placed) → zones ≡ zones_from [] ps → list_any (λ (y : Place). same_zone y q) zones ≡ list_any (touches q) ps
zone_listed q zones ps is = zone_alike q zones ∙ zone_touched q zones ps is

-- what is asked of the intents on a spot, where each adds its own answer

and_true : (b : Bool) → (b && true) ≡ b
and_true true = refl
and_true false = refl

no_more : (o s : Bool) → o ≡ (o || (s && false))
no_more true s = refl
no_more false true = refl
no_more false false = refl

no_zone : (o s e : Bool) → o ≡ (o || (s && (e && false)))
no_zone true s e = refl
no_zone false true true = refl
no_zone false true false = refl
no_zone false false e = refl

zone_or_rest : (o s e z r : Bool) → ((o || (s && (e && z))) || (s && (e && r))) ≡ (o || (s && (e && (z || r))))
zone_or_rest true s e z r = refl
zone_or_rest false true true z r = refl
zone_or_rest false true false z r = refl
zone_or_rest false false e z r = refl

module _ (asked : Option IntentsOn → Bool) (says : Placed → Bool) (step : (held : Option IntentsOn) (p : Placed) → asked (Some (with_intent held p)) ≡ (asked held || says p)) (q : Spot) where
  added_by : (b : Bool) (held here : Option IntentsOn) (p : Placed) → (b ≡ true → here ≡ held) → asked (cond b (Some (with_intent here p)) held) ≡ (asked held || (says p && b))
  added_by true held here p same = ap (λ o. asked (Some (with_intent o p))) (same refl) ∙ step held p ∙ ap (λ b. asked held || b) (sym (and_true (says p)))
  added_by false held here p same = no_more (asked held) (says p)

  spot_added : (spots : Spots) (p : Placed) (z : Place) → asked (speakers_at (add_spot spots p z) q) ≡ (asked (speakers_at spots q) || (says p && (same_event p.event q.event && same_zone z q.zone)))
  spot_added spots p z =
      let k = spot_of p z in
      ap asked (found_after by_spot by_spot_total by_spot_ties q k (with_intent (speakers_at spots k) p) spots)
      ∙ added_by (is_at (by_spot q) k) (speakers_at spots q) (speakers_at spots k) p (λ h. ap (speakers_at spots) (sym (at_one by_spot by_spot_total by_spot_ties q k h)))
      ∙ ap (λ b. asked (speakers_at spots q) || (says p && b)) (spot_at q k)

  spots_added : (spots : Spots) (p : Placed) (zones : List Place) →
      asked (speakers_at (add_spots spots p zones) q) ≡ (asked (speakers_at spots q) || (says p && (same_event p.event q.event && list_any (λ (y : Place). same_zone y q.zone) zones)))
  spots_added spots p [] = no_zone (asked (speakers_at spots q)) (says p) (same_event p.event q.event)
  spots_added spots p (z ∷ zones) =
      let rest = list_any (λ (y : Place). same_zone y q.zone) zones in
      spots_added (add_spot spots p z) p zones
      ∙ ap (λ b. b || (says p && (same_event p.event q.event && rest))) (spot_added spots p z)
      ∙ zone_or_rest (asked (speakers_at spots q)) (says p) (same_event p.event q.event) (same_zone z q.zone) rest

  abbrev any_says : List Placed → Bool
  any_says ps = list_any (λ (p : Placed). says p && speaks q.event q.zone p) ps

  spots_of_all : (spots : Spots) (ps : List Placed) → asked (speakers_at (spots_from spots ps) q) ≡ (asked (speakers_at spots q) || any_says ps)
  spots_of_all spots [] = sym (or-false (asked (speakers_at spots q)))
  spots_of_all spots (p ∷ ps) =
      spots_of_all (add_spots spots p (zones_of p.intent)) ps
      ∙ ap (λ b. b || any_says ps) (spots_added spots p (zones_of p.intent))
      ∙ or_or (asked (speakers_at spots q)) (says p && speaks q.event q.zone p) (any_says ps)

  told : (spots : Spots) (ps : List Placed) (held : Option IntentsOn) → asked None ≡ false → held ≡ speakers_at spots q → spots ≡ spots_from [] ps → asked held ≡ any_says ps
  told spots ps held none is of =
      ap asked is ∙ ap (λ es. asked (speakers_at es q)) of ∙ spots_of_all [] ps ∙ ap (λ b. b || any_says ps) none

spoken_step : (held : Option IntentsOn) (p : Placed) → true ≡ (is_some held || true)
spoken_step None p = refl
spoken_step (Some h) p = refl

taken_step : (held : Option IntentsOn) (p : Placed) → is_taken (Some (with_intent held p)) ≡ (is_taken held || puts_or_finishes p.intent)
taken_step None p = refl
taken_step (Some h) p = refl

same_number : (m n : ℕ) → (m == n) ≡ (n == m)
same_number m n = same_tests (m == n) (n == m) (λ h. eq-eqb n m (sym (eqb-true m n h))) (λ h. eq-eqb m n (sym (eqb-true n m h)))

other_by : (b : Bool) (n : ℕ) (first : ℕ) (others : Bool) (p : Placed) → (first == n) ≡ b → (not b || (others || not (first == p.place))) ≡ ((not b || others) || not (p.place == n))
other_by true n first others p is =
    let same : first ≡ n = eqb-true first n is in
    rw same (ap (λ c. others || not c) (same_number n p.place))
other_by false n first others p is = refl

other_step : (n : ℕ) (held : Option IntentsOn) (p : Placed) → has_other n (Some (with_intent held p)) ≡ (has_other n held || not (p.place == n))
other_step n None p = or-false (not (p.place == n))
other_step n (Some h) p = other_by (h.first == n) n h.first h.others p refl

module _ (spots : Spots) (ps : List Placed) (e : Event) (z : Place) (held : Option IntentsOn) (is : held ≡ speakers_at spots (record { event = e; zone = z })) (of : spots ≡ spots_from [] ps) where
  pub any_speaks : is_some held ≡ list_any (speaks e z) ps
  any_speaks = told is_some (λ (p : Placed). true) spoken_step (record { event = e; zone = z }) spots ps held refl is of

  pub any_takes : is_taken held ≡ list_any (λ (p : Placed). puts_or_finishes p.intent && speaks e z p) ps
  any_takes = told is_taken (λ (p : Placed). puts_or_finishes p.intent) taken_step (record { event = e; zone = z }) spots ps held refl is of

  pub any_other : (n : ℕ) → has_other n held ≡ list_any (λ (p : Placed). not (p.place == n) && speaks e z p) ps
  any_other n = told (has_other n) (λ (p : Placed). not (p.place == n)) (other_step n) (record { event = e; zone = z }) spots ps held refl is of
