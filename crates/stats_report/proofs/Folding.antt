-- What is kept of products tells their statistics.
use Rattle.std.proofs.Common.{◌≡◌, ◌∙◌, ◌||◌, ℕ, ◌+◌, Bool, true, false, cond, length, List, [], ◌∷◌, ◌++◌, fold, Ordering, Equal, refl, ap, sym, arith}
use Rattle.std.proofs.lemmas.Map.Lookups.{btree_set_from_contains}
use Rattle.std.specs.BTreeMap.{is_at}
use Rattle.std.specs.BTreeSet.{BTreeSet, insert_key}
use Rattle.std.specs.Cmp.{IsTotalOrder}
use Rattle.std.specs.List.{flat_map, list_any}
use Rattle.std.specs.List.Sorted.{IsStrictlySortedBy}
use Rattle.std.specs.Map.{keys_of, values_of}
use Rattle.hazard_types.specs.Orders.{by_hazard, by_event}
use Rattle.hazard_types.specs.Places.{Place, by_place}
use Rattle.hazard_types.specs.declared.hazard.Event.{Event}
use Rattle.hazard_types.specs.declared.hazard.Hazard.{Hazard}
use Rattle.hazard_types.specs.declared.line.Row.{Row}
use Rattle.hazard_types.proofs.OrderLaws.{by_place_total, by_place_ties, by_hazard_total, by_hazard_ties, by_event_total, by_event_ties}
use Rattle.event_life.specs.Products.{Product, rows_of}
use Rattle.product_decoder.specs.Openings.{openings_of}
use Rattle.product_decoder.specs.declared.types.Opening.{Opening}
use Rattle.row_index.proofs.Tests.{any_insert, insert-sorted}
use Rattle.stats_report.specs.Adding.{sum_where, sum_at, with_event}
use Rattle.stats_report.specs.Minutes.{greatest, minutes_of}
use Rattle.stats_report.specs.Report.{events_in, hazards_in, zones_in, minutes_in, events_of, hazard_openings, hazard_lead, hazard_minutes, zone_openings, zone_minutes, total_minutes, hazard_text, zone_line_text, total_text, faults_text, hazard_line, zone_line, stats_text}
use Rattle.stats_report.specs.Spells.{Kept, sums_at}
use Rattle.stats_report.specs.Spots.{Spots, Counted, rows_in, AreExact, IsCounted}
use Rattle.stats_report.specs.Summed.{Test, passes, in_zone, of_hazard, of_any, AreKeysOf, event_of, zone_of, hazard_of, IsSummed, AreKeyed}
use Rattle.stats_report.specs.Told.{hazard_told, zone_told, all_told}
use Rattle.stats_report.proofs.Amounts.{hazard_folded}

-- the minutes that are counted are those of the rows
sum_exact : (stamp : ℕ) (products : List Product) (test : Test) (es : Spots) → AreExact stamp products es
    → sum_where (passes test) (λ (c : Counted). c.minutes) (values_of es) ≡ sum_where (λ (r : Row). test r.event r.zone) (minutes_in stamp products) (rows_in es)
sum_exact stamp products test [] exact = refl
sum_exact stamp products test (e ∷ es) exact =
    ap (λ (n : ℕ). cond (test e.1.row.event e.1.row.zone) n 0 + sum_where (passes test) (λ (c : Counted). c.minutes) (values_of es)) exact.0
    ∙ ap (λ (n : ℕ). cond (test e.1.row.event e.1.row.zone) (minutes_of stamp products e.1.row.event e.1.row.zone) 0 + n) (sum_exact stamp products test es exact.1)

-- keys of rows are those that are put row by row

module _ {K : Type 0} (R : K → K → Ordering) (total : IsTotalOrder R) (ties : (a b : K) → R a b ≡ Equal → a ≡ b) (key : Row → K) where
  abbrev keys_from : List K → List Row → List K
  keys_from ks rows = fold (λ (ks : List K) (r : Row). insert_key R ks (key r)) ks rows

  or_none : (b : Bool) → b ≡ (b || false)
  or_none true = refl
  or_none false = refl

  or_moved : (a h t : Bool) → ((a || h) || t) ≡ (h || (a || t))
  or_moved true true t = refl
  or_moved true false t = refl
  or_moved false true t = refl
  or_moved false false t = refl

  from_has : (q : K) (ks : List K) (rows : List Row) → list_any (is_at (R q)) (keys_from ks rows) ≡ (list_any (is_at (R q)) ks || list_any (λ (r : Row). is_at (R q) (key r)) rows)
  from_has q ks [] = or_none (list_any (is_at (R q)) ks)
  from_has q ks (r ∷ rows) =
      from_has q (insert_key R ks (key r)) rows
      ∙ ap (λ (b : Bool). b || list_any (λ (r : Row). is_at (R q) (key r)) rows) (any_insert R total ties (is_at (R q)) (key r) ks)
      ∙ or_moved (is_at (R q) (key r)) (list_any (is_at (R q)) ks) (list_any (λ (r : Row). is_at (R q) (key r)) rows)

  from_up : (ks : List K) (rows : List Row) → IsStrictlySortedBy R ks → IsStrictlySortedBy R (keys_from ks rows)
  from_up ks [] up = up
  from_up ks (r ∷ rows) up = from_up (insert_key R ks (key r)) rows (insert-sorted R total ties (key r) ks up)

  none_up : IsStrictlySortedBy R []
  unfolding IsStrictlySortedBy
  none_up = tt

  pub keys_are : (rows : List Row) (ks : List K) → AreKeysOf R key rows ks → ks ≡ keys_from [] rows
  keys_are rows ks is =
      let one : BTreeSet K = record { keys = ks } in
      let two : BTreeSet K = record { keys = keys_from [] rows } in
      btree_set_from_contains total one two is.order (from_up [] rows none_up) (λ q. is.there q ∙ sym (from_has q [] rows)) ties

-- the lines

module _ (stamp : ℕ) (products : List Product) (k : Kept) (es : Spots) (counted : IsCounted stamp products es) (sums_are : IsSummed stamp (greatest products) es (openings_of products) k) (keyed : AreKeyed (rows_of products) k) where
  summed : (test : Test) → sum_where (passes test) (λ (c : Counted). c.minutes) (values_of es) ≡ sum_where (λ (r : Row). test r.event r.zone) (minutes_in stamp products) (rows_of products)
  summed test = sum_exact stamp products test es counted.exact ∙ ap (sum_where (λ (r : Row). test r.event r.zone) (minutes_in stamp products)) counted.rows

  hazards_are : keys_of k.hazards ≡ hazards_in (rows_of products)
  hazards_are = keys_are by_hazard by_hazard_total by_hazard_ties hazard_of (rows_of products) (keys_of k.hazards) keyed.hazards

  zones_are : keys_of k.zones ≡ zones_in (rows_of products)
  zones_are = keys_are by_place by_place_total by_place_ties zone_of (rows_of products) (keys_of k.zones) keyed.zones

  events_are : keys_of k.spells ≡ events_in (rows_of products)
  events_are = keys_are by_event by_event_total by_event_ties event_of (rows_of products) (keys_of k.spells) keyed.events

  module _ (events : List (Hazard × ℕ)) (told : events ≡ fold with_event [] (keys_of k.spells)) where
    events_at : (h : Hazard) → sum_at by_hazard events h ≡ events_of h products
    events_at h =
        ap (λ (s : List (Hazard × ℕ)). sum_at by_hazard s h) (told ∙ ap (fold with_event []) events_are)
        ∙ hazard_folded (λ (e : Event). e.hazard) (λ (e : Event). 1) (events_in (rows_of products)) h

    hazard_is : (h : Hazard) → hazard_told events k h ≡ hazard_line stamp products h
    hazard_is h =
        let sums = sums_are.hazards h in
        let e : sum_at by_hazard events h ≡ events_of h products = events_at h in
        let o : (sums_at by_hazard k.hazards h).openings ≡ hazard_openings h products = sums.openings in
        let l : (sums_at by_hazard k.hazards h).lead ≡ hazard_lead h products = sums.lead in
        let m : (sums_at by_hazard k.hazards h).minutes ≡ hazard_minutes stamp h products = sums.minutes ∙ summed (of_hazard h) in
        λ i. hazard_text h (e i) (o i) (l i) (m i)

    zone_is : (z : Place) → zone_told k z ≡ zone_line stamp products z
    zone_is z =
        let sums = sums_are.zones z in
        let o : (sums_at by_place k.zones z).openings ≡ zone_openings z products = sums.openings in
        let m : (sums_at by_place k.zones z).minutes ≡ zone_minutes stamp z products = sums.minutes ∙ summed (in_zone z) in
        λ i. zone_line_text z (o i) (m i)

    hazards_told : flat_map (hazard_told events k) (keys_of k.hazards) ≡ flat_map (hazard_line stamp products) (hazards_in (rows_of products))
    hazards_told = ap (λ (f : Hazard → List ℕ). flat_map f (keys_of k.hazards)) (λ i h. hazard_is h i) ∙ ap (flat_map (hazard_line stamp products)) hazards_are

    zones_told : flat_map (zone_told k) (keys_of k.zones) ≡ flat_map (zone_line stamp products) (zones_in (rows_of products))
    zones_told = ap (λ (f : Place → List ℕ). flat_map f (keys_of k.zones)) (λ i z. zone_is z i) ∙ ap (flat_map (zone_line stamp products)) zones_are

    all_openings : (os : List Opening) → sum_where (λ (o : Opening). true) (λ (o : Opening). 1) os ≡ length os
    all_openings [] = refl
    all_openings (o ∷ os) = let later = all_openings os in omega (arith, later)

    pub text_told : (faults : ℕ) → all_told events k faults ≡ stats_text stamp products faults
    unfolding stats_text
    text_told faults =
        let a = hazards_told in
        let b = zones_told in
        let o : k.all.openings ≡ length (openings_of products) = sums_are.all.openings ∙ all_openings (openings_of products) in
        let m : k.all.minutes ≡ total_minutes stamp products = sums_are.all.minutes ∙ summed of_any in
        λ i. a i ++ (b i ++ (total_text (o i) (m i) ++ faults_text faults))
