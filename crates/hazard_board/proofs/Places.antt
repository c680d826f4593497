-- Rows in order do not fall by zone, nor those of a zone by event; the rows of a zone are a run.
use Rattle.std.proofs.Common.{◌≡◌, ◌≢◌, ◌∙◌, ◌&&◌, ℕ, Bool, true, false, List, [], ◌∷◌, Option, Some, Ordering, Less, Equal, Greater, refl, sym, subst, ap, cond, filter, find, take, drop, is_eq}
use Rattle.std.specs.List.Sorted.{IsStrictlySortedBy}
use Rattle.std.specs.Ordering.{ordering_then}
use Rattle.std.proofs.lemmas.List.Elements.{filter_agree}
use Rattle.std.proofs.lemmas.Cmp.{tied_itself}
use Rattle.hazard_types.specs.Places.{Place, by_place}
use Rattle.hazard_types.specs.Orders.{by_event}
use Rattle.hazard_types.specs.Same.{same_zone, same_event}
use Rattle.hazard_types.specs.declared.hazard.Event.{Event}
use Rattle.hazard_types.specs.declared.line.Row.{Row}
use Rattle.hazard_types.proofs.Equality.{zone_one, zone_itself, event_one, event_itself}
use Rattle.hazard_types.proofs.OrderLaws.{by_place_total, by_place_ties, by_event_total, by_event_ties}
use Rattle.event_life.specs.Periods.{is_live}
use Rattle.event_life.specs.Products.{by_key, row_at}
use Rattle.hazard_board.specs.Board.{by_row_event, slice_of, live_in}
use Rattle.hazard_board.proofs.Runs.{rises, run, front, back}
use Rattle.hazard_board.proofs.ZoneLemmas.{zone_by_event}

pub first_less : (p q : Ordering) → ordering_then p q ≡ Less → p ≢ Greater
first_less Less q h g = cc
first_less Equal q h g = cc
first_less Greater q h g = cc

pub zone_never_falls : (a b : Row) → by_key a b ≡ Less → by_place a.zone b.zone ≢ Greater
zone_never_falls a b less = first_less (by_place a.zone b.zone) (by_event a.event b.event) less

pub event_never_falls : (a b : Row) → by_row_event a b ≡ Less → by_event a.event b.event ≢ Greater
event_never_falls a b less g = cc

-- a tie is the test `==`

pub is_tied : (o : Ordering) → is_eq o ≡ true → o ≡ Equal
is_tied Less h = cc
is_tied Equal h = refl
is_tied Greater h = cc

pub alike : (s t : Bool) → (s ≡ true → t ≡ true) → (t ≡ true → s ≡ true) → s ≡ t
alike true t f g = sym (f refl)
alike false true f g = g refl
alike false false f g = refl

pub zone_tied : (a b : Place) → is_eq (by_place a b) ≡ same_zone a b
zone_tied a b = alike _ _
    (λ h. let same = by_place_ties a b (is_tied (by_place a b) h) in rw same (zone_itself b))
    (λ h. ap is_eq (ap (λ (p : Place). by_place a p) (sym (zone_one a b h)) ∙ tied_itself by_place_total a))

pub event_tied : (a b : Event) → is_eq (by_event a b) ≡ same_event a b
event_tied a b = alike _ _
    (λ h. let same = by_event_ties a b (is_tied (by_event a b) h) in rw same (event_itself b))
    (λ h. ap is_eq (ap (λ (e : Event). by_event a e) (sym (event_one a b h)) ∙ tied_itself by_event_total a))

-- the rows of a zone are a run
pub zone_run : (z : Place) (rows : List Row) → IsStrictlySortedBy by_key rows →
    take (back (λ (r : Row). by_place r.zone z) (drop (front (λ (r : Row). by_place r.zone z) rows) rows)) (drop (front (λ (r : Row). by_place r.zone z) rows) rows) ≡ slice_of z rows
zone_run z rows up =
    run (λ r. by_place r.zone z) rows (rises by_place_total by_key (λ r. r.zone) zone_never_falls z rows up)
    ∙ filter_agree (λ r. is_eq (by_place r.zone z)) (λ r. same_zone r.zone z) (λ r. zone_tied r.zone z) rows

and_true : (b : Bool) → b ≡ (b && true)
and_true true = refl
and_true false = refl

-- and stand by event
pub zone_in_order : (z : Place) (rows : List Row) → IsStrictlySortedBy by_key rows → IsStrictlySortedBy by_row_event (slice_of z rows)
zone_in_order z rows up = subst (IsStrictlySortedBy by_row_event) (sym (filter_agree (λ (r : Row). same_zone r.zone z) (λ (r : Row). same_zone r.zone z && true) (λ r. and_true (same_zone r.zone z)) rows)) (zone_by_event z (λ r. true) rows up)

module _ (e : Event) (z : Place) where
  found_step : (a b : Bool) (r : Row) (rows : List Row) → same_event r.event e ≡ a → same_zone r.zone z ≡ b → find (λ (r : Row). same_event r.event e) (slice_of z rows) ≡ row_at rows e z → find (λ (r : Row). same_event r.event e) (slice_of z (r ∷ rows)) ≡ row_at (r ∷ rows) e z
  found_step true true r rows p q more = rw (q, p) refl
  found_step true false r rows p q more = rw (q, p) more
  found_step false true r rows p q more = rw (q, p) more
  found_step false false r rows p q more = rw (q, p) more

-- a row is found in its zone
pub found_in_zone : (e : Event) (z : Place) (rows : List Row) → find (λ (r : Row). same_event r.event e) (slice_of z rows) ≡ row_at rows e z
found_in_zone e z [] = refl
found_in_zone e z (r ∷ rows) = found_step e z (same_event r.event e) (same_zone r.zone z) r rows refl refl (found_in_zone e z rows)

-- a search by ties is one by the test
pub find_tied : (e : Event) (rows : List Row) → find (λ (r : Row). same_event r.event e) rows ≡ find (λ (r : Row). is_eq (by_event r.event e)) rows
find_tied e [] = refl
find_tied e (r ∷ rows) = rw (event_tied r.event e) (ap (λ (o : Option Row). cond (same_event r.event e) (Some r) o) (find_tied e rows))

live_step : (z : Place) (t : ℕ) (a b : Bool) (r : Row) (rows : List Row) → same_zone r.zone z ≡ a → is_live t r ≡ b → filter (is_live t) (slice_of z rows) ≡ live_in z t rows → filter (is_live t) (slice_of z (r ∷ rows)) ≡ live_in z t (r ∷ rows)
live_step z t true true r rows p q more = rw (p, q) (ap (λ (xs : List Row). r ∷ xs) more)
live_step z t true false r rows p q more = rw (p, q) more
live_step z t false true r rows p q more = rw p more
live_step z t false false r rows p q more = rw p more

-- the live rows of a zone
pub live_in_zone : (z : Place) (t : ℕ) (rows : List Row) → filter (is_live t) (slice_of z rows) ≡ live_in z t rows
live_in_zone z t [] = refl
live_in_zone z t (r ∷ rows) = live_step z t (same_zone r.zone z) (is_live t r) r rows refl refl (live_in_zone z t rows)
