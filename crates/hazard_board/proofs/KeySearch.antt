-- Rows in order do not fall against an event in a zone, and its row is the one that ties.
use Rattle.std.proofs.Common.{◌≡◌, ◌∙◌, ◌&&◌, Bool, true, false, List, [], ◌∷◌, Option, Some, None, Ordering, Equal, refl, sym, ap, cond, find, is_eq}
use Rattle.std.specs.List.Sorted.{IsStrictlySortedBy}
use Rattle.std.specs.Ordering.{ordering_then}
use Rattle.std.proofs.lemmas.Bool.{and_parts}
use Rattle.hazard_types.specs.Orders.{by_event}
use Rattle.hazard_types.specs.Places.{Place, by_place}
use Rattle.hazard_types.specs.Same.{same_zone, same_event}
use Rattle.hazard_types.specs.declared.hazard.Event.{Event}
use Rattle.hazard_types.specs.declared.line.Row.{Row}
use Rattle.hazard_types.specs.declared.period.End.TheVariants.{Ufn}
use Rattle.event_life.specs.Products.{by_key, row_at}
use Rattle.event_life.proofs.Keys.{then_parts}
use Rattle.hazard_board.specs.Board.{compare_row_key}
use Rattle.hazard_board.proofs.Runs.{Rises}
use Rattle.hazard_board.proofs.Places.{is_tied, alike, zone_tied, event_tied}
use Rattle.hazard_board.proofs.Seats.{rows_rise}

-- a row of the event in the zone
keyed : Event → Place → Row
keyed e z = record { event = e; zone = z; period = record { begin = 0; end = Ufn }; flood = None; ended = false }

pub keys_rise : (e : Event) (z : Place) (rows : List Row) → IsStrictlySortedBy by_key rows → Rises (λ r. compare_row_key e z r) rows
unfolding keyed
keys_rise e z rows up = rows_rise (keyed e z) rows up

tie : (a b : Ordering) → a ≡ Equal → b ≡ Equal → is_eq (ordering_then a b) ≡ true
tie a b p q = rw (p, q) refl

both : (a b : Bool) → a ≡ true → b ≡ true → (a && b) ≡ true
both a b p q = rw (p, q) refl

-- a tie is the test `==` of both
pub key_tied : (e : Event) (z : Place) (r : Row) → is_eq (compare_row_key e z r) ≡ (same_event r.event e && same_zone r.zone z)
key_tied e z r = alike _ _
    (λ h. let p = then_parts (by_place r.zone z) (by_event r.event e) (is_tied (compare_row_key e z r) h) in
    both _ _ (sym (event_tied r.event e) ∙ ap is_eq p.1) (sym (zone_tied r.zone z) ∙ ap is_eq p.0))
    (λ h. let q = and_parts (same_event r.event e) _ h in
    tie (by_place r.zone z) (by_event r.event e) (is_tied _ (zone_tied r.zone z ∙ q.1)) (is_tied _ (event_tied r.event e ∙ q.0)))

find_step : (a b : Bool) (r : Row) (s t : Option Row) → a ≡ b → s ≡ t → cond a (Some r) s ≡ cond b (Some r) t
find_step a b r s t p q = rw (p, q) refl

-- a search by ties is one for the row
pub found_tied : (e : Event) (z : Place) (rows : List Row) → row_at rows e z ≡ find (λ (r : Row). is_eq (compare_row_key e z r)) rows
found_tied e z [] = refl
found_tied e z (r ∷ rows) = find_step (same_event r.event e && same_zone r.zone z) (is_eq (compare_row_key e z r)) r _ _ (sym (key_tied e z r)) (found_tied e z rows)
