-- The order of rows: by zone, then event.
use Rattle.std.proofs.Common.{◌≡◌, Ordering, Less, Equal, Greater, refl}
use Rattle.std.proofs.lemmas.Cmp.{tied_itself, then_total, on_total}
use Rattle.std.specs.Cmp.{IsTotalOrder}
use Rattle.std.specs.Ordering.{ordering_then}
use Rattle.hazard_types.specs.Places.{by_place}
use Rattle.hazard_types.specs.declared.line.Row.{Row}
use Rattle.hazard_types.proofs.OrderLaws.{by_place_total, by_event_total, by_place_ties, by_event_ties}
use Rattle.event_life.specs.Products.{by_key}

pub then_parts : (a b : Ordering) → ordering_then a b ≡ Equal → (a ≡ Equal) × (b ≡ Equal)
then_parts Less b h = cc
then_parts Equal b h = (refl, h)
then_parts Greater b h = cc

pub by_key-total : IsTotalOrder by_key
by_key-total = then_total (on_total (λ (r : Row). r.zone) by_place_total) (on_total (λ (r : Row). r.event) by_event_total)

-- rows of one place in the order are of one zone and event
pub key_exact : (r s : Row) → by_key r s ≡ Equal → (r.zone ≡ s.zone) × (r.event ≡ s.event)
key_exact r s h =
    let p = then_parts (by_place r.zone s.zone) _ h in
    (by_place_ties r.zone s.zone p.0, by_event_ties r.event s.event p.1)

-- rows of one zone and event have one place in the order
pub key_ties : (r s : Row) → r.zone ≡ s.zone → r.event ≡ s.event → by_key r s ≡ Equal
key_ties r s p q = rw (p, q, tied_itself by_place_total s.zone) (tied_itself by_event_total s.event)
