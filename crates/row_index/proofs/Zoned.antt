-- Rows of one event, each at its zone: where a row is put, and look-ups.
use Rattle.std.proofs.Common.{◌≡◌, ◌∙◌, List, [], ◌∷◌, ◌&&◌, Bool, true, cond, Ordering, Less, Equal, Greater, Option, Some, refl, ap, sym, subst}
use Rattle.std.proofs.lemmas.Cmp.{tied_itself}
use Rattle.std.specs.BTreeMap.{insert_entry, is_at}
use Rattle.std.specs.Map.{lookup, values_of}
use Rattle.std.specs.Ordering.{match_ordering, ordering_then}
use Rattle.hazard_types.specs.Orders.{by_event}
use Rattle.hazard_types.specs.Places.{Place, by_place}
use Rattle.hazard_types.specs.Same.{same_zone, same_event}
use Rattle.hazard_types.specs.declared.hazard.Event.{Event}
use Rattle.hazard_types.specs.declared.line.Row.{Row}
use Rattle.hazard_types.proofs.Equality.{event_itself}
use Rattle.hazard_types.proofs.OrderLaws.{by_event_total, by_place_ties}
use Rattle.event_life.specs.Products.{by_key, placed, put, row_at}
use Rattle.event_life.proofs.Puts.{at_key}
use Rattle.row_index.specs.Zoning.{AreOf, AreZoned}
use Rattle.row_index.proofs.Seated.{same_by}

abbrev Zones : Type 0
Zones = List (Place × Row)

then_equal : (o : Ordering) → ordering_then o Equal ≡ o
then_equal Less = refl
then_equal Equal = refl
then_equal Greater = refl

-- rows of one event are in order by zone
by_zone : (row r : Row) → r.event ≡ row.event → by_key row r ≡ by_place row.zone r.zone
by_zone row r is =
    ap (λ (o : Ordering). ordering_then (by_place row.zone r.zone) o) (ap (by_event row.event) is ∙ tied_itself by_event_total row.event)
    ∙ then_equal (by_place row.zone r.zone)

-- a row that is put

values_by : (o : Ordering) (row : Row) (e : Place × Row) (es tail : Zones) → values_of tail ≡ put row (values_of es)
    → values_of (match_ordering o ((row.zone, row) ∷ e ∷ es) ((e.0, row) ∷ es) (e ∷ tail)) ≡ placed o row e.1 (values_of es) (put row (values_of es))
values_by Less row e es tail later = refl
values_by Equal row e es tail later = refl
values_by Greater row e es tail later = ap (λ (rows : List Row). e.1 ∷ rows) later

pub values-zoned : (row : Row) (es : Zones) → AreZoned es → AreOf row.event (values_of es) → values_of (insert_entry by_place es row.zone row) ≡ put row (values_of es)
values-zoned row [] at own = refl
values-zoned row (e ∷ es) at own =
    values_by (by_place row.zone e.0) row e es (insert_entry by_place es row.zone row) (values-zoned row es at.1 own.1)
    ∙ ap (λ (o : Ordering). placed o row e.1 (values_of es) (put row (values_of es))) (ap (by_place row.zone) at.0 ∙ sym (by_zone row e.1 own.0))

zoned_by : (o : Ordering) (row : Row) (e : Place × Row) (es tail : Zones) → by_place row.zone e.0 ≡ o → AreZoned (e ∷ es) → AreZoned tail → AreZoned (match_ordering o ((row.zone, row) ∷ e ∷ es) ((e.0, row) ∷ es) (e ∷ tail))
zoned_by Less row e es tail h at later = (refl, at)
zoned_by Equal row e es tail h at later = (sym (by_place_ties row.zone e.0 h), at.1)
zoned_by Greater row e es tail h at later = (at.0, later)

pub zoned-put : (row : Row) (es : Zones) → AreZoned es → AreZoned (insert_entry by_place es row.zone row)
zoned-put row [] at = (refl, at)
zoned-put row (e ∷ es) at = zoned_by (by_place row.zone e.0) row e es (insert_entry by_place es row.zone row) refl at (zoned-put row es at.1)

-- look-ups

found_by : (b c : Bool) (r : Row) (o p : Option Row) → b ≡ c → o ≡ p → cond b (Some r) o ≡ cond c (Some r) p
found_by b c r o p h later = λ i. cond (h i) (Some r) (later i)

at_zone : (z : Place) (e : Place × Row) → e.0 ≡ e.1.zone → is_at (by_place z) e.0 ≡ same_zone e.1.zone z
at_zone z e at = ap (is_at (by_place z)) at ∙ same_by (by_place z e.1.zone) z e.1.zone refl

own_key : (d : Event) (r : Row) (b : Bool) → r.event ≡ d → b ≡ (same_event r.event d && b)
own_key d r b is = let own : same_event r.event d ≡ true = subst (λ (x : Event). same_event x d ≡ true) (sym is) (event_itself d) in rw own refl

pub own_found : (d : Event) (z : Place) (es : Zones) → AreZoned es → AreOf d (values_of es) → lookup (is_at (by_place z)) es ≡ row_at (values_of es) d z
own_found d z [] at own = refl
own_found d z (e ∷ es) at own =
    found_by (is_at (by_place z) e.0) (at_key d z e.1) e.1 (lookup (is_at (by_place z)) es) (row_at (values_of es) d z)
    (at_zone z e at.0 ∙ own_key d e.1 (same_zone e.1.zone z) own.0) (own_found d z es at.1 own.1)
