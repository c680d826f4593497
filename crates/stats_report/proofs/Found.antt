-- Rows at their spots: what is found, and what a change leaves.
use Rattle.std.proofs.Common.{◌≡◌, ◌∙◌, ◌&&◌, Bool, true, false, cond, List, [], ◌∷◌, Option, Some, None, Ordering, Less, Equal, Greater, refl, ap, sym, subst}
use Rattle.std.specs.BTreeMap.{insert_entry, is_at}
use Rattle.std.specs.List.{AllByRecursion}
use Rattle.std.specs.List.Sorted.{IsStrictlySortedBy}
use Rattle.std.specs.Map.{lookup}
use Rattle.std.specs.Ordering.{match_ordering, ordering_then, is_eq}
use Rattle.std.specs.Prelude.{option_map}
use Rattle.std.proofs.lemmas.Bool.{false_from_ne_true}
use Rattle.std.proofs.lemmas.Cmp.{tied_itself}
use Rattle.hazard_types.specs.Orders.{by_event}
use Rattle.hazard_types.specs.Places.{Place, by_place}
use Rattle.hazard_types.specs.Same.{same_zone, same_event}
use Rattle.hazard_types.specs.declared.hazard.Event.{Event}
use Rattle.hazard_types.specs.declared.line.Row.{Row}
use Rattle.hazard_types.proofs.Equality.{zone_one, zone_itself, event_one, event_itself}
use Rattle.hazard_types.proofs.OrderLaws.{by_place_total, by_place_ties, by_event_total, by_event_ties}
use Rattle.event_life.specs.Products.{by_key, placed, put, row_at}
use Rattle.event_life.proofs.Keys.{by_key-total, key_exact}
use Rattle.event_life.proofs.Puts.{at_key, at_key-parts}
use Rattle.stats_report.specs.Spots.{Spots, by_spot, spot_at, spot_of, rows_in, AreSpotted, Spot, Counted}

-- rows stand by their spots

rows_by : (o : Ordering) (k : Spot) (v : Counted) (e : Spot × Counted) (es tail : Spots) → rows_in tail ≡ put v.row (rows_in es)
    → rows_in (match_ordering o ((k, v) ∷ e ∷ es) ((e.0, v) ∷ es) (e ∷ tail)) ≡ placed o v.row e.1.row (rows_in es) (put v.row (rows_in es))
rows_by Less k v e es tail later = refl
rows_by Equal k v e es tail later = refl
rows_by Greater k v e es tail later = ap (λ (rows : List Row). e.1.row ∷ rows) later

-- a value put at its row's spot puts the row
pub rows_put : (v : Counted) (es : Spots) → AreSpotted es → rows_in (insert_entry by_spot es (spot_of v.row) v) ≡ put v.row (rows_in es)
rows_put v [] at = refl
rows_put v (e ∷ es) at =
    rows_by (by_spot (spot_of v.row) e.0) (spot_of v.row) v e es (insert_entry by_spot es (spot_of v.row) v) (rows_put v es at.1)
    ∙ ap (λ (o : Ordering). placed o v.row e.1.row (rows_in es) (put v.row (rows_in es))) (ap (by_spot (spot_of v.row)) at.0)

pub spot_one : (r s : Row) → by_key r s ≡ Equal → spot_of s ≡ spot_of r
spot_one r s h =
    let p = key_exact r s h in
    let zone_is = p.0 in
    let event_is = p.1 in
    sym (λ i. spot_at (event_is i) (zone_is i))

spotted_by : (o : Ordering) (v : Counted) (e : Spot × Counted) (es tail : Spots) → by_key v.row e.1.row ≡ o → AreSpotted (e ∷ es) → AreSpotted tail
    → AreSpotted (match_ordering o ((spot_of v.row, v) ∷ e ∷ es) ((e.0, v) ∷ es) (e ∷ tail))
spotted_by Less v e es tail h at later = (refl, at)
spotted_by Equal v e es tail h at later = (at.0 ∙ spot_one v.row e.1.row h, at.1)
spotted_by Greater v e es tail h at later = (at.0, later)

pub spotted_put : (v : Counted) (es : Spots) → AreSpotted es → AreSpotted (insert_entry by_spot es (spot_of v.row) v)
spotted_put v [] at = (refl, at)
spotted_put v (e ∷ es) at =
    spotted_by (by_spot (spot_of v.row) e.0) v e es (insert_entry by_spot es (spot_of v.row) v)
    (sym (ap (by_spot (spot_of v.row)) at.0)) at (spotted_put v es at.1)

abbrev pub Each : (Counted → Type 0) → Spots → Type 0
Each P es = AllByRecursion (λ (e : Spot × Counted). P e.1) es

each_by : (P : Counted → Type 0) (o : Ordering) (k : Spot) (v : Counted) (e : Spot × Counted) (es tail : Spots) → P v → Each P (e ∷ es) → Each P tail
    → Each P (match_ordering o ((k, v) ∷ e ∷ es) ((e.0, v) ∷ es) (e ∷ tail))
each_by P Less k v e es tail p at later = (p, at)
each_by P Equal k v e es tail p at later = (p, at.1)
each_by P Greater k v e es tail p at later = (at.0, later)

-- what holds of the value and of the others holds after it was put
pub each_put : (P : Counted → Type 0) (k : Spot) (v : Counted) (es : Spots) → P v → Each P es → Each P (insert_entry by_spot es k v)
each_put P k v [] p at = (p, tt)
each_put P k v (e ∷ es) p at = each_by P (by_spot k e.0) k v e es (insert_entry by_spot es k v) p at (each_put P k v es p at.1)

-- look-ups by event and zone

zone_by : (o : Ordering) (z y : Place) → by_place z y ≡ o → is_eq o ≡ same_zone y z
zone_by Equal z y h = let e = by_place_ties z y h in sym (subst (λ (x : Place). same_zone x z ≡ true) e (zone_itself z))
zone_by Less z y h = sym (false_from_ne_true _ (λ g. let e = zone_one y z g in let f : Less ≡ Equal = sym h ∙ ap (by_place z) e ∙ tied_itself by_place_total z in cc))
zone_by Greater z y h = sym (false_from_ne_true _ (λ g. let e = zone_one y z g in let f : Greater ≡ Equal = sym h ∙ ap (by_place z) e ∙ tied_itself by_place_total z in cc))

pub event_by : (o : Ordering) (e d : Event) → by_event e d ≡ o → is_eq o ≡ same_event d e
event_by Equal e d h = let i = by_event_ties e d h in sym (subst (λ (x : Event). same_event x e ≡ true) i (event_itself e))
event_by Less e d h = sym (false_from_ne_true _ (λ g. let i = event_one d e g in let f : Less ≡ Equal = sym h ∙ ap (by_event e) i ∙ tied_itself by_event_total e in cc))
event_by Greater e d h = sym (false_from_ne_true _ (λ g. let i = event_one d e g in let f : Greater ≡ Equal = sym h ∙ ap (by_event e) i ∙ tied_itself by_event_total e in cc))

and_false : (b : Bool) → (b && false) ≡ false
and_false true = refl
and_false false = refl

and_true : (b : Bool) → (b && true) ≡ b
and_true true = refl
and_true false = refl

tied_both : (o p : Ordering) → is_eq (ordering_then o p) ≡ (is_eq p && is_eq o)
tied_both Less p = sym (and_false (is_eq p))
tied_both Greater p = sym (and_false (is_eq p))
tied_both Equal p = sym (and_true (is_eq p))

spot_tied : (e : Event) (z : Place) (r : Row) → is_at (by_spot (spot_at e z)) (spot_of r) ≡ at_key e z r
spot_tied e z r =
    let event_is = event_by (by_event e r.event) e r.event refl in
    let zone_is = zone_by (by_place z r.zone) z r.zone refl in
    tied_both (by_place z r.zone) (by_event e r.event) ∙ (λ i. event_is i && zone_is i)

found_by : (b c : Bool) (v : Counted) (o : Option Counted) (p : Option Row) → b ≡ c → option_map (λ (c : Counted). c.row) o ≡ p → option_map (λ (c : Counted). c.row) (cond b (Some v) o) ≡ cond c (Some v.row) p
found_by true true v o p h later = refl
found_by false false v o p h later = later
found_by _ _ v o p h later = cc

-- what is counted at a spot is of the row there
pub row_found : (es : Spots) → AreSpotted es → (e : Event) (z : Place) → option_map (λ (c : Counted). c.row) (lookup (is_at (by_spot (spot_at e z))) es) ≡ row_at (rows_in es) e z
row_found [] at e z = refl
row_found (x ∷ es) at e z =
    found_by (is_at (by_spot (spot_at e z)) x.0) (at_key e z x.1.row) x.1 (lookup (is_at (by_spot (spot_at e z))) es) (row_at (rows_in es) e z)
    (ap (is_at (by_spot (spot_at e z))) at.0 ∙ spot_tied e z x.1.row) (row_found es at.1 e z)

-- what holds of each holds of what is found
abbrev pub OfFound : (Counted → Type 0) → Option Counted → Type 0
OfFound P None = Unit {0}
OfFound P (Some c) = P c

of_found_by : (P : Counted → Type 0) (b : Bool) (v : Counted) (o : Option Counted) → P v → OfFound P o → OfFound P (cond b (Some v) o)
of_found_by P true v o p more = p
of_found_by P false v o p more = more

pub of_found : (P : Counted → Type 0) (q : Spot → Bool) (es : Spots) → Each P es → OfFound P (lookup q es)
of_found P q [] at = tt
of_found P q (e ∷ es) at = of_found_by P (q e.0) e.1 (lookup q es) at.0 (of_found P q es at.1)

-- rows in order are each found at their own event and zone

found_itself : (r : Row) (rows : List Row) → row_at (r ∷ rows) r.event r.zone ≡ Some r
found_itself r rows = rw (event_itself r.event, zone_itself r.zone) refl

found_behind : (q r : Row) (rows : List Row) → by_key q r ≡ Less → row_at rows r.event r.zone ≡ Some r → row_at (q ∷ rows) r.event r.zone ≡ Some r
found_behind q r rows less found =
    let apart : at_key r.event r.zone q ≡ false = false_from_ne_true _ (λ h.
    let p = at_key-parts r.event r.zone q h in
    let tied : by_key q r ≡ Equal = rw (p.1, p.0) (ap (λ (o : Ordering). o) (tied_itself by_key-total r)) in
    let f : Less ≡ Equal = sym less ∙ tied in cc) in
    rw apart found

abbrev pub Own : List Row → List Row → Type 0
Own all rows = AllByRecursion (λ (r : Row). row_at all r.event r.zone ≡ Some r) rows

own_behind : (q : Row) (all rows : List Row) → AllByRecursion (λ y. by_key q y ≡ Less) rows → Own all rows → Own (q ∷ all) rows
own_behind q all [] above own = tt
own_behind q all (r ∷ rows) above own = (found_behind q r all above.0 own.0, own_behind q all rows above.1 own.1)

pub own_rows : (rows : List Row) → IsStrictlySortedBy by_key rows → Own rows rows
unfolding IsStrictlySortedBy
own_rows [] up = tt
own_rows (r ∷ rows) up = (found_itself r rows, own_behind r rows rows up.0 (own_rows rows up.1))
