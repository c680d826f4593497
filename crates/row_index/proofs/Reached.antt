-- How far the rows of each event reach in each area, where rows of one are put, and the events that are found by it.
use Rattle.std.proofs.Common.{◌≡◌, ◌∙◌, ◌++◌, ◌<◌, ◌+◌, inl, inr, ℕ, zero, suc, get_or, length, take, List, [], ◌∷◌, ◌&&◌, ◌||◌, ◌==◌, not, Bool, true, false, cond, Ordering, Less, Equal, Greater, Option, Some, None, Result, Ok, Err, OnOk, refl, ap, sym, subst, arith}
use Rattle.std.proofs.lemmas.Map.Lookups.{exact_pairs}
use Rattle.std.specs.Prelude.{nat_le, is_none}
use Rattle.std.proofs.lemmas.Bool.{and_parts}
use Rattle.std.proofs.lemmas.Bool.Decides.{nat_tests}
use Rattle.std.specs.BTreeMap.{insert_entry, is_at}
use Rattle.std.specs.BTreeSet.{insert_key}
use Rattle.std.specs.Cmp.{IsTotalOrder}
use Rattle.std.specs.List.{filter, list_any}
use Rattle.std.specs.Ordering.{ordering_then, is_eq, is_gt, is_le, is_lt, nat_cmp}
use Rattle.hazard_types.specs.Orders.{by_event}
use Rattle.hazard_types.specs.Places.{Place, by_place}
use Rattle.hazard_types.specs.declared.codes.Family.{Family}
use Rattle.hazard_types.specs.declared.hazard.Event.{Event}
use Rattle.hazard_types.specs.declared.line.Row.{Row}
use Rattle.hazard_types.specs.declared.period.End.{End}
use Rattle.hazard_types.specs.declared.period.End.TheVariants as end
use Rattle.std.proofs.lemmas.Cmp.{nat_cmp_total, tied_itself}
use Rattle.hazard_types.proofs.Equality.{event_itself, event_one}
use Rattle.hazard_types.proofs.OrderLaws.{by_end_ties, by_event_total, by_event_ties, by_place_total, by_place_ties, numbers_tied}
use Rattle.event_life.specs.Periods.{ends_after, is_live}
use Rattle.event_life.specs.Products.{put, row_at}
use Rattle.event_life.proofs.Members.{IsIn, any_in, in_any, find_in, of_all}
use Rattle.event_life.proofs.Puts.{at_key, at_key-parts, put-all}
use Rattle.row_index.specs.declared.reach.Reach.{Reach}
use Rattle.row_index.specs.declared.seats.Spot.{Spot}
use Rattle.row_index.specs.declared.seats.Spot.TheVariants.{Front, At, Back}
use Rattle.row_index.specs.contracts.reach.ReachOrd.TheImpl.Laws as reach_laws
use Rattle.row_index.specs.contracts.seats.SpotOrd.TheImpl as spot
use Rattle.row_index.specs.Holding.{told, AreHeld}
use Rattle.row_index.specs.Listing.{list_at}
use Rattle.row_index.specs.Reaching.{by_reach, end_cmp, rank_of, area_of, reach_in, is_spot_of, holds, is_reached, AreReached, Reaches, Grows, IsLast, lasts, is_above_any, is_area, with_spot, with_spots, AreaTold, AreTold, Keeps}
use Rattle.event_life.specs.declared.life.Life.{Life}
use Rattle.row_index.specs.Runs.{rows_along}
use Rattle.row_index.specs.Sharing.{row_with}
use Rattle.row_index.specs.Steps.{add_each}
use Rattle.row_index.proofs.HeldRows.{held-found}
use Rattle.row_index.proofs.Lists.{at_each, each_put}
use Rattle.row_index.proofs.Seated.{spot_ties}
use Rattle.row_index.proofs.Tests.{any_insert, at_one, at_own}

by_reach_total : IsTotalOrder by_reach
by_reach_total = reach_laws.total-law

by_reach_ties : (a b : Reach) → by_reach a b ≡ Equal → a ≡ b
by_reach_ties a b h =
    ap (λ (p : ℕ × (End × Spot)). record { area = p.0; end = p.1.0; spot = p.1.1 })
    (exact_pairs nat_cmp _ numbers_tied (exact_pairs end_cmp spot.cmp-value.it by_end_ties spot_ties) (a.area, (a.end, a.spot)) (b.area, (b.end, b.spot)) h)

-- one of two

pub first_one : (a b : Bool) → a ≡ true → (a || b) ≡ true
first_one true b h = refl
first_one false b h = cc

pub second_one : (a b : Bool) → b ≡ true → (a || b) ≡ true
second_one true b h = refl
second_one false b h = h

or_kept : (a b c : Bool) → (b ≡ true → c ≡ true) → (a || b) ≡ true → (a || c) ≡ true
or_kept true b c up h = refl
or_kept false b c up h = up h

left_of : (a b c : Bool) → a ≡ false → b ≡ false → ((a || b) || c) ≡ true → c ≡ true
left_of true b c h g all = cc
left_of false true c h g all = cc
left_of false false c h g all = all

of_not : (b : Bool) → not b ≡ true → b ≡ false
of_not true h = cc
of_not false h = refl

-- ends

not_lt : (a b : ℕ) → is_lt (nat_cmp a b) ≡ not (nat_le b a)
not_lt a b = grind (arith, nat_tests)

not_behind : (e : End) → is_lt (end_cmp e e) ≡ false
not_behind (end.At n) = ap (λ (o : Ordering). is_lt o) (tied_itself nat_cmp_total n)
not_behind end.Ufn = refl

one_number : (a b : ℕ) → (a == b) ≡ true → a ≡ b
one_number a b h = grind (arith, nat_tests)

number_itself : (a : ℕ) → (a == a) ≡ true
number_itself a = grind (arith, nat_tests)

tied_to : (o : Ordering) → is_eq o ≡ true → o ≡ Equal
tied_to Less h = cc
tied_to Equal h = refl
tied_to Greater h = cc

-- keys are added

added : (k : Reach) (keys new : List Reach) → new ≡ insert_key by_reach keys k → (r : Row) → list_any (holds r) new ≡ (holds r k || list_any (holds r) keys)
added k keys new is r = ap (λ (ks : List Reach). list_any (holds r) ks) is ∙ any_insert by_reach by_reach_total by_reach_ties (holds r) k keys

pub added-grows : (k : Reach) (keys new : List Reach) → new ≡ insert_key by_reach keys k → Grows keys new
added-grows k keys new is = λ r h. added k keys new is r ∙ second_one (holds r k) _ h

-- the key that was added last
pub added-last : (k : Reach) (keys new : List Reach) → new ≡ insert_key by_reach keys k → (r : Row) → holds r k ≡ true → list_any (holds r) new ≡ true
added-last k keys new is = λ r h. added k keys new is r ∙ first_one (holds r k) _ h

holds-own : (e : Event) (z : Place) (l : Life) → holds (row_with e z l) (reach_in e l (area_of z)) ≡ true
holds-own e z l = rw (number_itself (area_of z), event_itself e, not_behind l.period.end) refl

by_holding : (keys : List Reach) (r : Row) → list_any (holds r) keys ≡ true → is_reached keys r ≡ true
by_holding keys r h = second_one (r.ended || is_none (rank_of r.event)) _ h

pub added-reaches : (e : Event) (z : Place) (l : Life) (area : ℕ) (keys new : List Reach) → area ≡ area_of z → new ≡ insert_key by_reach keys (reach_in e l area) → is_reached new (row_with e z l) ≡ true
added-reaches e z l area keys new own is =
    by_holding new (row_with e z l) (added-last (reach_in e l area) keys new is (row_with e z l)
    (subst (λ (a : ℕ). holds (row_with e z l) (reach_in e l a) ≡ true) (sym own) (holds-own e z l)))

-- a row in the area that was last
pub last-reaches : (last : Option ℕ) (e : Event) (z : Place) (l : Life) (area : ℕ) (keys : List Reach) → area ≡ area_of z → IsLast e l last keys → is_area last area ≡ true → is_reached keys (row_with e z l) ≡ true
last-reaches None e z l area keys own is h = cc
last-reaches (Some other) e z l area keys own is h =
    let same : other ≡ area_of z = one_number other area h ∙ own in
    by_holding keys (row_with e z l) (is (row_with e z l) (subst (λ (a : ℕ). holds (row_with e z l) (reach_in e l a) ≡ true) (sym same) (holds-own e z l)))

-- rows that are reached whatever the keys are
pub idle-reached : (e : Event) (l : Life) (keys : List Reach) (zones : List Place) → (l.ended || is_none (rank_of e)) ≡ true → AreReached keys (rows_along e l zones)
idle-reached e l keys [] h = tt
idle-reached e l keys (z ∷ zones) h = (first_one (l.ended || is_none (rank_of e)) _ h, idle-reached e l keys zones h)

-- one row more
reached_last : (keys : List Reach) (rows : List Row) (row : Row) → AreReached keys rows → is_reached keys row ≡ true → AreReached keys (rows ++ row ∷ [])
reached_last keys [] row all own = (own, tt)
reached_last keys (r ∷ rows) row all own = (all.0, reached_last keys rows row all.1 own)

pub along_last : (e : Event) (l : Life) (zones : List Place) (z : Place) → rows_along e l (zones ++ z ∷ []) ≡ rows_along e l zones ++ row_with e z l ∷ []
along_last e l [] z = refl
along_last e l (x ∷ zones) z = ap (λ (rows : List Row). row_with e x l ∷ rows) (along_last e l zones z)

one_longer : (zones : List Place) (i : ℕ) (z : Place) → i < length zones → z ≡ get_or zones i z → take (suc i) zones ≡ take i zones ++ z ∷ []
one_longer [] i z lt is = absurd (omega arith)
one_longer (x ∷ zones) zero z lt is = ap (λ (y : Place). y ∷ []) (sym is)
one_longer (x ∷ zones) (suc i) z lt is = ap (λ (zs : List Place). x ∷ zs) (one_longer zones i z (omega arith) is)

pub reached-more : (old new : List Reach) → Grows old new → (rows : List Row) → AreReached old rows → AreReached new rows
reached-more old new grows [] all = tt
reached-more old new grows (r ∷ rows) all = (or_kept (r.ended || is_none (rank_of r.event)) (list_any (holds r) old) (list_any (holds r) new) (grows r) all.0, reached-more old new grows rows all.1)

pub reaches-more : (old new : List Reach) → Grows old new → (es : List (Event × List Row)) → Reaches old es → Reaches new es
reaches-more old new grows [] all = tt
reaches-more old new grows (e ∷ es) all = (reached-more old new grows e.1 all.0, reaches-more old new grows es all.1)

-- rows of an event are put
pub reaches-put : (e : Event) (rows : List Row) (es : List (Event × List Row)) (old new : List Reach) → Grows old new → AreReached new rows → Reaches old es → Reaches new (insert_entry by_event es e rows)
reaches-put e rows es old new grows reached all = each_put by_event by_event_total by_event_ties (λ (d : Event) (part : List Row). AreReached new part) e es rows reached (reaches-more old new grows es all)

pub reached-at : (e : Event) (es : List (Event × List Row)) (keys : List Reach) → Reaches keys es → AreReached keys (list_at by_event es e)
reached-at e es keys all = at_each by_event by_event_total by_event_ties (λ (d : Event) (part : List Row). AreReached keys part) e es all tt

-- rows are put, and reached
reached_each : (keys : List Reach) (rows known : List Row) → AreReached keys rows → AreReached keys known → AreReached keys (add_each rows known)
reached_each keys [] known all sofar = sofar
reached_each keys (r ∷ rows) known all sofar = reached_each keys rows (put r known) all.1 (put-all (λ (y : Row). is_reached keys y ≡ true) r known all.0 sofar)

pub reached-put : (keys new : List Reach) (rows known : List Row) → Grows keys new → AreReached new rows → AreReached keys known → AreReached new (add_each rows known)
reached-put keys new rows known grows own all = reached_each new rows known own (reached-more keys new grows known all)

-- one zone more of a run
pub reached-next : (e : Event) (l : Life) (zones : List Place) (i : ℕ) (z : Place) (keys new : List Reach) → i < length zones → z ≡ get_or zones i z → Grows keys new → is_reached new (row_with e z l) ≡ true
    → AreReached keys (rows_along e l (take i zones)) → AreReached new (rows_along e l (take (i + 1) zones))
reached-next e l zones i z keys new lt is grows own sofar =
    let next : suc i ≡ i + 1 = omega arith in
    subst (λ (rows : List Row). AreReached new rows)
    (sym (along_last e l (take i zones) z) ∙ ap (λ (zs : List Place). rows_along e l zs) (sym (one_longer zones i z lt is) ∙ ap (λ (k : ℕ). take k zones) next))
    (reached_last new (rows_along e l (take i zones)) (row_with e z l) (reached-more keys new grows (rows_along e l (take i zones)) sofar) own)

-- the events of keys

event_kept : (b : Bool) (e d : Event) (events : List Event) → list_any (is_at (by_event e)) events ≡ true → list_any (is_at (by_event e)) (cond b (insert_key by_event events d) events) ≡ true
event_kept true e d events h = any_insert by_event by_event_total by_event_ties (is_at (by_event e)) d events ∙ second_one (is_at (by_event e) d) _ h
event_kept false e d events h = h

spot_kept : (ranks : List (Option (Family × ℕ))) (s : Spot) (e : Event) (events : List Event) → list_any (is_at (by_event e)) events ≡ true → list_any (is_at (by_event e)) (with_spot ranks s events) ≡ true
spot_kept ranks Front e events h = h
spot_kept ranks (At d) e events h = event_kept (is_above_any ranks d) e d events h
spot_kept ranks Back e events h = h

spots_kept : (ranks : List (Option (Family × ℕ))) (ks : List Reach) (e : Event) (events : List Event) → list_any (is_at (by_event e)) events ≡ true → list_any (is_at (by_event e)) (with_spots ranks events ks) ≡ true
spots_kept ranks [] e events h = h
spots_kept ranks (k ∷ ks) e events h = spots_kept ranks ks e (with_spot ranks k.spot events) (spot_kept ranks k.spot e events h)

spot_added : (ranks : List (Option (Family × ℕ))) (s : Spot) (e : Event) (events : List Event) → is_above_any ranks e ≡ true → is_spot_of e s ≡ true → list_any (is_at (by_event e)) (with_spot ranks s events) ≡ true
spot_added ranks Front e events above h = cc
spot_added ranks (At d) e events above h =
    subst (λ (x : Event). list_any (is_at (by_event e)) (cond (is_above_any ranks x) (insert_key by_event events x) events) ≡ true) (sym (event_one d e h))
    (rw above (any_insert by_event by_event_total by_event_ties (is_at (by_event e)) e events ∙ first_one _ _ (at_own by_event by_event_total by_event_ties e)))
spot_added ranks Back e events above h = cc

-- each event above one of the ranks that a key is of is among them
pub spots-told : (ranks : List (Option (Family × ℕ))) (ks : List Reach) (e : Event) (events : List Event) → is_above_any ranks e ≡ true → (k : Reach) → IsIn k ks → is_spot_of e k.spot ≡ true → list_any (is_at (by_event e)) (with_spots ranks events ks) ≡ true
spots-told ranks [] e events above k there h = absurd there
spots-told ranks (x ∷ ks) e events above k (inl is) h =
    spots_kept ranks ks e (with_spot ranks x.spot events) (spot_added ranks x.spot e events above (subst (λ (y : Reach). is_spot_of e y.spot ≡ true) (sym is) h))
spots-told ranks (x ∷ ks) e events above k (inr there) h = spots-told ranks ks e (with_spot ranks x.spot events) above k there h

in_filtered : (q : Reach → Bool) (ks : List Reach) (k : Reach) → IsIn k ks → q k ≡ true → IsIn k (filter q ks)
in_filtered q [] k there h = there
in_filtered q (x ∷ ks) k (inl is) h = first (q x) (subst (λ (y : Reach). q y ≡ true) (sym is) h)
  where
    first : (b : Bool) → b ≡ true → IsIn k (cond b (x ∷ filter q ks) (filter q ks))
    first true g = inl is
    first false g = cc
in_filtered q (x ∷ ks) k (inr there) h = later (q x) (in_filtered q ks k there h)
  where
    later : (b : Bool) → IsIn k (filter q ks) → IsIn k (cond b (x ∷ filter q ks) (filter q ks))
    later true g = inr g
    later false g = g

-- a live row's event is among those that are found

le_less : (o : Ordering) → is_le (ordering_then o Less) ≡ is_le o
le_less Less = refl
le_less Equal = refl
le_less Greater = refl

le_equal : (o : Ordering) → is_le (ordering_then o Equal) ≡ is_le o
le_equal Less = refl
le_equal Equal = refl
le_equal Greater = refl

le_is : (a b : ℕ) → is_le (nat_cmp a b) ≡ nat_le a b
le_is a b = grind (arith, nat_tests)

from_at : (t m n : ℕ) → ends_after (end.At m) t ≡ true → not (nat_le m n) ≡ false → nat_le t n ≡ true
from_at t m n h g = grind (arith, nat_tests)

from_end : (t : ℕ) (a b : End) → ends_after a t ≡ true → is_lt (end_cmp b a) ≡ false → is_le (end_cmp (end.At t) b) ≡ true
from_end t (end.At m) (end.At n) h g = le_is t n ∙ from_at t m n h (sym (not_lt n m) ∙ g)
from_end t a end.Ufn h g = refl
from_end t end.Ufn (end.At n) h g = cc

spot_front : (s : Spot) (d : Event) (o : Ordering) → is_spot_of d s ≡ true → is_le o ≡ true → is_le (ordering_then o (spot.cmp-value.it Front s)) ≡ true
spot_front Front d o h le = cc
spot_front (At e) d o h le = le_less o ∙ le
spot_front Back d o h le = cc

spot_back : (s : Spot) (d : Event) (a : End) → is_spot_of d s ≡ true → is_le (ordering_then (end_cmp end.Ufn a) (spot.cmp-value.it Back s)) ≡ false
spot_back Front d a h = cc
spot_back (At e) d (end.At n) h = refl
spot_back (At e) d end.Ufn h = refl
spot_back Back d a h = cc

between_by : (o x y : Ordering) → o ≡ Equal → is_le x ≡ true → is_le y ≡ false → (is_le (ordering_then o x) && not (is_le (ordering_then o y))) ≡ true
between_by Less x y h f g = cc
between_by Equal x y h f g = rw (f, g) refl
between_by Greater x y h f g = cc

-- the first place of an area's keys is not behind the last
pub area-forward : (area : ℕ) → is_gt (ordering_then (nat_cmp area area) Less) ≡ false
area-forward area = ap (λ (o : Ordering). is_gt (ordering_then o Less)) (tied_itself nat_cmp_total area)

-- the key that holds a row is of its event
held-spot : (r : Row) (k : Reach) → holds r k ≡ true → is_spot_of r.event k.spot ≡ true
held-spot r k h =
    let p = and_parts (area_of r.zone == k.area) _ h in
    (and_parts (is_spot_of r.event k.spot) _ p.1).0

-- the key that holds a live row lasts
held-lasts : (t : ℕ) (r : Row) (k : Reach) → is_live t r ≡ true → holds r k ≡ true → lasts (area_of r.zone) t k ≡ true
held-lasts t r k live h =
    let p = and_parts (area_of r.zone == k.area) _ h in
    let q = and_parts (is_spot_of r.event k.spot) _ p.1 in
    let l = and_parts (not r.ended) _ live in
    let le = from_end t r.period.end k.end l.1 (of_not _ q.1) in
    let tied : nat_cmp (area_of r.zone) k.area ≡ Equal = ap (nat_cmp (area_of r.zone)) (sym (one_number (area_of r.zone) k.area p.0)) ∙ tied_itself nat_cmp_total (area_of r.zone) in
    between_by (nat_cmp (area_of r.zone) k.area) _ _ tied (spot_front k.spot r.event (end_cmp (end.At t) k.end) q.0 le) (spot_back k.spot r.event k.end q.0)

-- the events of an area

pub area-told : {E : Type 0} (keys : List Reach) (t : ℕ) (ranks : List (Option (Family × ℕ))) (area : ℕ) (events new : List Event) (result : Result (Unit {0}) E)
    → OnOk result (new ≡ with_spots ranks events (filter (lasts area t) keys)) → OnOk result (AreaTold keys t ranks new (Some area))
area-told keys t ranks area events new (Ok u) is = λ e k there last spot above.
    let own = any_in (is_at (by_reach k)) keys there in
    let inside : IsIn k keys = subst (λ (x : Reach). IsIn x keys) (sym (at_one by_reach by_reach_total by_reach_ties k own.0 own.2)) own.1 in
    subst (λ (es : List Event). list_any (is_at (by_event e)) es ≡ true) (sym is) (spots-told ranks (filter (lasts area t) keys) e events above k (in_filtered (lasts area t) keys k inside last) spot)
area-told keys t ranks area events new (Err x) is = tt

pub area-keeps : {E : Type 0} (ranks : List (Option (Family × ℕ))) (ks : List Reach) (events new : List Event) (result : Result (Unit {0}) E) → OnOk result (new ≡ with_spots ranks events ks) → OnOk result (Keeps events new)
area-keeps ranks ks events new (Ok u) is = λ e h. subst (λ (es : List Event). list_any (is_at (by_event e)) es ≡ true) (sym is) (spots_kept ranks ks e events h)
area-keeps ranks ks events new (Err x) is = tt

-- the area whose events were added last
pub last-told : (keys : List Reach) (t : ℕ) (ranks : List (Option (Family × ℕ))) (area : ℕ) (events : List Event) (last : Option ℕ) → AreaTold keys t ranks events last → is_area last area ≡ true → AreaTold keys t ranks events (Some area)
last-told keys t ranks area events None told h = cc
last-told keys t ranks area events (Some other) told h = subst (λ (a : ℕ). AreaTold keys t ranks events (Some a)) (one_number other area h) told

-- the events of the areas of zones, of which some are left
abbrev pub IsTelling : List Reach → List Place → List Place → ℕ → List (Option (Family × ℕ)) → List Event → Type 0
IsTelling keys zones left t ranks events = (z : Place) → list_any (is_at (by_place z)) zones ≡ true → list_any (is_at (by_place z)) left ≡ false → AreaTold keys t ranks events (Some (area_of z))

module _ (keys : List Reach) (zones : List Place) (t : ℕ) (ranks : List (Option (Family × ℕ))) where
  pub telling-begun : (left : List Place) (events : List Event) → left ≡ zones → IsTelling keys zones left t ranks events
  telling-begun left events is = λ z inside none. let both : true ≡ false = sym inside ∙ ap (λ (zs : List Place). list_any (is_at (by_place z)) zs) (sym is) ∙ none in cc

  pub telling-next : (left next : List Place) (zone : Place) (events new : List Event) → left ≡ zone ∷ next → Keeps events new → AreaTold keys t ranks new (Some (area_of zone))
      → IsTelling keys zones left t ranks events → IsTelling keys zones next t ranks new
  telling-next left next zone events new is keeps told sofar = λ z inside none. by_zone z inside none (is_at (by_place z) zone) refl
    where
      by_zone : (z : Place) → list_any (is_at (by_place z)) zones ≡ true → list_any (is_at (by_place z)) next ≡ false → (b : Bool) → is_at (by_place z) zone ≡ b → AreaTold keys t ranks new (Some (area_of z))
      by_zone z inside none true h = subst (λ (y : Place). AreaTold keys t ranks new (Some (area_of y))) (sym (at_one by_place by_place_total by_place_ties z zone h)) told
      by_zone z inside none false h = λ e k there last spot above.
          keeps e (sofar z inside (ap (λ (zs : List Place). list_any (is_at (by_place z)) zs) is ∙ rw (h, none) refl) e k there last spot above)

  pub telling-done : (events : List Event) → IsTelling keys zones [] t ranks events → AreTold keys zones t ranks events
  telling-done events sofar = λ z inside. sofar z inside refl

-- a live row's event is among those that are found
pub found-among : (es : List (Event × List Row)) (keys : List Reach) (zones : List Place) (t : ℕ) (ranks : List (Option (Family × ℕ))) (events : List Event) (e : Event) (z : Place) (r : Row) → AreHeld es → Reaches keys es
    → AreTold keys zones t ranks events → list_any (is_at (by_place z)) zones ≡ true → row_at (told es) e z ≡ Some r → is_live t r ≡ true → is_above_any ranks e ≡ true → is_none (rank_of e) ≡ false → list_any (is_at (by_event e)) events ≡ true
found-among es keys zones t ranks events e z r held reaches all inside found live above rank =
    let part = list_at by_event es e in
    let own = find_in (at_key e z) part r (sym (held-found es held e z) ∙ found) in
    let key = at_key-parts e z r own.1 in
    let reached = of_all (λ (y : Row). is_reached keys y ≡ true) part r (reached-at e es keys reaches) own.0 in
    let ended = of_not r.ended (and_parts (not r.ended) _ live).0 in
    let k = any_in (holds r) keys (left_of r.ended (is_none (rank_of r.event)) (list_any (holds r) keys) ended (ap (λ (d : Event). is_none (rank_of d)) key.0 ∙ rank) reached) in
    let spot : is_spot_of e k.0.spot ≡ true = subst (λ (d : Event). is_spot_of d k.0.spot ≡ true) key.0 (held-spot r k.0 k.2) in
    let there : list_any (is_at (by_reach k.0)) keys ≡ true = in_any (is_at (by_reach k.0)) keys k.0 k.1 (at_own by_reach by_reach_total by_reach_ties k.0) in
    let last : lasts (area_of z) t k.0 ≡ true = subst (λ (y : Place). lasts (area_of y) t k.0 ≡ true) key.1 (held-lasts t r k.0 live k.2) in
    all z inside e k.0 there last spot above
