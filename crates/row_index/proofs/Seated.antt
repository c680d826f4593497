-- Rows at their seats: where a row is put, and those from the front of a zone to its back.
use Rattle.std.proofs.Common.{◌≡◌, ◌∙◌, ℕ, zero, suc, drop, drop-cons, arith, ◌<◌, ◌+◌, get_or, length, take, List, [], ◌∷◌, ◌++◌, ◌&&◌, ◌||◌, not, Bool, true, false, cond, Option, Some, Ordering, Less, Equal, Greater, refl, ap, sym, subst}
use Rattle.std.proofs.lemmas.Bool.{false_from_ne_true}
use Rattle.std.proofs.lemmas.Cmp.{tied_itself}
use Rattle.std.proofs.lemmas.List.Folds.{list_any-append}
use Rattle.std.proofs.lemmas.Map.Lookups.{exact_pairs}
use Rattle.std.specs.BTreeMap.{insert_entry, is_at}
use Rattle.std.specs.Cmp.{IsTotalOrder}
use Rattle.std.specs.BTreeMap.Range.{entries_between, range_contains, IsLeBy}
use Rattle.std.specs.List.{filter, list_any}
use Rattle.std.specs.Map.{lookup, values_of}
use Rattle.std.specs.Ordering.{match_ordering, ordering_then, is_eq, is_le, is_gt}
use Rattle.std.specs.declared.ops.Bound.TheVariants.{Included, Excluded}
use Rattle.hazard_types.specs.Places.{Place, by_place}
use Rattle.hazard_types.specs.Same.{same_zone, same_event}
use Rattle.hazard_types.specs.declared.hazard.Event.{Event}
use Rattle.hazard_types.specs.declared.line.Line.{Line}
use Rattle.hazard_types.specs.declared.line.Row.{Row}
use Rattle.hazard_types.proofs.Equality.{zone_one, zone_itself, event_one, event_itself}
use Rattle.hazard_types.proofs.OrderLaws.{by_place_total, by_place_ties, by_event_total, by_event_ties}
use Rattle.hazard_types.specs.Orders.{by_event}
use Rattle.event_life.specs.Products.{by_key, placed, put, row_at, concerns, is_second}
use Rattle.event_life.proofs.Keys.{key_exact}
use Rattle.event_life.proofs.Puts.{at_key}
use Rattle.row_index.specs.declared.seats.Seat.{Seat}
use Rattle.row_index.specs.declared.seats.Spot.{Spot}
use Rattle.row_index.specs.declared.seats.Spot.TheVariants.{Front, At, Back}
use Rattle.row_index.specs.contracts.seats.SpotOrd.TheImpl as spot
use Rattle.row_index.specs.contracts.seats.SeatOrd.TheImpl.Laws as seat_laws
use Rattle.row_index.specs.Numbers.{is_in_zone}
use Rattle.row_index.specs.Seating.{by_seat, seat_at, seat_of, AreSeated, key_of_line, seats_with, speaks}
use Rattle.row_index.specs.Telling.{Tells}
use Rattle.row_index.proofs.Tests.{and_false, any_insert, any_same}

abbrev Seats : Type 0
Seats = List (Seat × Row)

-- rows stand by their seats

seats_by_key : (a b : Row) → by_seat (seat_of a) (seat_of b) ≡ by_key a b
seats_by_key a b = refl

-- a row put at its seat

values_by : (o : Ordering) (row : Row) (e : Seat × Row) (es tail : Seats) → values_of tail ≡ put row (values_of es)
    → values_of (match_ordering o ((seat_of row, row) ∷ e ∷ es) ((e.0, row) ∷ es) (e ∷ tail)) ≡ placed o row e.1 (values_of es) (put row (values_of es))
values_by Less row e es tail later = refl
values_by Equal row e es tail later = refl
values_by Greater row e es tail later = ap (λ (rows : List Row). e.1 ∷ rows) later

pub values-put : (row : Row) (es : Seats) → AreSeated es → values_of (insert_entry by_seat es (seat_of row) row) ≡ put row (values_of es)
values-put row [] at = refl
values-put row (e ∷ es) at =
    values_by (by_seat (seat_of row) e.0) row e es (insert_entry by_seat es (seat_of row) row) (values-put row es at.1)
    ∙ ap (λ (o : Ordering). placed o row e.1 (values_of es) (put row (values_of es))) (ap (by_seat (seat_of row)) at.0 ∙ seats_by_key row e.1)

seat_one : (row r : Row) → by_key row r ≡ Equal → seat_of r ≡ seat_of row
seat_one row r h =
    let p = key_exact row r h in
    let zone_is = p.0 in
    let event_is = p.1 in
    sym (λ i. seat_of (record { event = event_is i; zone = zone_is i; period = row.period; flood = row.flood; ended = row.ended }))

seated_by : (o : Ordering) (row : Row) (e : Seat × Row) (es tail : Seats) → by_key row e.1 ≡ o → AreSeated (e ∷ es) → AreSeated tail
    → AreSeated (match_ordering o ((seat_of row, row) ∷ e ∷ es) ((e.0, row) ∷ es) (e ∷ tail))
seated_by Less row e es tail h at later = (refl, at)
seated_by Equal row e es tail h at later = (at.0 ∙ seat_one row e.1 h, at.1)
seated_by Greater row e es tail h at later = (at.0, later)

pub seated-put : (row : Row) (es : Seats) → AreSeated es → AreSeated (insert_entry by_seat es (seat_of row) row)
seated-put row [] at = (refl, at)
seated-put row (e ∷ es) at =
    seated_by (by_seat (seat_of row) e.0) row e es (insert_entry by_seat es (seat_of row) row)
    (sym (seats_by_key row e.1) ∙ sym (ap (by_seat (seat_of row)) at.0)) at (seated-put row es at.1)

-- from the front of a zone to its back

abbrev pub front : Place → Seat
front z = record { zone = z; spot = Front }

abbrev pub back : Place → Seat
back z = record { zone = z; spot = Back }

pub front_first : (z : Place) → IsLeBy by_seat (front z) (back z)
front_first z = ap (λ (o : Ordering). is_gt (ordering_then o Less)) (tied_itself by_place_total z)

within_by : (o : Ordering) → (is_le (ordering_then o Less) && not (is_le (ordering_then o Greater))) ≡ is_eq o
within_by Less = refl
within_by Equal = refl
within_by Greater = refl

pub same_by : (o : Ordering) (z y : Place) → by_place z y ≡ o → is_eq o ≡ same_zone y z
same_by Equal z y h = let e = by_place_ties z y h in sym (subst (λ (x : Place). same_zone x z ≡ true) e (zone_itself z))
same_by Less z y h = sym (false_from_ne_true _ (λ g. let e = zone_one y z g in let f : Less ≡ Equal = sym h ∙ ap (by_place z) e ∙ tied_itself by_place_total z in cc))
same_by Greater z y h = sym (false_from_ne_true _ (λ g. let e = zone_one y z g in let f : Greater ≡ Equal = sym h ∙ ap (by_place z) e ∙ tied_itself by_place_total z in cc))

within_zone : (z : Place) (e : Seat × Row) → e.0 ≡ seat_of e.1 → range_contains by_seat (Included (front z)) (Excluded (back z)) e.0 ≡ is_in_zone z e.1
within_zone z e at =
    ap (range_contains by_seat (Included (front z)) (Excluded (back z))) at
    ∙ within_by (by_place z e.1.zone) ∙ same_by (by_place z e.1.zone) z e.1.zone refl

between_by : (b c : Bool) (e : Seat × Row) (es : Seats) (rows : List Row) → b ≡ c → values_of es ≡ rows → values_of (cond b (e ∷ es) es) ≡ cond c (e.1 ∷ rows) rows
between_by true true e es rows h later = ap (λ (tail : List Row). e.1 ∷ tail) later
between_by false false e es rows h later = later
between_by _ _ e es rows h later = cc

pub between-in : (z : Place) (es : Seats) → AreSeated es → values_of (entries_between by_seat (Included (front z)) (Excluded (back z)) es) ≡ filter (is_in_zone z) (values_of es)
between-in z [] at = refl
between-in z (e ∷ es) at =
    between_by (range_contains by_seat (Included (front z)) (Excluded (back z)) e.0) (is_in_zone z e.1) e
    (entries_between by_seat (Included (front z)) (Excluded (back z)) es) (filter (is_in_zone z) (values_of es)) (within_zone z e at.0) (between-in z es at.1)

-- look-ups by event and zone

pub event_by : (o : Ordering) (e d : Event) → by_event e d ≡ o → is_eq o ≡ same_event d e
event_by Equal e d h = let i = by_event_ties e d h in sym (subst (λ (x : Event). same_event x e ≡ true) i (event_itself e))
event_by Less e d h = sym (false_from_ne_true _ (λ g. let i = event_one d e g in let f : Less ≡ Equal = sym h ∙ ap (by_event e) i ∙ tied_itself by_event_total e in cc))
event_by Greater e d h = sym (false_from_ne_true _ (λ g. let i = event_one d e g in let f : Greater ≡ Equal = sym h ∙ ap (by_event e) i ∙ tied_itself by_event_total e in cc))

tied_both : (o p : Ordering) → is_eq (ordering_then o p) ≡ (is_eq p && is_eq o)
tied_both Less p = sym (and_false (is_eq p))
tied_both Greater p = sym (and_false (is_eq p))
tied_both Equal p = both_true (is_eq p)
  where
    both_true : (b : Bool) → b ≡ (b && true)
    both_true true = refl
    both_true false = refl

pub seat_tied : (e d : Event) (z y : Place) → is_at (by_seat (seat_at e z)) (seat_at d y) ≡ (same_event d e && same_zone y z)
seat_tied e d z y =
    let event_is = event_by (by_event e d) e d refl in
    let zone_is = same_by (by_place z y) z y refl in
    tied_both (by_place z y) (by_event e d) ∙ (λ i. event_is i && zone_is i)

found_by : (b c : Bool) (r : Row) (o p : Option Row) → b ≡ c → o ≡ p → cond b (Some r) o ≡ cond c (Some r) p
found_by b c r o p h later = λ i. cond (h i) (Some r) (later i)

pub looked_up : (es : Seats) → AreSeated es → (e : Event) (z : Place) → lookup (is_at (by_seat (seat_at e z))) es ≡ row_at (values_of es) e z
looked_up [] at e z = refl
looked_up (x ∷ es) at e z =
    found_by (is_at (by_seat (seat_at e z)) x.0) (at_key e z x.1) x.1 (lookup (is_at (by_seat (seat_at e z))) es) (row_at (values_of es) e z)
    (ap (is_at (by_seat (seat_at e z))) at.0 ∙ seat_tied e x.1.event z x.1.zone) (looked_up es at.1 e z)

-- seats of lines

pub by_seat_total : IsTotalOrder by_seat
by_seat_total = seat_laws.total-law

pub spot_ties : (a b : Spot) → spot.cmp-value.it a b ≡ Equal → a ≡ b
spot_ties Front Front h = refl
spot_ties Front (At e) h = cc
spot_ties Front Back h = cc
spot_ties (At e) Front h = cc
spot_ties (At e) (At d) h = ap At (by_event_ties e d h)
spot_ties (At e) Back h = cc
spot_ties Back Front h = cc
spot_ties Back (At e) h = cc
spot_ties Back Back h = refl

pub by_seat_ties : (a b : Seat) → by_seat a b ≡ Equal → a ≡ b
by_seat_ties a b h = ap (λ (p : Place × Spot). record { zone = p.0; spot = p.1 }) (exact_pairs by_place spot.cmp-value.it by_place_ties spot_ties (a.zone, a.spot) (b.zone, b.spot) h)

abbrev pub counts_at : (Line → Bool) → (Seat → Bool) → Line → Bool
counts_at counts q line = counts line && q (key_of_line line)

with_by : (b : Bool) (counts : Line → Bool) (q : Seat → Bool) (line : Line) (seats : List Seat) (lines : List Line) → counts line ≡ b → list_any q seats ≡ list_any (counts_at counts q) lines
    → list_any q (seats_with b line seats) ≡ (list_any (counts_at counts q) lines || ((b && q (key_of_line line)) || false))
with_by true counts q line seats lines h tells = any_insert by_seat by_seat_total by_seat_ties q (key_of_line line) seats ∙ ap (λ (b : Bool). q (key_of_line line) || b) tells ∙ turned (q (key_of_line line)) (list_any (counts_at counts q) lines)
  where
    turned : (a b : Bool) → (a || b) ≡ (b || (a || false))
    turned true true = refl
    turned true false = refl
    turned false true = refl
    turned false false = refl
with_by false counts q line seats lines h tells = tells ∙ same (list_any (counts_at counts q) lines)
  where
    same : (a : Bool) → a ≡ (a || false)
    same true = refl
    same false = refl

-- one line more
pub tells_more : (counts : Line → Bool) (line : Line) (seats : List Seat) (lines : List Line) → Tells counts key_of_line seats lines → Tells counts key_of_line (seats_with (counts line) line seats) (lines ++ line ∷ [])
tells_more counts line seats lines tells q =
    with_by (counts line) counts q line seats lines refl (tells q) ∙ sym (list_any-append (counts_at counts q) lines (line ∷ []))

and_assoc : (a b c : Bool) → (a && (b && c)) ≡ ((a && b) && c)
and_assoc true b c = refl
and_assoc false b c = refl

-- a second line's seat is among those of the lines before it
pub second_told : (seats : List Seat) (earlier : List Line) (line : Line) → Tells speaks key_of_line seats earlier → list_any (is_at (by_seat (key_of_line line))) seats ≡ is_second earlier line
second_told seats earlier line tells =
    tells (is_at (by_seat (key_of_line line)))
    ∙ any_same (counts_at speaks (is_at (by_seat (key_of_line line)))) (concerns line.event line.zone) earlier
    (λ l. ap (λ (b : Bool). speaks l && b) (seat_tied line.event l.event line.zone l.zone) ∙ and_assoc (speaks l) (same_event l.event line.event) (same_zone l.zone line.zone))

module _ {X : Type 0} where
  longer_by : (i : ℕ) (xs : List X) (x : X) → i < length xs → x ≡ get_or xs i x → take (suc i) xs ≡ take i xs ++ x ∷ []
  longer_by i [] x within is = absurd (omega (arith, within))
  longer_by zero (y ∷ xs) x within is = ap (λ (z : X). z ∷ []) (sym is)
  longer_by (suc i) (y ∷ xs) x within is = ap (λ (zs : List X). y ∷ zs) (longer_by i xs x (omega (arith, within)) is)

  pub one_longer : (xs : List X) (i : ℕ) (x : X) → i < length xs → x ≡ get_or xs i x → take (i + 1) xs ≡ take i xs ++ x ∷ []
  one_longer xs i x within is =
      let next : i + 1 ≡ suc i = omega arith in
      ap (λ (k : ℕ). take k xs) next ∙ longer_by i xs x within is

-- what is left from a line on
pub cut_at : (lines : List Line) (i : ℕ) (line : Line) → i < length lines → line ≡ get_or lines i line → drop i lines ≡ line ∷ drop (i + 1) lines
cut_at lines i line within is =
    let next : suc i ≡ i + 1 = omega arith in
    drop-cons lines i line within ∙ ap (λ (x : Line). x ∷ drop (suc i) lines) (sym is) ∙ ap (λ (k : ℕ). line ∷ drop k lines) next

-- one line more of a list
pub tells_next : (counts : Line → Bool) (seats next : List Seat) (lines : List Line) (i : ℕ) (line : Line) (counted : Bool) → i < length lines → line ≡ get_or lines i line → counted ≡ counts line → next ≡ seats_with counted line seats
    → Tells counts key_of_line seats (take i lines) → Tells counts key_of_line next (take (i + 1) lines)
tells_next counts seats next lines i line counted lt is counted_is next_is tells =
    subst (λ (all : List Line). Tells counts key_of_line next all) (sym (one_longer lines i line lt is))
    (subst (λ (all : List Seat). Tells counts key_of_line all (take i lines ++ line ∷ [])) (sym (next_is ∙ ap (λ (b : Bool). seats_with b line seats) counted_is)) (tells_more counts line seats (take i lines) tells))
