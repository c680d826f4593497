-- Shelves that are parted, and shelves with more room.
use Rattle.std.proofs.Common.{◌≡◌, ◌≢◌, ◌∙◌, ℕ, zero, suc, ◌+◌, ◌-◌, ◌<◌, ◌≤◌, List, [], ◌∷◌, ◌++◌, Bool, true, false, Ordering, Less, Equal, Greater, refl, sym, ap, subst, cond, length, get_or, take, drop, insert, slice_set, arith, append_assoc, take-append-drop, drop-cons}
use Rattle.std.specs.List.{AllByRecursion, prefix_len}
use Rattle.std.specs.List.Sorted.{IsStrictlySortedBy}
use Rattle.std.specs.Vec.{vec_len, vec_capacity}
use Rattle.hazard_types.specs.Places.{Place, by_place}
use Rattle.hazard_types.specs.declared.line.Row.{Row}
use Rattle.hazard_types.proofs.OrderLaws.{by_place_total}
use Rattle.std.proofs.lemmas.Cmp.{tied_itself}
use Rattle.event_life.specs.Products.{by_key}
use Rattle.hazard_board.specs.Shelves.{on_shelves, by_from, AreBefore, AreFrom, AreWithin, AreShelved, HaveRoom, AreKept, IsCut, IsZoneAt}
use Rattle.hazard_board.specs.declared.shelves.Shelf.{Shelf}
use Rattle.hazard_board.proofs.Places.{zone_never_falls}
use Rattle.hazard_board.proofs.Runs.{Up, up_by}
use Rattle.event_life.proofs.OnceLemmas.{all_joined}
use Rattle.hazard_board.proofs.ShelfLemmas.{turned, all_front, all_back, all_each, all_set, all_at, sorted_front, sorted_back, starts_set}
use Rattle.hazard_board.proofs.ZoneLemmas.{sorted_left}

-- where a zone begins

module _ (p : Ordering → Bool) (keeps : (o q : Ordering) → Up o q → p q ≡ true → p o ≡ true) (z : Place) where
  between : (a b : Place) (o : Ordering) → by_place a b ≡ o → p (by_place a z) ≡ true → p (by_place b z) ≡ false → o ≡ Less
  between a b Less is own other = refl
  between a b Equal is own other = let same : by_place a z ≡ by_place b z = by_place_total.congr a b z is in cc
  between a b Greater is own other =
      let up = up_by by_place_total b a z (by_place b a) refl (λ g. let less = turned a b is in cc) in
      let both = keeps (by_place b z) (by_place a z) up own in
      cc

  -- how many of the rows pass the test
  abbrev pub passing : List Row → ℕ
  passing rows = prefix_len (λ (r : Row). p (by_place r.zone z)) rows

  begins_step : (b : Bool) (r : Row) (rows : List Row) (at : ℕ) (row : Row) → p (by_place r.zone z) ≡ b → suc at ≡ cond b (1 + passing rows) 0 → p (by_place row.zone z) ≡ false →
      (at ≡ passing rows → AreBefore row.zone (take at rows)) → AreBefore row.zone (take (suc at) (r ∷ rows))
  begins_step true r rows at row own is other more = (between r.zone row.zone (by_place r.zone row.zone) refl own other, more (omega (arith, is)))
  begins_step false r rows at row own is other more = absurd (omega (arith, is))

  begins : (rows : List Row) (at : ℕ) (row : Row) → at ≡ passing rows → p (by_place row.zone z) ≡ false → AreBefore row.zone (take at rows)
  begins rows zero row is other = tt
  begins [] (suc at) row is other = tt
  begins (r ∷ rows) (suc at) row is other = begins_step (p (by_place r.zone z)) r rows at row refl is other (λ i. begins rows at row i other)

  past_step : (b : Bool) (r : Row) (rows : List Row) (at : ℕ) (row : Row) → p (by_place r.zone z) ≡ b → at ≡ cond b (1 + passing rows) 0 → row ≡ get_or (r ∷ rows) at row →
      ((i : ℕ) → at ≡ suc i → i ≡ passing rows → p (by_place row.zone z) ≡ false) → p (by_place row.zone z) ≡ false
  past_step true r rows zero row own is here more = absurd (omega (arith, is))
  past_step true r rows (suc i) row own is here more = more i refl (omega (arith, is))
  past_step false r rows zero row own is here more = ap (λ (x : Row). p (by_place x.zone z)) here ∙ own
  past_step false r rows (suc i) row own is here more = absurd (omega (arith, is))

  past : (rows : List Row) (at : ℕ) (row : Row) → at ≡ passing rows → at < length rows → row ≡ get_or rows at row → p (by_place row.zone z) ≡ false
  past [] at row is within here = absurd (omega (arith, within))
  past (r ∷ rows) zero row is within here = past_step (p (by_place r.zone z)) r rows zero row refl is here (λ i e same. absurd (omega (arith, e)))
  past (r ∷ rows) (suc at) row is within here = past_step (p (by_place r.zone z)) r rows (suc at) row refl is here (λ i e same. past rows at row (omega (arith, e, same)) (omega (arith, within)) here)

  pub cut_there : (rows : List Row) (at : ℕ) → at ≡ passing rows → 0 < at → at < length rows → IsCut rows at
  cut_there rows at is some within = record { some = some; within = within; before = λ row here. begins rows at row is (past rows at row is within here) }

not_after : (p q r : Place) (o : Ordering) → by_place p q ≡ o → o ≢ Greater → by_place q r ≡ Less → by_place p r ≡ Less
not_after p q r Less is h less = by_place_total.trans p q r is less
not_after p q r Equal is h less = by_place_total.congr p q r is ∙ less
not_after p q r Greater is h less = absurd (h refl)

-- rows that are cut where a zone begins
pub record ArePartsAt (z : Place) (rows front back : List Row) : Type 0 where
  pub whole : front ++ back ≡ rows
  pub before : AreBefore z front
  pub from : AreFrom z back
  pub low : (y : Place) → AreFrom y rows → by_place y z ≡ Less
  pub high : (y : Place) → AreBefore y rows → by_place z y ≡ Less

from_head : (row : Row) (rest : List Row) → IsStrictlySortedBy by_key (row ∷ rest) → AreFrom row.zone (row ∷ rest)
unfolding IsStrictlySortedBy
from_head row rest up = (
  (λ g. let tied : by_place row.zone row.zone ≡ Equal = tied_itself by_place_total row.zone in cc),
  all_each (λ (y : Row). by_key row y ≡ Less) (λ (y : Row). by_place row.zone y.zone ≢ Greater) rest (λ y less. zone_never_falls row y less) up.0,
)

from_on : (rows : List Row) (at : ℕ) (row : Row) → IsStrictlySortedBy by_key rows → at < length rows → row ≡ get_or rows at row → AreFrom row.zone (drop at rows)
from_on rows at row up within here =
    let cut : drop at rows ≡ row ∷ drop (suc at) rows = drop-cons rows at row within ∙ ap (λ (x : Row). x ∷ drop (suc at) rows) (sym here) in
    subst (AreFrom row.zone) (sym cut) (from_head row (drop (suc at) rows) (subst (IsStrictlySortedBy by_key) cut (sorted_left rows at up)))

low_step : (rows : List Row) (at : ℕ) (z y : Place) → 0 < at → at < length rows → AreBefore z (take at rows) → AreFrom y rows → by_place y z ≡ Less
low_step [] at z y some within before from = absurd (omega (arith, within))
low_step (r ∷ rows) zero z y some within before from = absurd (omega (arith, some))
low_step (r ∷ rows) (suc at) z y some within before from = not_after y r.zone z (by_place y r.zone) refl from.0 before.0

pub parts_at : (rows : List Row) (at : ℕ) (row : Row) → IsStrictlySortedBy by_key rows → IsCut rows at → row ≡ get_or rows at row → ArePartsAt row.zone rows (take at rows) (drop at rows)
parts_at rows at row up cut here = record {
  whole = take-append-drop at rows;
  before = cut.before row here;
  from = from_on rows at row up cut.within here;
  low = λ y from. low_step rows at row.zone y cut.some cut.within (cut.before row here) from;
  high = λ y before. all_at (λ (r : Row). by_place r.zone y ≡ Less) rows at row cut.within here before;
}

pub parts_from : (rows front back : List Row) (at : ℕ) (z : Place) → IsStrictlySortedBy by_key rows → IsCut rows at → IsZoneAt rows at z → front ≡ take at rows → back ≡ drop at rows → ArePartsAt z rows front back
parts_from rows front back at z up cut zone fronts backs =
    let parts : ArePartsAt z rows (take at rows) (drop at rows) = subst (λ (y : Place). ArePartsAt y rows (take at rows) (drop at rows)) zone.2 (parts_at rows at zone.0 up cut zone.1) in
    rw (fronts, backs) parts

pub same_at : {X : Type 0} (xs : List X) (k : ℕ) (x y : X) → k < length xs → x ≡ get_or xs k x → y ≡ get_or xs k y → x ≡ y
same_at [] k x y within is also = absurd (omega (arith, within))
same_at (t ∷ xs) zero x y within is also = is ∙ sym also
same_at (t ∷ xs) (suc k) x y within is also = same_at xs k x y (omega (arith, within)) is also

-- the first rows parted

within_back : (z : Place) (rows front back : List Row) (later : List Shelf) → ArePartsAt z rows front back → AreWithin rows later → AreWithin back later
within_back z rows front back [] parts within = tt
within_back z rows front back (u ∷ later) parts within =
    (all_back (λ (r : Row). by_place r.zone u.from ≡ Less) front back (subst (AreBefore u.from) (sym parts.whole) within.0), within.1, within.2)

next_all : (y : Place) (rows : List Row) (later : List Shelf) → ((z : Place) → AreBefore z rows → by_place y z ≡ Less) → IsStrictlySortedBy by_from later → AreWithin rows later → AllByRecursion (λ (u : Shelf). by_place y u.from ≡ Less) later
unfolding IsStrictlySortedBy
next_all y rows [] high up within = tt
next_all y rows (u ∷ later) high up within =
    let less = high u.from within.0 in
    (less, all_each (λ (x : Shelf). by_place u.from x.from ≡ Less) (λ (x : Shelf). by_place y x.from ≡ Less) later (λ x more. by_place_total.trans y u.from x.from less more) up.0)

pub first_rows : (rows front : List Row) (later : List Shelf) (back : Shelf) → front ++ back.rows.items ≡ rows → front ++ on_shelves (back ∷ later) ≡ rows ++ on_shelves later
first_rows rows front later back whole = sym (append_assoc front back.rows.items (on_shelves later)) ∙ ap (λ (some : List Row). some ++ on_shelves later) whole

pub first_shelved : (rows front : List Row) (later : List Shelf) (back : Shelf) → ArePartsAt back.from rows front back.rows.items → AreShelved rows later → AreShelved front (back ∷ later)
unfolding IsStrictlySortedBy
first_shelved rows front later back parts shelved = record {
  order = subst (IsStrictlySortedBy by_key) (sym (first_rows rows front later back parts.whole)) shelved.order;
  starts = (next_all back.from rows later parts.high shelved.starts shelved.within, shelved.starts);
  within = (parts.before, parts.from, within_back back.from rows front back.rows.items later parts shelved.within);
}

-- a later shelf parted

all_insert : {X : Type 0} (P : X → Type 0) (xs : List X) (k : ℕ) (y : X) → AllByRecursion P xs → P y → AllByRecursion P (insert xs k y)
all_insert P xs k y all own =
    let parts = subst (AllByRecursion P) (sym (take-append-drop k xs)) all in
    all_joined P (take k xs) (y ∷ drop k xs) (all_front P (take k xs) (drop k xs) parts) (own, all_back P (take k xs) (drop k xs) parts)

from_at : (rows : List Row) (later : List Shelf) (k : ℕ) (s : Shelf) → k < length later → s ≡ get_or later k s → AreWithin rows later → AreFrom s.from s.rows.items
from_at rows [] k s inside is within = absurd (omega (arith, inside))
from_at rows (t ∷ later) zero s inside is within = subst (λ (x : Shelf). AreFrom x.from x.rows.items) (sym is) within.1
from_at rows (t ∷ later) (suc k) s inside is within = from_at t.rows.items later k s (omega (arith, inside)) is within.2

pub shelf_at_sorted : (later : List Shelf) (k : ℕ) (s : Shelf) → k < length later → s ≡ get_or later k s → IsStrictlySortedBy by_key (on_shelves later) → IsStrictlySortedBy by_key s.rows.items
shelf_at_sorted [] k s inside is up = absurd (omega (arith, inside))
shelf_at_sorted (t ∷ later) zero s inside is up = subst (λ (x : Shelf). IsStrictlySortedBy by_key x.rows.items) (sym is) (sorted_front t.rows.items (on_shelves later) up)
shelf_at_sorted (t ∷ later) (suc k) s inside is up = shelf_at_sorted later k s (omega (arith, inside)) is (sorted_back t.rows.items (on_shelves later) up)

-- the shelves with a shelf at a place, and another behind it
abbrev pub parted : List Shelf → ℕ → Shelf → Shelf → List Shelf
parted later k front back = slice_set (insert later (suc k) back) k front

part_rows : (later : List Shelf) (k : ℕ) (s front back : Shelf) → k < length later → s ≡ get_or later k s → front.rows.items ++ back.rows.items ≡ s.rows.items → on_shelves (parted later k front back) ≡ on_shelves later
part_rows [] k s front back inside is whole = absurd (omega (arith, inside))
part_rows (t ∷ later) zero s front back inside is whole =
    sym (append_assoc front.rows.items back.rows.items (on_shelves later)) ∙ ap (λ (some : List Row). some ++ on_shelves later) (whole ∙ ap (λ (x : Shelf). x.rows.items) is)
part_rows (t ∷ later) (suc k) s front back inside is whole = ap (λ (some : List Row). t.rows.items ++ some) (part_rows later k s front back (omega (arith, inside)) is whole)

module _ (s front back : Shelf) (same : front.from ≡ s.from) (parts : ArePartsAt back.from s.rows.items front.rows.items back.rows.items) where
  part_within : (rows : List Row) (later : List Shelf) (k : ℕ) → k < length later → s ≡ get_or later k s → AreWithin rows later → AreWithin rows (parted later k front back)
  part_within rows [] k inside is within = absurd (omega (arith, inside))
  part_within rows (t ∷ later) zero inside is within =
      let starts : front.from ≡ t.from = same ∙ ap (λ (x : Shelf). x.from) is in
      let here : ArePartsAt back.from t.rows.items front.rows.items back.rows.items = subst (λ (x : Shelf). ArePartsAt back.from x.rows.items front.rows.items back.rows.items) is parts in (
        rw starts within.0,
        rw starts (all_front (λ (r : Row). by_place t.from r.zone ≢ Greater) front.rows.items back.rows.items (subst (AreFrom t.from) (sym here.whole) within.1)),
        (here.before, here.from, within_back back.from t.rows.items front.rows.items back.rows.items later here within.2),
      )
  part_within rows (t ∷ later) (suc k) inside is within = (within.0, within.1, part_within t.rows.items later k (omega (arith, inside)) is within.2)

  part_starts : (rows : List Row) (later : List Shelf) (k : ℕ) → k < length later → s ≡ get_or later k s → AreWithin rows later → IsStrictlySortedBy by_from later → IsStrictlySortedBy by_from (parted later k front back)
  unfolding IsStrictlySortedBy
  part_starts rows [] k inside is within up = absurd (omega (arith, inside))
  part_starts rows (t ∷ later) zero inside is within up =
      let starts : front.from ≡ t.from = same ∙ ap (λ (x : Shelf). x.from) is in
      let here : ArePartsAt back.from t.rows.items front.rows.items back.rows.items = subst (λ (x : Shelf). ArePartsAt back.from x.rows.items front.rows.items back.rows.items) is parts in
      ((subst (λ (f : Place). by_place f back.from ≡ Less) (sym starts) (here.low t.from within.1), subst (λ (f : Place). AllByRecursion (λ (x : Shelf). by_place f x.from ≡ Less) later) (sym starts) up.0), (next_all back.from t.rows.items later here.high up.1 within.2, up.1))
  part_starts rows (t ∷ later) (suc k) inside is within up =
      let deep : k < length later = omega (arith, inside) in
      let own : by_place t.from s.from ≡ Less = all_at (λ (x : Shelf). by_place t.from x.from ≡ Less) later k s deep is up.0 in
      let less : by_place s.from back.from ≡ Less = parts.low s.from (from_at t.rows.items later k s deep is within.2) in (
        all_set (λ (x : Shelf). by_place t.from x.from ≡ Less) (insert later (suc k) back) k front
            (all_insert (λ (x : Shelf). by_place t.from x.from ≡ Less) later (suc k) back up.0 (by_place_total.trans t.from s.from back.from own less)) (rw same own),
        part_starts t.rows.items later k deep is within.2 up.1,
      )

abbrev pub room : Shelf → ℕ
room s = vec_capacity s.rows - vec_len s.rows

pub part_kept : (n : ℕ) (later : List Shelf) (k : ℕ) (s front back : Shelf) → k < length later → s ≡ get_or later k s → front.from ≡ s.from → ArePartsAt back.from s.rows.items front.rows.items back.rows.items →
    room s ≤ room front → n ≤ room back → AreKept n later (slice_set (insert later (k + 1) back) k front)
part_kept n later k s front back inside is same parts more enough =
    let next : suc k ≡ k + 1 = omega arith in
    let rows = part_rows later k s front back inside is parts.whole in
    subst (λ (i : ℕ). AreKept n later (slice_set (insert later i back) k front)) next (record {
      rows = rows;
      shelved = λ first shelved. record {
        order = subst (λ (some : List Row). IsStrictlySortedBy by_key (first ++ some)) (sym rows) shelved.order;
        starts = part_starts s front back same parts first later k inside is shelved.within shelved.starts;
        within = part_within s front back same parts first later k inside is shelved.within;
      };
      room = λ m low have.
          let own : m ≤ room s = all_at (λ (x : Shelf). m ≤ room x) later k s inside is have in
          all_set (λ (x : Shelf). m ≤ room x) (insert later (suc k) back) k front (all_insert (λ (x : Shelf). m ≤ room x) later (suc k) back have (omega (arith, low, enough))) (omega (arith, own, more));
    })

parted_behind : (later : List Shelf) (k : ℕ) (front back : Shelf) → k < length later → drop (suc k) (parted later k front back) ≡ back ∷ drop (suc k) later
parted_behind [] k front back inside = absurd (omega (arith, inside))
parted_behind (t ∷ later) zero front back inside = refl
parted_behind (t ∷ later) (suc k) front back inside = parted_behind later k front back (omega (arith, inside))

pub part_ready : (n : ℕ) (later : List Shelf) (k : ℕ) (front back : Shelf) → k < length later → n ≤ room back → HaveRoom n (drop (k + 1) later) → HaveRoom n (drop (k + 1) (slice_set (insert later (k + 1) back) k front))
part_ready n later k front back inside enough have =
    let next : suc k ≡ k + 1 = omega arith in
    subst (λ (i : ℕ). HaveRoom n (drop i (slice_set (insert later i back) k front))) next
    (subst (HaveRoom n) (sym (parted_behind later k front back inside)) (enough, subst (λ (i : ℕ). HaveRoom n (drop i later)) (sym next) have))

-- a shelf with more room

same_rows : (later : List Shelf) (k : ℕ) (s now : Shelf) → k < length later → s ≡ get_or later k s → now.rows.items ≡ s.rows.items → on_shelves (slice_set later k now) ≡ on_shelves later
same_rows [] k s now inside is same = absurd (omega (arith, inside))
same_rows (t ∷ later) zero s now inside is same = ap (λ (some : List Row). some ++ on_shelves later) (same ∙ ap (λ (x : Shelf). x.rows.items) is)
same_rows (t ∷ later) (suc k) s now inside is same = ap (λ (some : List Row). t.rows.items ++ some) (same_rows later k s now (omega (arith, inside)) is same)

same_within : (rows : List Row) (later : List Shelf) (k : ℕ) (s now : Shelf) → k < length later → s ≡ get_or later k s → now.from ≡ s.from → now.rows.items ≡ s.rows.items → AreWithin rows later → AreWithin rows (slice_set later k now)
same_within rows [] k s now inside is from same within = tt
same_within rows (t ∷ later) zero s now inside is from same within =
    let starts : now.from ≡ t.from = from ∙ ap (λ (x : Shelf). x.from) is in
    let items : now.rows.items ≡ t.rows.items = same ∙ ap (λ (x : Shelf). x.rows.items) is in
    (rw starts within.0, rw (starts, items) within.1, rw items within.2)
same_within rows (t ∷ later) (suc k) s now inside is from same within = (within.0, within.1, same_within t.rows.items later k s now (omega (arith, inside)) is from same within.2)

pub set_kept : (n : ℕ) (later : List Shelf) (k : ℕ) (s now : Shelf) → k < length later → s ≡ get_or later k s → now.from ≡ s.from → now.rows.items ≡ s.rows.items → room s ≤ room now → AreKept n later (slice_set later k now)
set_kept n later k s now inside is from same more = record {
  rows = same_rows later k s now inside is same;
  shelved = λ first shelved. record {
    order = subst (λ (some : List Row). IsStrictlySortedBy by_key (first ++ some)) (sym (same_rows later k s now inside is same)) shelved.order;
    starts = starts_set later k s now inside is from shelved.starts;
    within = same_within first later k s now inside is from same shelved.within;
  };
  room = λ m low have.
      let own : m ≤ room s = all_at (λ (x : Shelf). m ≤ room x) later k s inside is have in
      all_set (λ (x : Shelf). m ≤ room x) later k now have (omega (arith, own, more));
}

set_dropped : (later : List Shelf) (k : ℕ) (now : Shelf) → k < length later → drop k (slice_set later k now) ≡ now ∷ drop (suc k) later
set_dropped [] k now inside = absurd (omega (arith, inside))
set_dropped (t ∷ later) zero now inside = refl
set_dropped (t ∷ later) (suc k) now inside = set_dropped later k now (omega (arith, inside))

pub set_ready : (n : ℕ) (later : List Shelf) (k : ℕ) (now : Shelf) → k < length later → n ≤ room now → HaveRoom n (drop (k + 1) later) → HaveRoom n (drop k (slice_set later k now))
set_ready n later k now inside enough have =
    let next : suc k ≡ k + 1 = omega arith in
    subst (HaveRoom n) (sym (set_dropped later k now inside)) (enough, subst (λ (i : ℕ). HaveRoom n (drop i later)) (sym next) have)

pub kept_itself : (n : ℕ) (later : List Shelf) → AreKept n later later
kept_itself n later = record { rows = refl; shelved = λ rows shelved. shelved; room = λ m low have. have }

pub kept_more : (n : ℕ) (was now then : List Shelf) → AreKept n was now → AreKept n now then → AreKept n was then
kept_more n was now then first second = record {
  rows = second.rows ∙ first.rows;
  shelved = λ rows shelved. second.shelved rows (first.shelved rows shelved);
  room = λ m low have. second.room m low (first.room m low have);
}

-- a shelf that is set to one with its rows and no less room keeps what is kept before
pub set_kept_more : (n : ℕ) (was now : List Shelf) (k : ℕ) (s shelf : Shelf) → k < length now → s ≡ get_or now k s → shelf.from ≡ s.from → shelf.rows.items ≡ s.rows.items → room s ≤ room shelf → AreKept n was now → AreKept n was (slice_set now k shelf)
set_kept_more n was now k s shelf inside is from same more kept = kept_more n was now (slice_set now k shelf) kept (set_kept n now k s shelf inside is from same more)
