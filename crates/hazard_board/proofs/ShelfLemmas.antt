-- Rows on shelves: the rows of a zone stand on its shelf, and there a row is put.
use Rattle.std.proofs.Common.{◌≡◌, ◌≢◌, ◌∙◌, ℕ, zero, suc, ◌+◌, ◌-◌, ◌<◌, ◌≤◌, List, [], ◌∷◌, ◌++◌, Bool, true, false, Ordering, Less, Equal, Greater, refl, sym, ap, subst, cond, length, get_or, slice_set, is_le, min, arith, append_assoc, length-append}
use Rattle.std.specs.List.{AllByRecursion}
use Rattle.std.specs.List.Sorted.{IsStrictlySortedBy}
use Rattle.std.specs.Ordering.{ordering_reverse}
use Rattle.std.specs.Vec.{vec_len, vec_capacity}
use Rattle.std.proofs.lemmas.Bool.{false_from_ne_true}
use Rattle.std.proofs.lemmas.Cmp.{tied_itself}
use Rattle.std.proofs.lemmas.List.{append-nil}
use Rattle.std.proofs.lemmas.List.Elements.{filter-append}
use Rattle.hazard_types.specs.Places.{Place, by_place}
use Rattle.hazard_types.specs.Same.{same_zone}
use Rattle.hazard_types.specs.declared.line.Row.{Row}
use Rattle.hazard_types.proofs.Equality.{zone_one}
use Rattle.hazard_types.proofs.OrderLaws.{by_place_total}
use Rattle.event_life.specs.Products.{by_key, placed, put}
use Rattle.event_life.proofs.Keys.{by_key-total}
use Rattle.event_life.proofs.OnceLemmas.{all_joined}
use Rattle.event_life.proofs.Puts.{put-all, put-sorted}
use Rattle.hazard_board.specs.Board.{slice_of}
use Rattle.hazard_board.specs.Shelves.{on_shelves, by_from, through, AreBefore, AreWithin, AreShelved, HaveRoom, least_room}
use Rattle.hazard_board.specs.declared.shelves.Shelf.{Shelf}
use Rattle.hazard_board.proofs.ZoneLemmas.{further}

-- zones before and behind one

pub turned : (p q : Place) → by_place p q ≡ Greater → by_place q p ≡ Less
turned p q h = by_place_total.antisymm q p ∙ ap ordering_reverse h

before_apart : (a z : Place) → by_place a z ≡ Less → same_zone a z ≡ false
before_apart a z less = false_from_ne_true _ (λ h.
    let same = zone_one a z h in
    let tied : by_place a z ≡ Equal = rw same (tied_itself by_place_total z) in cc)

behind_apart : (a z : Place) → by_place z a ≡ Less → same_zone a z ≡ false
behind_apart a z less = false_from_ne_true _ (λ h.
    let same = zone_one a z h in
    let tied : by_place z a ≡ Equal = rw same (tied_itself by_place_total z) in cc)

pub from_never_falls : (a b : Shelf) → by_from a b ≡ Less → by_place a.from b.from ≢ Greater
from_never_falls a b less g = cc

-- the rows are of zones behind one
abbrev pub AreBehind : Place → List Row → Type 0
AreBehind z rows = AllByRecursion (λ (r : Row). by_place z r.zone ≡ Less) rows

-- lists

pub all_front : {X : Type 0} (P : X → Type 0) (xs ys : List X) → AllByRecursion P (xs ++ ys) → AllByRecursion P xs
all_front P [] ys all = tt
all_front P (x ∷ xs) ys all = (all.0, all_front P xs ys all.1)

pub all_back : {X : Type 0} (P : X → Type 0) (xs ys : List X) → AllByRecursion P (xs ++ ys) → AllByRecursion P ys
all_back P [] ys all = all
all_back P (x ∷ xs) ys all = all_back P xs ys all.1

pub all_each : {X : Type 0} (P Q : X → Type 0) (xs : List X) → ((x : X) → P x → Q x) → AllByRecursion P xs → AllByRecursion Q xs
all_each P Q [] each all = tt
all_each P Q (x ∷ xs) each all = (each x all.0, all_each P Q xs each all.1)

pub all_set : {X : Type 0} (P : X → Type 0) (xs : List X) (k : ℕ) (y : X) → AllByRecursion P xs → P y → AllByRecursion P (slice_set xs k y)
all_set P [] k y all own = tt
all_set P (x ∷ xs) zero y all own = (own, all.1)
all_set P (x ∷ xs) (suc k) y all own = (all.0, all_set P xs k y all.1 own)

pub all_at : {X : Type 0} (P : X → Type 0) (xs : List X) (k : ℕ) (x : X) → k < length xs → x ≡ get_or xs k x → AllByRecursion P xs → P x
all_at P [] k x within is all = absurd (omega (arith, within))
all_at P (y ∷ xs) zero x within is all = subst P (sym is) all.0
all_at P (y ∷ xs) (suc k) x within is all = all_at P xs k x (omega (arith, within)) is all.1

pub sorted_front : (xs ys : List Row) → IsStrictlySortedBy by_key (xs ++ ys) → IsStrictlySortedBy by_key xs
unfolding IsStrictlySortedBy
sorted_front [] ys up = tt
sorted_front (x ∷ xs) ys up = (all_front (λ y. by_key x y ≡ Less) xs ys up.0, sorted_front xs ys up.1)

pub sorted_back : (xs ys : List Row) → IsStrictlySortedBy by_key (xs ++ ys) → IsStrictlySortedBy by_key ys
unfolding IsStrictlySortedBy
sorted_back [] ys up = up
sorted_back (x ∷ xs) ys up = sorted_back xs ys up.1

-- rows in three parts: of zones before one, of it and others near it, and of zones behind it

none_in : (z : Place) (rows : List Row) → AllByRecursion (λ (r : Row). same_zone r.zone z ≡ false) rows → slice_of z rows ≡ []
none_in z [] all = refl
none_in z (r ∷ rows) all = rw (all.0) (none_in z rows all.1)

pub slice_amid : (z : Place) (front mid back : List Row) → AreBefore z front → AreBehind z back → slice_of z (front ++ (mid ++ back)) ≡ slice_of z mid
slice_amid z front mid back before behind =
    let none_before : slice_of z front ≡ [] = none_in z front (all_each (λ (r : Row). by_place r.zone z ≡ Less) (λ (r : Row). same_zone r.zone z ≡ false) front (λ r less. before_apart r.zone z less) before) in
    let none_behind : slice_of z back ≡ [] = none_in z back (all_each (λ (r : Row). by_place z r.zone ≡ Less) (λ (r : Row). same_zone r.zone z ≡ false) back (λ r less. behind_apart r.zone z less) behind) in
    filter-append (λ (r : Row). same_zone r.zone z) front (mid ++ back)
    ∙ ap (λ (rows : List Row). rows ++ slice_of z (mid ++ back)) none_before
    ∙ filter-append (λ (r : Row). same_zone r.zone z) mid back
    ∙ ap (λ (rows : List Row). slice_of z mid ++ rows) none_behind
    ∙ append-nil (slice_of z mid)

put_alone : (row : Row) (back : List Row) → AllByRecursion (λ y. by_key row y ≡ Less) back → put row back ≡ row ∷ back
put_alone row [] all = refl
put_alone row (b ∷ back) all = rw (all.0) refl

apart_step : (o : Ordering) (row a : Row) (front back : List Row) → put row (front ++ back) ≡ put row front ++ back → placed o row a (front ++ back) (put row (front ++ back)) ≡ placed o row a front (put row front) ++ back
apart_step Less row a front back more = refl
apart_step Equal row a front back more = refl
apart_step Greater row a front back more = ap (λ (rows : List Row). a ∷ rows) more

put_in_front : (row : Row) (front back : List Row) → AllByRecursion (λ y. by_key row y ≡ Less) back → put row (front ++ back) ≡ put row front ++ back
put_in_front row [] back all = put_alone row back all
put_in_front row (a ∷ front) back all = apart_step (by_key row a) row a front back (put_in_front row front back all)

put_past : (row : Row) (front back : List Row) → AllByRecursion (λ y. by_key y row ≡ Less) front → put row (front ++ back) ≡ front ++ put row back
put_past row [] back below = refl
put_past row (a ∷ front) back below =
    let greater : by_key row a ≡ Greater = by_key-total.antisymm row a ∙ ap ordering_reverse below.0 in
    rw greater (ap (λ (rows : List Row). a ∷ rows) (put_past row front back below.1))

zone_decides : (a b : Row) → by_place a.zone b.zone ≡ Less → by_key a b ≡ Less
zone_decides a b less = rw less refl

pub put_amid : (row : Row) (front mid back : List Row) → AreBefore row.zone front → AreBehind row.zone back → put row (front ++ (mid ++ back)) ≡ front ++ (put row mid ++ back)
put_amid row front mid back before behind =
    put_past row front (mid ++ back) (all_each (λ (r : Row). by_place r.zone row.zone ≡ Less) (λ (r : Row). by_key r row ≡ Less) front (λ r less. zone_decides r row less) before)
    ∙ ap (λ (rows : List Row). front ++ rows) (put_in_front row mid back (all_each (λ (r : Row). by_place row.zone r.zone ≡ Less) (λ (r : Row). by_key row r ≡ Less) back (λ r less. zone_decides row r less) behind))

-- the parts of rows on shelves: the shelf of a zone, and what stands before and behind it

-- the rows of the last of the shelves that begin with the zone or before it, or else the rows in front of them
abbrev pub shelf_of : Place → List Row → List Shelf → List Row
shelf_of z rows [] = rows
shelf_of z rows (s ∷ later) = cond (is_le (by_place s.from z)) (shelf_of z s.rows.items later) rows

module _ (z : Place) where
  abbrev pub before : List Row → List Shelf → List Row
  before rows [] = []
  before rows (s ∷ later) = cond (is_le (by_place s.from z)) (rows ++ before s.rows.items later) []

  abbrev pub behind : List Shelf → List Row
  behind [] = []
  behind (s ∷ later) = cond (is_le (by_place s.from z)) (behind later) (on_shelves (s ∷ later))

  whole_step : (b : Bool) (rows all front mid back : List Row) → all ≡ front ++ (mid ++ back) → rows ++ all ≡ cond b (rows ++ front) [] ++ (cond b mid rows ++ cond b back all)
  whole_step true rows all front mid back h = ap (λ (some : List Row). rows ++ some) h ∙ sym (append_assoc rows front (mid ++ back))
  whole_step false rows all front mid back h = refl

  pub whole : (rows : List Row) (later : List Shelf) → rows ++ on_shelves later ≡ before rows later ++ (shelf_of z rows later ++ behind later)
  whole rows [] = refl
  whole rows (s ∷ later) = whole_step (is_le (by_place s.from z)) rows (on_shelves (s ∷ later)) (before s.rows.items later) (shelf_of z s.rows.items later) (behind later) (whole s.rows.items later)

  not_behind : (o : Ordering) → is_le o ≡ true → o ≢ Greater
  not_behind o h g = let never : is_le Greater ≡ true = ap is_le (sym g) ∙ h in cc

  past_behind : (o : Ordering) → is_le o ≡ false → o ≡ Greater
  past_behind Less h = cc
  past_behind Equal h = cc
  past_behind Greater h = refl

  before_step : (b : Bool) (f : Place) (rows more : List Row) → is_le (by_place f z) ≡ b → AreBefore f rows → AreBefore z more → AreBefore z (cond b (rows ++ more) [])
  before_step true f rows more le all rest =
      all_joined (λ (r : Row). by_place r.zone z ≡ Less) rows more
      (all_each (λ (r : Row). by_place r.zone f ≡ Less) (λ (r : Row). by_place r.zone z ≡ Less) rows (λ r less. further r.zone f z (by_place f z) refl less (not_behind (by_place f z) le)) all) rest
  before_step false f rows more le all rest = tt

  pub all_before : (rows : List Row) (later : List Shelf) → AreWithin rows later → AreBefore z (before rows later)
  all_before rows [] within = tt
  all_before rows (s ∷ later) within = before_step (is_le (by_place s.from z)) s.from rows (before s.rows.items later) refl within.0 (all_before s.rows.items later within.2)

  on_behind : (rows : List Row) (later : List Shelf) → AllByRecursion (λ (s : Shelf). by_place z s.from ≡ Less) later → AreWithin rows later → AreBehind z (on_shelves later)
  on_behind rows [] all within = tt
  on_behind rows (s ∷ later) all within =
      all_joined (λ (r : Row). by_place z r.zone ≡ Less) s.rows.items (on_shelves later)
      (all_each (λ (r : Row). by_place s.from r.zone ≢ Greater) (λ (r : Row). by_place z r.zone ≡ Less) s.rows.items (λ r from. further z s.from r.zone (by_place s.from r.zone) refl all.0 from) within.1)
      (on_behind s.rows.items later all.1 within.2)

  all_later : (f : Place) (later : List Shelf) → by_place z f ≡ Less → AllByRecursion (λ (s : Shelf). by_place f s.from ≡ Less) later → AllByRecursion (λ (s : Shelf). by_place z s.from ≡ Less) later
  all_later f later less all = all_each (λ (s : Shelf). by_place f s.from ≡ Less) (λ (s : Shelf). by_place z s.from ≡ Less) later (λ s more. by_place_total.trans z f s.from less more) all

  behind_step : (b : Bool) (s : Shelf) (rows : List Row) (later : List Shelf) → is_le (by_place s.from z) ≡ b → AllByRecursion (λ (t : Shelf). by_place s.from t.from ≡ Less) later → AreWithin rows (s ∷ later) → AreBehind z (behind later) → AreBehind z (cond b (behind later) (on_shelves (s ∷ later)))
  behind_step true s rows later le up within more = more
  behind_step false s rows later le up within more =
      let less : by_place z s.from ≡ Less = turned s.from z (past_behind (by_place s.from z) le) in
      on_behind rows (s ∷ later) (less, all_later s.from later less up) within

  pub all_behind : (rows : List Row) (later : List Shelf) → IsStrictlySortedBy by_from later → AreWithin rows later → AreBehind z (behind later)
  unfolding IsStrictlySortedBy
  all_behind rows [] up within = tt
  all_behind rows (s ∷ later) up within = behind_step (is_le (by_place s.from z)) s rows later refl up.0 within (all_behind s.rows.items later up.1 within.2)

  -- the rows of the zone are those on its shelf
  pub slice_shelf : (rows : List Row) (later : List Shelf) → AreShelved rows later → slice_of z (shelf_of z rows later) ≡ slice_of z (rows ++ on_shelves later)
  slice_shelf rows later shelved =
      sym (ap (slice_of z) (whole rows later) ∙ slice_amid z (before rows later) (shelf_of z rows later) (behind later) (all_before rows later shelved.within) (all_behind rows later shelved.starts shelved.within))

  sorted_step : (b : Bool) (rows mid more : List Row) → IsStrictlySortedBy by_key (rows ++ more) → (IsStrictlySortedBy by_key more → IsStrictlySortedBy by_key mid) → IsStrictlySortedBy by_key (cond b mid rows)
  sorted_step true rows mid more up rest = rest (sorted_back rows more up)
  sorted_step false rows mid more up rest = sorted_front rows more up

  -- which stand in order
  pub shelf_sorted : (rows : List Row) (later : List Shelf) → IsStrictlySortedBy by_key (rows ++ on_shelves later) → IsStrictlySortedBy by_key (shelf_of z rows later)
  shelf_sorted rows [] up = sorted_front rows [] up
  shelf_sorted rows (s ∷ later) up = sorted_step (is_le (by_place s.from z)) rows (shelf_of z s.rows.items later) (on_shelves (s ∷ later)) up (shelf_sorted s.rows.items later)

  -- the shelf by its number

  through_step : (b : Bool) (n k : ℕ) → cond b (1 + n) 0 ≡ suc k → (b ≡ true) × (n ≡ k)
  through_step true n k h = (refl, omega (arith, h))
  through_step false n k h = absurd (omega (arith, h))

  through_none : (b : Bool) (n : ℕ) → cond b (1 + n) 0 ≡ 0 → b ≡ false
  through_none true n h = absurd (omega (arith, h))
  through_none false n h = refl

  pub shelf_first : (rows : List Row) (later : List Shelf) → through z later ≡ 0 → shelf_of z rows later ≡ rows
  shelf_first rows [] none = refl
  shelf_first rows (s ∷ later) none = rw (through_none (is_le (by_place s.from z)) (through z later) none) refl

  before_first : (rows : List Row) (later : List Shelf) → through z later ≡ 0 → before rows later ≡ []
  before_first rows [] none = refl
  before_first rows (s ∷ later) none = rw (through_none (is_le (by_place s.from z)) (through z later) none) refl

  behind_first : (later : List Shelf) → through z later ≡ 0 → behind later ≡ on_shelves later
  behind_first [] none = refl
  behind_first (s ∷ later) none = rw (through_none (is_le (by_place s.from z)) (through z later) none) refl

  pub shelf_later : (rows : List Row) (later : List Shelf) (k : ℕ) (s : Shelf) → through z later ≡ suc k → s ≡ get_or later k s → shelf_of z rows later ≡ s.rows.items
  shelf_later rows [] k s place is = absurd (omega (arith, place))
  shelf_later rows (t ∷ later) zero s place is =
      let p = through_step (is_le (by_place t.from z)) (through z later) zero place in
      rw (p.0) (shelf_first t.rows.items later p.1 ∙ ap (λ (x : Shelf). x.rows.items) (sym is))
  shelf_later rows (t ∷ later) (suc k) s place is =
      let p = through_step (is_le (by_place t.from z)) (through z later) (suc k) place in
      rw (p.0) (shelf_later t.rows.items later k s p.1 is)

  pub through_within : (later : List Shelf) (k : ℕ) → through z later ≡ suc k → k < length later
  through_within [] k place = absurd (omega (arith, place))
  through_within (t ∷ later) zero place = omega arith
  through_within (t ∷ later) (suc k) place = let more = through_within later k (through_step (is_le (by_place t.from z)) (through z later) (suc k) place).1 in omega (arith, more)

  -- other rows on the shelf

  pub set_first : (rows now : List Row) (later : List Shelf) → through z later ≡ 0 → now ++ on_shelves later ≡ before rows later ++ (now ++ behind later)
  set_first rows now later none = rw (before_first rows later none, behind_first later none) refl

  pub set_later : (rows : List Row) (later : List Shelf) (k : ℕ) (now : Shelf) → through z later ≡ suc k → rows ++ on_shelves (slice_set later k now) ≡ before rows later ++ (now.rows.items ++ behind later)
  set_later rows [] k now place = absurd (omega (arith, place))
  set_later rows (t ∷ later) zero now place =
      let p = through_step (is_le (by_place t.from z)) (through z later) zero place in
      rw (p.0, before_first t.rows.items later p.1, behind_first later p.1, append-nil rows) refl
  set_later rows (t ∷ later) (suc k) now place =
      let p = through_step (is_le (by_place t.from z)) (through z later) (suc k) place in
      rw (p.0) (ap (λ (some : List Row). rows ++ some) (set_later t.rows.items later k now p.1) ∙ sym (append_assoc rows (before t.rows.items later) (now.rows.items ++ behind later)))

-- a row that is put

module _ (row : Row) (rows : List Row) (later : List Shelf) (shelved : AreShelved rows later) where
  put_whole : put row (rows ++ on_shelves later) ≡ before row.zone rows later ++ (put row (shelf_of row.zone rows later) ++ behind row.zone later)
  put_whole =
      ap (put row) (whole row.zone rows later)
      ∙ put_amid row (before row.zone rows later) (shelf_of row.zone rows later) (behind row.zone later) (all_before row.zone rows later shelved.within) (all_behind row.zone rows later shelved.starts shelved.within)

  -- all rows grow as those of the shelf do
  pub put_grows : length (put row (rows ++ on_shelves later)) + length (shelf_of row.zone rows later) ≡ length (rows ++ on_shelves later) + length (put row (shelf_of row.zone rows later))
  put_grows =
      let mid = shelf_of row.zone rows later in
      let front = before row.zone rows later in
      let back = behind row.zone later in
      let long = ap length put_whole in
      let was = ap length (whole row.zone rows later) in
      let one = length-append front (put row mid ++ back) in
      let two = length-append (put row mid) back in
      let three = length-append front (mid ++ back) in
      let four = length-append mid back in
      omega (arith, long, was, one, two, three, four)

  pub put_first : (now : List Row) → through row.zone later ≡ 0 → now ≡ put row rows → now ++ on_shelves later ≡ put row (rows ++ on_shelves later)
  put_first now none is =
      set_first row.zone rows now later none
      ∙ ap (λ (some : List Row). before row.zone rows later ++ (some ++ behind row.zone later)) (is ∙ ap (put row) (sym (shelf_first row.zone rows later none)))
      ∙ sym put_whole

  pub put_later : (k : ℕ) (s now : Shelf) → through row.zone later ≡ suc k → s ≡ get_or later k s → now.rows.items ≡ put row s.rows.items → rows ++ on_shelves (slice_set later k now) ≡ put row (rows ++ on_shelves later)
  put_later k s now place at is =
      set_later row.zone rows later k now place
      ∙ ap (λ (some : List Row). before row.zone rows later ++ (some ++ behind row.zone later)) (is ∙ ap (put row) (sym (shelf_later row.zone rows later k s place at)))
      ∙ sym put_whole

within_first : (row : Row) (rows now : List Row) (later : List Shelf) → through row.zone later ≡ 0 → now ≡ put row rows → AreWithin rows later → AreWithin now later
within_first row rows now [] none is within = tt
within_first row rows now (s ∷ later) none is within =
    let past = through_none row.zone (is_le (by_place s.from row.zone)) (through row.zone later) none in
    let less : by_place row.zone s.from ≡ Less = turned s.from row.zone (past_behind row.zone (by_place s.from row.zone) past) in
    (rw is (put-all (λ (r : Row). by_place r.zone s.from ≡ Less) row rows less within.0), within.1, within.2)

within_later : (row : Row) (rows : List Row) (later : List Shelf) (k : ℕ) (s now : Shelf) → through row.zone later ≡ suc k → s ≡ get_or later k s → now.from ≡ s.from → now.rows.items ≡ put row s.rows.items → AreWithin rows later → AreWithin rows (slice_set later k now)
within_later row rows [] k s now place at from is within = absurd (omega (arith, place))
within_later row rows (t ∷ later) zero s now place at from is within =
    let p = through_step row.zone (is_le (by_place t.from row.zone)) (through row.zone later) zero place in
    let starts : now.from ≡ t.from = from ∙ ap (λ (x : Shelf). x.from) at in
    let puts : now.rows.items ≡ put row t.rows.items = is ∙ ap (λ (x : Shelf). put row x.rows.items) at in (
      rw starts within.0,
      rw (starts, puts) (put-all (λ (r : Row). by_place t.from r.zone ≢ Greater) row t.rows.items (not_behind row.zone (by_place t.from row.zone) p.0) within.1),
      within_first row t.rows.items now.rows.items later p.1 puts within.2,
    )
within_later row rows (t ∷ later) (suc k) s now place at from is within =
    let p = through_step row.zone (is_le (by_place t.from row.zone)) (through row.zone later) (suc k) place in
    (within.0, within.1, within_later row t.rows.items later k s now p.1 at from is within.2)

pub starts_set : (later : List Shelf) (k : ℕ) (s now : Shelf) → k < length later → s ≡ get_or later k s → now.from ≡ s.from → IsStrictlySortedBy by_from later → IsStrictlySortedBy by_from (slice_set later k now)
unfolding IsStrictlySortedBy
starts_set [] k s now within at from up = tt
starts_set (t ∷ later) zero s now within at from up =
    let starts : now.from ≡ t.from = from ∙ ap (λ (x : Shelf). x.from) at in
    (rw starts up.0, up.1)
starts_set (t ∷ later) (suc k) s now within at from up =
    let own : by_place t.from now.from ≡ Less = rw from (all_at (λ (x : Shelf). by_place t.from x.from ≡ Less) later k s (omega (arith, within)) at up.0) in
    (all_set (λ (x : Shelf). by_place t.from x.from ≡ Less) later k now up.0 own, starts_set later k s now (omega (arith, within)) at from up.1)

pub shelved_first : (row : Row) (rows now : List Row) (later : List Shelf) → through row.zone later ≡ 0 → now ≡ put row rows → AreShelved rows later → AreShelved now later
shelved_first row rows now later none is shelved = record {
  order = rw (put_first row rows later shelved now none is) (put-sorted row (rows ++ on_shelves later) shelved.order);
  starts = shelved.starts;
  within = within_first row rows now later none is shelved.within;
}

pub shelved_later : (row : Row) (rows : List Row) (later : List Shelf) (k : ℕ) (s now : Shelf) → through row.zone later ≡ suc k → s ≡ get_or later k s → now.from ≡ s.from → now.rows.items ≡ put row s.rows.items → AreShelved rows later → AreShelved rows (slice_set later k now)
shelved_later row rows later k s now place at from is shelved = record {
  order = rw (put_later row rows later shelved k s now place at is) (put-sorted row (rows ++ on_shelves later) shelved.order);
  starts = starts_set later k s now (through_within row.zone later k place) at from shelved.starts;
  within = within_later row rows later k s now place at from is shelved.within;
}

-- room

pub least_fits : (m n : ℕ) (later : List Shelf) → m ≤ least_room n later → (m ≤ n) × HaveRoom m later
least_fits m n [] low = (low, tt)
least_fits m n (s ∷ later) low =
    let more = least_fits m (min n (vec_capacity s.rows - vec_len s.rows)) later low in
    let both = more.0 in
    (omega (arith, both), (omega (arith, both), more.1))

pub fits_least : (m n : ℕ) (later : List Shelf) → m ≤ n → HaveRoom m later → m ≤ least_room n later
fits_least m n [] low room = low
fits_least m n (s ∷ later) low room = fits_least m (min n (vec_capacity s.rows - vec_len s.rows)) later (let own = room.0 in omega (arith, low, own)) room.1

less_room : (d m : ℕ) (later : List Shelf) → HaveRoom m later → HaveRoom (m - d) later
less_room d m later room = all_each (λ (s : Shelf). m ≤ vec_capacity s.rows - vec_len s.rows) (λ (s : Shelf). m - d ≤ vec_capacity s.rows - vec_len s.rows) later (λ s own. omega (arith, own)) room

pub room_first : (d n now : ℕ) (later : List Shelf) → n ≤ now + d → least_room n later ≤ least_room now later + d
room_first d n now later low =
    let m = least_room n later in
    let fits = least_fits m n later (omega arith) in
    let least = fits_least (m - d) now later (let own = fits.0 in omega (arith, own, low)) (less_room d m later fits.1) in
    omega (arith, least)

pub room_later : (d n : ℕ) (later : List Shelf) (k : ℕ) (s now : Shelf) → k < length later → s ≡ get_or later k s → vec_capacity s.rows - vec_len s.rows ≤ (vec_capacity now.rows - vec_len now.rows) + d → least_room n later ≤ least_room n (slice_set later k now) + d
room_later d n later k s now within at low =
    let m = least_room n later in
    let fits = least_fits m n later (omega arith) in
    let own : m ≤ vec_capacity s.rows - vec_len s.rows = all_at (λ (x : Shelf). m ≤ vec_capacity x.rows - vec_len x.rows) later k s within at fits.1 in
    let least = fits_least (m - d) n (slice_set later k now) (let first = fits.0 in omega (arith, first))
    (all_set (λ (x : Shelf). m - d ≤ vec_capacity x.rows - vec_len x.rows) later k now (less_room d m later fits.1) (omega (arith, own, low))) in
    omega (arith, least)
