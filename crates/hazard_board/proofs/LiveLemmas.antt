-- Rows of which the same are live are alike in all that looks at live rows alone, and stay so where a row is put.
use Rattle.std.proofs.Common.{◌≡◌, ◌∙◌, ◌||◌, not, ℕ, ◌≤◌, List, [], ◌∷◌, Bool, true, false, Option, Some, None, Less, refl, sym, ap, subst, cond, filter, arith}
use Rattle.std.specs.List.{AllByRecursion, list_any}
use Rattle.std.specs.List.Sorted.{IsStrictlySortedBy}
use Rattle.std.proofs.lemmas.Bool.{and_parts, and_from, false_from_ne_true}
use Rattle.std.proofs.lemmas.Bool.Decides.{nat_tests}
use Rattle.std.proofs.lemmas.Map.Views.{any-filter_same}
use Rattle.std.proofs.lemmas.List.Kept.{IsStrictlySortedBy-filter}
use Rattle.hazard_types.specs.Places.{Place}
use Rattle.hazard_types.specs.Same.{same_zone}
use Rattle.hazard_types.specs.declared.hazard.Event.{Event}
use Rattle.hazard_types.specs.declared.line.Line.{Line}
use Rattle.hazard_types.specs.declared.line.Row.{Row}
use Rattle.hazard_types.specs.declared.period.End.{End}
use Rattle.hazard_types.specs.declared.period.End.TheVariants.{At, Ufn}
use Rattle.event_life.specs.Periods.{is_live, ends_after}
use Rattle.event_life.specs.Products.{by_key, put, row_at}
use Rattle.event_life.specs.Shown.{shown_at}
use Rattle.event_life.proofs.FreeOrder.{told_by_keys}
use Rattle.event_life.proofs.Puts.{at_key, at_key-parts, none_above, put-sorted, row_at-put}
use Rattle.hazard_board.specs.Board.{slice_of}
use Rattle.hazard_board.specs.Clashes.{clash, first_clash, may_clash}
use Rattle.hazard_board.specs.Live.{AreLive}
use Rattle.hazard_board.specs.NewClashes.{clash_either, clashes_among, clashes_if, left_clashes, row_changed}
use Rattle.hazard_board.specs.Taken.{row_left, add_row_if_some}
use Rattle.hazard_board.proofs.QuietRows.{clash_live, first_among}
use Rattle.hazard_board.proofs.SliceLemmas.{taken_in}
use Rattle.hazard_board.proofs.Turns.{add_row_if_some-sorted}

-- a filter behind a filter that lets all pass that it lets pass

within_step : (p q : Row → Bool) (b : Bool) (r : Row) (rows : List Row) → p r ≡ b → (q r ≡ true → p r ≡ true) → filter q (filter p rows) ≡ filter q rows → filter q (filter p (r ∷ rows)) ≡ filter q (r ∷ rows)
within_step p q true r rows is own more = rw is (ap (λ (xs : List Row). cond (q r) (r ∷ xs) xs) more)
within_step p q false r rows is own more =
    let out : q r ≡ false = false_from_ne_true _ (λ h. let never : true ≡ false = sym (own h) ∙ is in cc) in
    rw (is, out) more

pub filter_within : (p q : Row → Bool) (rows : List Row) → ((r : Row) → q r ≡ true → p r ≡ true) → filter q (filter p rows) ≡ filter q rows
filter_within p q [] own = refl
filter_within p q (r ∷ rows) own = within_step p q (p r) r rows refl (own r) (filter_within p q rows own)

-- at a later minute

later_end : (end : End) (m t : ℕ) → m ≤ t → ends_after end t ≡ true → ends_after end m ≡ true
later_end (At n) m t le h = grind (arith, nat_tests, le, h)
later_end Ufn m t le h = refl

live_before : (m t : ℕ) → m ≤ t → (r : Row) → is_live t r ≡ true → is_live m r ≡ true
live_before m t le r h = let p = and_parts (not r.ended) _ h in and_from _ _ p.0 (later_end r.period.end m t le p.1)

pub alike_later : (m t : ℕ) (xs ys : List Row) → m ≤ t → shown_at m xs ≡ shown_at m ys → shown_at t xs ≡ shown_at t ys
alike_later m t xs ys le alike =
    sym (filter_within (is_live m) (is_live t) xs (live_before m t le)) ∙ ap (shown_at t) alike ∙ filter_within (is_live m) (is_live t) ys (live_before m t le)

pub alike_since : (since : Option ℕ) (m t : ℕ) (rows live : List Row) → since ≡ Some m → AreLive since rows live → m ≤ t → shown_at t live ≡ shown_at t rows
alike_since None m t rows live is alike le = cc
alike_since (Some k) m t rows live is alike le =
    let same : k ≡ m = cc in
    alike_later m t live rows le (subst (λ (n : ℕ). shown_at n live ≡ shown_at n rows) same alike)

pub shown_twice : (t : ℕ) (rows : List Row) → shown_at t (shown_at t rows) ≡ shown_at t rows
shown_twice t rows = filter_within (is_live t) (is_live t) rows (λ r h. h)

pub shown_sorted : (t : ℕ) (rows : List Row) → IsStrictlySortedBy by_key rows → IsStrictlySortedBy by_key (shown_at t rows)
shown_sorted t rows up = IsStrictlySortedBy-filter by_key (is_live t) rows up

-- in a zone

filter_at : (p : Row → Bool) (b : Bool) (r : Row) (rows : List Row) → p r ≡ b → filter p (r ∷ rows) ≡ cond b (r ∷ filter p rows) (filter p rows)
filter_at p b r rows is = ap (λ (c : Bool). cond c (r ∷ filter p rows) (filter p rows)) is

swapped : (p q : Row → Bool) (b c : Bool) (r : Row) (rows : List Row) → p r ≡ b → q r ≡ c → filter p (filter q rows) ≡ filter q (filter p rows) → filter p (filter q (r ∷ rows)) ≡ filter q (filter p (r ∷ rows))
swapped p q true true r rows f g more =
    ap (filter p) (filter_at q true r rows g)
    ∙ filter_at p true r (filter q rows) f
    ∙ ap (λ (xs : List Row). r ∷ xs) more
    ∙ sym (filter_at q true r (filter p rows) g)
    ∙ sym (ap (filter q) (filter_at p true r rows f))
swapped p q true false r rows f g more =
    ap (filter p) (filter_at q false r rows g) ∙ more ∙ sym (filter_at q false r (filter p rows) g) ∙ sym (ap (filter q) (filter_at p true r rows f))
swapped p q false true r rows f g more =
    ap (filter p) (filter_at q true r rows g) ∙ filter_at p false r (filter q rows) f ∙ more ∙ sym (ap (filter q) (filter_at p false r rows f))
swapped p q false false r rows f g more =
    ap (filter p) (filter_at q false r rows g) ∙ more ∙ sym (ap (filter q) (filter_at p false r rows f))

filters_swap : (p q : Row → Bool) (rows : List Row) → filter p (filter q rows) ≡ filter q (filter p rows)
filters_swap p q [] = refl
filters_swap p q (r ∷ rows) = swapped p q (p r) (q r) r rows refl refl (filters_swap p q rows)

pub alike_in_zone : (t : ℕ) (z : Place) (xs ys : List Row) → shown_at t xs ≡ shown_at t ys → shown_at t (slice_of z xs) ≡ shown_at t (slice_of z ys)
alike_in_zone t z xs ys alike =
    filters_swap (is_live t) (λ (r : Row). same_zone r.zone z) xs
    ∙ ap (slice_of z) alike
    ∙ sym (filters_swap (is_live t) (λ (r : Row). same_zone r.zone z) ys)

-- a row that is put

module _ (p : Row → Bool) where
  passing : Option Row → Option Row
  passing None = None
  passing (Some r) = cond (p r) (Some r) None

  none_there : (e : Event) (z : Place) (r : Row) (rows : List Row) → AllByRecursion (λ y. by_key r y ≡ Less) rows → at_key e z r ≡ true → row_at rows e z ≡ None
  none_there e z r rows above here =
      let parts = at_key-parts e z r here in
      subst (λ (d : Event). row_at rows d z ≡ None) parts.0 (subst (λ (y : Place). row_at rows r.event y ≡ None) parts.1 (none_above r rows above))

  found_step : (b c : Bool) (e : Event) (z : Place) (r : Row) (rows : List Row) → (at_key e z r ≡ true → row_at rows e z ≡ None) → p r ≡ b → at_key e z r ≡ c → row_at (filter p rows) e z ≡ passing (row_at rows e z)
      → row_at (cond b (r ∷ filter p rows) (filter p rows)) e z ≡ passing (cond c (Some r) (row_at rows e z))
  unfolding passing
  found_step true true e z r rows none h k later = rw (h, k) refl
  found_step true false e z r rows none h k later = rw k later
  found_step false true e z r rows none h k later = rw h (later ∙ ap passing (none k))
  found_step false false e z r rows none h k later = later

  found_filtered : (e : Event) (z : Place) (rows : List Row) → IsStrictlySortedBy by_key rows → row_at (filter p rows) e z ≡ passing (row_at rows e z)
  unfolding IsStrictlySortedBy passing
  found_filtered e z [] up = refl
  found_filtered e z (r ∷ rows) up = found_step (p r) (at_key e z r) e z r rows (none_there e z r rows up.0) refl refl (found_filtered e z rows up.1)

  passing_put : (b : Bool) (row : Row) (o : Option Row) → passing (cond b (Some row) o) ≡ cond b (passing (Some row)) (passing o)
  passing_put true row o = refl
  passing_put false row o = refl

  found_put : (row : Row) (e : Event) (z : Place) (rows : List Row) → IsStrictlySortedBy by_key rows → row_at (filter p (put row rows)) e z ≡ cond (at_key e z row) (passing (Some row)) (row_at (filter p rows) e z)
  found_put row e z rows up =
      found_filtered e z (put row rows) (put-sorted row rows up)
      ∙ ap passing (row_at-put row rows e z)
      ∙ passing_put (at_key e z row) row (row_at rows e z)
      ∙ ap (λ (o : Option Row). cond (at_key e z row) (passing (Some row)) o) (sym (found_filtered e z rows up))

  filtered_put : (row : Row) (xs ys : List Row) → IsStrictlySortedBy by_key xs → IsStrictlySortedBy by_key ys → filter p xs ≡ filter p ys → filter p (put row xs) ≡ filter p (put row ys)
  filtered_put row xs ys up also alike =
      told_by_keys (filter p (put row xs)) (filter p (put row ys)) (IsStrictlySortedBy-filter by_key p (put row xs) (put-sorted row xs up)) (IsStrictlySortedBy-filter by_key p (put row ys) (put-sorted row ys also)) (λ e z.
      found_put row e z xs up
      ∙ ap (λ (rows : List Row). cond (at_key e z row) (passing (Some row)) (row_at rows e z)) alike
      ∙ sym (found_put row e z ys also))

pub alike_put : (t : ℕ) (row : Row) (xs ys : List Row) → IsStrictlySortedBy by_key xs → IsStrictlySortedBy by_key ys → shown_at t xs ≡ shown_at t ys → shown_at t (put row xs) ≡ shown_at t (put row ys)
alike_put t row xs ys up also alike = filtered_put (is_live t) row xs ys up also alike

alike_put_if : (t : ℕ) (o : Option Row) (xs ys : List Row) → IsStrictlySortedBy by_key xs → IsStrictlySortedBy by_key ys → shown_at t xs ≡ shown_at t ys → shown_at t (add_row_if_some o xs) ≡ shown_at t (add_row_if_some o ys)
alike_put_if t None xs ys up also alike = alike
alike_put_if t (Some row) xs ys up also alike = alike_put t row xs ys up also alike

-- and the rows that lines leave
pub alike_taken : (before : List Row) (t : ℕ) (lines : List Line) (xs ys : List Row) → IsStrictlySortedBy by_key xs → IsStrictlySortedBy by_key ys → shown_at t xs ≡ shown_at t ys → shown_at t (taken_in before t xs lines) ≡ shown_at t (taken_in before t ys lines)
alike_taken before t [] xs ys up also alike = alike
alike_taken before t (line ∷ lines) xs ys up also alike =
    let left = row_left before t line in
    alike_taken before t lines (add_row_if_some left xs) (add_row_if_some left ys) (add_row_if_some-sorted left xs up) (add_row_if_some-sorted left ys also) (alike_put_if t left xs ys up also alike)

pub live_put : (since : Option ℕ) (row : Row) (rows live : List Row) → IsStrictlySortedBy by_key rows → IsStrictlySortedBy by_key live → AreLive since rows live → AreLive since (put row rows) (put row live)
live_put None row rows live up also alike = alike
live_put (Some m) row rows live up also alike = alike_put m row live rows also up alike

-- clashes

may_be_live : (t : ℕ) (r : Row) → may_clash t r ≡ true → is_live t r ≡ true
may_be_live t r h = (and_parts (is_live t r) _ h).0

first_shown : (t : ℕ) (rows : List Row) → first_clash t (shown_at t rows) ≡ first_clash t rows
first_shown t rows =
    sym (first_among t (shown_at t rows))
    ∙ ap (first_clash t) (filter_within (is_live t) (may_clash t) rows (may_be_live t))
    ∙ first_among t rows

pub alike_first : (t : ℕ) (xs ys : List Row) → shown_at t xs ≡ shown_at t ys → first_clash t xs ≡ first_clash t ys
alike_first t xs ys alike = sym (first_shown t xs) ∙ ap (first_clash t) alike ∙ first_shown t ys

either_live : (t : ℕ) (a b : Row) (c d : Bool) → clash t a b ≡ c → clash t b a ≡ d → (c || d) ≡ true → is_live t b ≡ true
either_live t a b true d is also h = (clash_live t a b is).1
either_live t a b false true is also h = (clash_live t b a also).0
either_live t a b false false is also h = cc

alike_among : (t : ℕ) (xs ys : List Row) (r : Row) → shown_at t xs ≡ shown_at t ys → clashes_among t xs r ≡ clashes_among t ys r
alike_among t xs ys r alike =
    let live : (b : Row) → clash_either t r b ≡ true → is_live t b ≡ true = λ b h. either_live t r b (clash t r b) (clash t b r) refl refl h in
    sym (any-filter_same (clash_either t r) (is_live t) true live xs)
    ∙ ap (list_any (clash_either t r)) alike
    ∙ any-filter_same (clash_either t r) (is_live t) true live ys

alike_if : (t : ℕ) (xs ys : List Row) (o : Option Row) → shown_at t xs ≡ shown_at t ys → clashes_if t xs o ≡ clashes_if t ys o
alike_if t xs ys None alike = refl
alike_if t xs ys (Some r) alike = alike_among t xs ys r alike

pub alike_left : (t : ℕ) (before xs ys : List Row) (lines : List Line) → shown_at t xs ≡ shown_at t ys → list_any (left_clashes t before xs) lines ≡ list_any (left_clashes t before ys) lines
alike_left t before xs ys [] alike = refl
alike_left t before xs ys (line ∷ lines) alike = rw (alike_if t xs ys (row_changed before t line) alike, alike_left t before xs ys lines alike) refl

-- a row that is put only if a test holds

pub if_kept : (b : Bool) (P : List Row → Type 0) (new put_there old : List Row) → new ≡ cond b put_there old → (new ≡ put_there → P new) → (new ≡ old → P new) → P new
if_kept true P new put_there old is f g = f is
if_kept false P new put_there old is f g = g is

pub if_told : (b : Bool) (new put_there old whole p q : List Row) → new ≡ cond b put_there old → (new ≡ put_there → whole ≡ p) → (new ≡ old → whole ≡ q) → whole ≡ cond b p q
if_told true new put_there old whole p q is f g = f is
if_told false new put_there old whole p q is f g = g is
