-- Of rows that were apart, only those may clash that are new or not as they were.
use Rattle.std.proofs.Common.{◌≡◌, ◌∙◌, ◌⊎◌, inl, inr, ◌&&◌, not, ℕ, List, [], ◌∷◌, Bool, true, false, Option, Some, None, Less, refl, sym, ap, subst, cond, filter, find}
use Rattle.std.specs.List.{AllByRecursion, list_any}
use Rattle.std.specs.List.Sorted.{IsStrictlySortedBy}
use Rattle.std.proofs.lemmas.Bool.{false_from_ne_true}
use Rattle.hazard_types.specs.Places.{Place}
use Rattle.hazard_types.specs.Same.{same_zone}
use Rattle.hazard_types.specs.declared.hazard.Event.{Event}
use Rattle.hazard_types.specs.declared.line.Line.{Line}
use Rattle.hazard_types.specs.declared.line.Row.{Row}
use Rattle.hazard_types.proofs.Equality.{row_one, row_itself}
use Rattle.event_life.specs.Products.{by_key, put, row_at}
use Rattle.event_life.proofs.FreeOrder.{told_by_keys}
use Rattle.event_life.proofs.Puts.{at_key, at_key-parts, put-all, put-sorted, row_at-put}
use Rattle.hazard_board.specs.Clashes.{clash, first_clash}
use Rattle.hazard_board.specs.Consistent.{collide, EachToLater}
use Rattle.hazard_board.specs.NewClashes.{is_same, stands, clash_either, clashes_among, new_clash, clashes_if, left_clashes, unless_same}
use Rattle.hazard_board.specs.Board.{slice_of}
use Rattle.hazard_board.specs.Taken.{row_left, add_row_if_some}
use Rattle.hazard_board.proofs.Among.{IsAmong, of_all, all_of, found_at, none_of_them, found_among, of_each, each_of}
use Rattle.hazard_board.proofs.QuietRows.{clash_collides}
use Rattle.hazard_board.proofs.SliceLemmas.{either_false, taken_in}

-- rows of which no two clash have no first clash

none_with : (t : ℕ) (row : Row) (rows : List Row) → AllByRecursion (λ b. clash t row b ≡ false) rows → find (clash t row) rows ≡ None
none_with t row [] all = refl
none_with t row (r ∷ rows) all = rw (all.0) (none_with t row rows all.1)

none_clash : (t : ℕ) (rows : List Row) → EachToLater (λ a b. clash t a b ≡ false) rows → first_clash t rows ≡ None
none_clash t [] all = refl
none_clash t (row ∷ rows) all = rw (none_with t row rows all.0) (none_clash t rows all.1)

-- a row that stands is among the rows

same_found : (o : Option Row) (r : Row) → is_same o r ≡ true → o ≡ Some r
same_found None r h = cc
same_found (Some old) r h = ap (λ (x : Row). Some x) (row_one old r h)

first_held : (b : Bool) (r : Row) (o : Option Row) → (b ≡ true → o ≡ Some r) → cond b (Some r) o ≡ o
first_held true r o h = sym (h refl)
first_held false r o h = refl

stands_among : (rows : List Row) (r : Row) → stands rows r ≡ true → IsAmong r rows
stands_among rows r h = found_among (at_key r.event r.zone) rows r (same_found (row_at rows r.event r.zone) r h)

-- so it is where it is found as it is, whatever was asked for
stands_there : (rows : List Row) → IsStrictlySortedBy by_key rows → (e : Event) (z : Place) (r : Row) → is_same (row_at rows e z) r ≡ true → stands rows r ≡ true
stands_there rows up e z r h =
    let here = found_among (at_key e z) rows r (same_found (row_at rows e z) r h) in
    ap (λ (o : Option Row). is_same o r) (found_at rows r up here) ∙ row_itself r

-- a row that stands is put where it stands
pub put_same : (rows : List Row) → IsStrictlySortedBy by_key rows → (e : Event) (z : Place) (r : Row) → is_same (row_at rows e z) r ≡ true → put r rows ≡ rows
put_same rows up e z r h =
    let here = found_among (at_key e z) rows r (same_found (row_at rows e z) r h) in
    told_by_keys (put r rows) rows (put-sorted r rows up) up (λ f y. row_at-put r rows f y ∙ first_held (at_key f y r) r (row_at rows f y) (λ own. let key = at_key-parts f y r own in rw (sym key.0, sym key.1) (found_at rows r up here)))

new_apart : (p q : Bool) → p ≡ false → (not p && q) ≡ false → q ≡ false
new_apart true q is h = cc
new_apart false q is h = h

module _ (t : ℕ) (rows some : List Row) (up : IsStrictlySortedBy by_key rows) (apart : EachToLater (λ a b. collide a b ≡ true → ⊥) rows) (none : list_any (new_clash t rows some) some ≡ false) where
  quiet_new : (x y : Row) → IsAmong x some → IsAmong y some → stands rows x ≡ false → clash_either t x y ≡ false
  quiet_new x y h g new =
      let quiet : clashes_among t some x ≡ false = new_apart (stands rows x) (clashes_among t some x) new (of_all (λ r. new_clash t rows some r ≡ false) some x (none_of_them (new_clash t rows some) some none) h) in
      of_all (λ r. clash_either t x r ≡ false) some y (none_of_them (clash_either t x) some quiet) g

  quiet_pair : (p q : Bool) (a b : Row) → stands rows a ≡ p → stands rows b ≡ q → IsAmong a some → IsAmong b some → by_key a b ≡ Less → clash t a b ≡ false
  quiet_pair false q a b e f h g less = (either_false (clash t a b) (clash t b a) (quiet_new a b h g e)).0
  quiet_pair true false a b e f h g less = (either_false (clash t b a) (clash t a b) (quiet_new b a g h f)).1
  quiet_pair true true a b e f h g less = false_from_ne_true _ (λ k. of_each (λ a b. collide a b ≡ true → ⊥) rows a b apart up (stands_among rows a e) (stands_among rows b f) less (clash_collides t a b k))

  pub no_new_clash : IsStrictlySortedBy by_key some → first_clash t some ≡ None
  no_new_clash order = none_clash t some (each_of (λ a b. clash t a b ≡ false) some order (λ a b. quiet_pair (stands rows a) (stands rows b) a b refl refl))

-- rows that no line leaves stand as they are

and_never : (p q : Bool) → (p ≡ true) ⊎ (q ≡ false) → (not p && q) ≡ false
and_never true q h = refl
and_never false q (inl h) = cc
and_never false q (inr h) = h

filter_step : (P : Row → Type 0) (p : Row → Bool) (b : Bool) (r : Row) (rows : List Row) → p r ≡ b → P r → AllByRecursion P (filter p rows) → AllByRecursion P (filter p (r ∷ rows))
filter_step P p true r rows is own all = rw is (own, all)
filter_step P p false r rows is own all = rw is all

all_kept : (P : Row → Type 0) (p : Row → Bool) (rows : List Row) → AllByRecursion P rows → AllByRecursion P (filter p rows)
all_kept P p [] all = tt
all_kept P p (r ∷ rows) all = filter_step P p (p r) r rows refl all.0 (all_kept P p rows all.1)

module _ (t : ℕ) (rows target : List Row) where
  abbrev IsQuiet : Row → Type 0
  IsQuiet r = (stands rows r ≡ true) ⊎ (clashes_among t target r ≡ false)

  quiet_by : (b : Bool) (held : Option Row) (row : Row) → is_same held row ≡ b → (b ≡ true → stands rows row ≡ true) → clashes_if t target (unless_same held (Some row)) ≡ false → IsQuiet row
  quiet_by true held row is here h = inl (here refl)
  quiet_by false held row is here h = inr (rw is at h)

  put_quiet : IsStrictlySortedBy by_key rows → (e : Event) (z : Place) (o : Option Row) (after : List Row) → clashes_if t target (unless_same (row_at rows e z) o) ≡ false → AllByRecursion IsQuiet after → AllByRecursion IsQuiet (add_row_if_some o after)
  put_quiet up e z None after h all = all
  put_quiet up e z (Some row) after h all = put-all IsQuiet row after (quiet_by (is_same (row_at rows e z) row) (row_at rows e z) row refl (stands_there rows up e z row) h) all

  all_quiet : IsStrictlySortedBy by_key rows → (lines : List Line) (after : List Row) → list_any (left_clashes t rows target) lines ≡ false → AllByRecursion IsQuiet after → AllByRecursion IsQuiet (taken_in rows t after lines)
  all_quiet up [] after h all = all
  all_quiet up (line ∷ lines) after h all =
      let p = either_false (left_clashes t rows target line) (list_any (left_clashes t rows target) lines) h in
      all_quiet up lines (add_row_if_some (row_left rows t line) after) p.1 (put_quiet up line.event line.zone (row_left rows t line) after p.0 all)

  stand_quiet : IsStrictlySortedBy by_key rows → (r : Row) → IsAmong r rows → IsQuiet r
  stand_quiet up r h = inl (ap (λ (o : Option Row). is_same o r) (found_at rows r up h) ∙ row_itself r)

  none_new : (some : List Row) → AllByRecursion IsQuiet some → list_any (new_clash t rows target) some ≡ false
  none_new [] all = refl
  none_new (r ∷ some) all = rw (and_never (stands rows r) (clashes_among t target r) all.0) (none_new some all.1)

  -- where no line's row clashes, no row does that is new, or not as it was
  pub none_left : (z : Place) (own : List Line) → IsStrictlySortedBy by_key rows → list_any (left_clashes t rows target) own ≡ false → target ≡ taken_in rows t (slice_of z rows) own → list_any (new_clash t rows target) target ≡ false
  none_left z own up h is =
      none_new target (subst (λ (some : List Row). AllByRecursion IsQuiet some) (sym is)
      (all_quiet up own (slice_of z rows) h (all_kept IsQuiet (λ r. same_zone r.zone z) rows (all_of IsQuiet rows (stand_quiet up)))))
