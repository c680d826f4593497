-- The rows that lines leave, told once: put in turn they are the rows after the lines, and those that clash anew are those that the lines leave so.
use Rattle.std.proofs.Common.{◌≡◌, ◌∙◌, ◌||◌, ◌++◌, ℕ, suc, ◌+◌, ◌<◌, List, [], ◌∷◌, Bool, true, false, Option, Some, None, refl, sym, ap, fold, length, get_or, drop, drop-cons, option_to_list, arith}
use Rattle.std.specs.List.{list_any}
use Rattle.std.specs.List.Sorted.{IsStrictlySortedBy}
use Rattle.std.proofs.lemmas.List.Folds.{list_any-append}
use Rattle.std.proofs.lemmas.List.Sums.{fold-append}
use Rattle.hazard_types.specs.Places.{Place}
use Rattle.hazard_types.specs.declared.line.Line.{Line}
use Rattle.hazard_types.specs.declared.line.Row.{Row}
use Rattle.event_life.specs.Products.{by_key, put, row_at}
use Rattle.event_life.specs.Shown.{shown_at}
use Rattle.event_life.proofs.Puts.{put-sorted}
use Rattle.hazard_board.specs.Board.{slice_of}
use Rattle.hazard_board.specs.ByZone.{lines_of}
use Rattle.hazard_board.specs.NewClashes.{is_same, unless_same, clashes_among, clashes_if, left_clashes, left_if, left_by, lefts, put_lefts, is_new_clash}
use Rattle.hazard_board.specs.Taken.{row_left, add_row_if_some, rows_taken}
use Rattle.hazard_board.specs.declared.lines.Left.{Left}
use Rattle.hazard_board.proofs.LiveLemmas.{alike_put}
use Rattle.hazard_board.proofs.SliceLemmas.{taken_in, taken_slice}

-- put in turn

one_put : (held o : Option Row) (rows : List Row) → put_lefts rows (option_to_list (left_if held o)) ≡ add_row_if_some o rows
one_put held None rows = refl
one_put held (Some row) rows = refl

or_last : (b : Bool) → (b || false) ≡ b
or_last true = refl
or_last false = refl

or_assoc : (a b c : Bool) → ((a || b) || c) ≡ (a || (b || c))
or_assoc true b c = refl
or_assoc false b c = refl

module _ (rows : List Row) (t : ℕ) where
  abbrev lefts_on : List Left → List Line → List Left
  lefts_on some lines = fold (λ (so_far : List Left) (line : Line). so_far ++ left_by rows t line) some lines

  lefts_taken : (after : List Row) (some : List Left) (lines : List Line) → put_lefts after (lefts_on some lines) ≡ taken_in rows t (put_lefts after some) lines
  lefts_taken after some [] = refl
  lefts_taken after some (line ∷ lines) =
      lefts_taken after (some ++ left_by rows t line) lines
      ∙ ap (λ (a : List Row). taken_in rows t a lines)
      (fold-append (λ (a : List Row) (left : Left). put left.row a) after some (left_by rows t line)
      ∙ one_put (row_at rows line.event line.zone) (row_left rows t line) (put_lefts after some))

  pub lefts_put : (after : List Row) (lines : List Line) → put_lefts after (lefts rows t lines) ≡ taken_in rows t after lines
  lefts_put after lines = lefts_taken after [] lines

  -- those that clash anew

  new_by : (b : Bool) (r : Row) (held : Option Row) (some : List Row) → is_same held r ≡ b → list_any (is_new_clash t some) (option_to_list (left_if held (Some r))) ≡ clashes_if t some (unless_same held (Some r))
  new_by true r held some is = rw is refl
  new_by false r held some is = rw is (or_last (clashes_among t some r))

  one_new : (held o : Option Row) (some : List Row) → list_any (is_new_clash t some) (option_to_list (left_if held o)) ≡ clashes_if t some (unless_same held o)
  one_new held None some = refl
  one_new held (Some r) some = new_by (is_same held r) r held some refl

  lefts_new : (target : List Row) (some : List Left) (lines : List Line) → list_any (is_new_clash t target) (lefts_on some lines) ≡ (list_any (is_new_clash t target) some || list_any (left_clashes t rows target) lines)
  lefts_new target some [] = sym (or_last (list_any (is_new_clash t target) some))
  lefts_new target some (line ∷ lines) =
      lefts_new target (some ++ left_by rows t line) lines
      ∙ ap (λ (b : Bool). b || list_any (left_clashes t rows target) lines)
      (list_any-append (is_new_clash t target) some (left_by rows t line)
      ∙ ap (λ (b : Bool). list_any (is_new_clash t target) some || b) (one_new (row_at rows line.event line.zone) (row_left rows t line) target))
      ∙ or_assoc (list_any (is_new_clash t target) some) (left_clashes t rows target line) (list_any (left_clashes t rows target) lines)

  pub lefts_clash : (target : List Row) (lines : List Line) → list_any (is_new_clash t target) (lefts rows t lines) ≡ list_any (left_clashes t rows target) lines
  lefts_clash target lines = lefts_new target [] lines

-- rows of which the same are live stay so

pub alike_lefts : (t : ℕ) (some : List Left) (xs ys : List Row) → IsStrictlySortedBy by_key xs → IsStrictlySortedBy by_key ys → shown_at t xs ≡ shown_at t ys → shown_at t (put_lefts xs some) ≡ shown_at t (put_lefts ys some)
alike_lefts t [] xs ys up up_too alike = alike
alike_lefts t (left ∷ some) xs ys up up_too alike =
    alike_lefts t some (put left.row xs) (put left.row ys) (put-sorted left.row xs up) (put-sorted left.row ys up_too) (alike_put t left.row xs ys up up_too alike)

-- one more is put
pub put_next : (now after : List Row) (some : List Left) (i : ℕ) (left : Left) → i < length some → left ≡ get_or some i left → after ≡ put left.row now → put_lefts after (drop (i + 1) some) ≡ put_lefts now (drop i some)
put_next now after some i left within is put_there =
    let next : suc i ≡ i + 1 = omega arith in
    let cut : drop i some ≡ left ∷ drop (i + 1) some = drop-cons some i left within ∙ ap (λ (l : Left). l ∷ drop (suc i) some) (sym is) ∙ ap (λ (n : ℕ). left ∷ drop n some) next in
    ap (λ (rows : List Row). put_lefts rows (drop (i + 1) some)) put_there ∙ ap (put_lefts now) (sym cut)

-- and are those of the zone after the lines
pub zone_left : (t : ℕ) (z : Place) (rows after : List Row) (own lines : List Line) (left : List Left) → IsStrictlySortedBy by_key rows → own ≡ lines_of z lines → left ≡ lefts rows t own →
    shown_at t after ≡ shown_at t (put_lefts (slice_of z rows) left) → shown_at t after ≡ shown_at t (slice_of z (rows_taken rows t lines))
zone_left t z rows after own lines left up own_is left_is live =
    live
    ∙ ap (shown_at t)
    (ap (put_lefts (slice_of z rows)) left_is
    ∙ lefts_put rows t (slice_of z rows) own
    ∙ ap (taken_in rows t (slice_of z rows)) own_is
    ∙ taken_slice z rows t lines up)
