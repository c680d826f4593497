-- The lawful lines of a product change what is counted to what is to be counted after it.
use Rattle.std.proofs.Common.{◌≡◌, ◌∙◌, ◌≤◌, ℕ, ◌+◌, ◌&&◌, not, Bool, true, false, cond, List, [], ◌∷◌, ◌++◌, length, fold, Option, Some, None, refl, ap, sym, subst, arith, append_assoc, append-nil, length-append}
use Rattle.std.specs.BTreeMap.{insert_entry, is_at}
use Rattle.std.specs.List.{AllByRecursion, filter}
use Rattle.std.specs.List.Sorted.{IsStrictlySortedBy}
use Rattle.std.specs.Option.{is_none}
use Rattle.std.specs.Prelude.{nat_le, max, option_map, IfSome}
use Rattle.std.proofs.lemmas.Grind.{fold-append}
use Rattle.hazard_types.specs.Places.{Place}
use Rattle.hazard_types.specs.declared.codes.Action.{Action}
use Rattle.hazard_types.specs.declared.codes.Action.TheVariants.{New, Con, Exa, Ext, Exb, Upg, Can, Exp, Cor, Rou}
use Rattle.hazard_types.specs.declared.hazard.Event.{Event}
use Rattle.hazard_types.specs.declared.line.Line.{Line}
use Rattle.hazard_types.specs.declared.line.Row.{Row}
use Rattle.hazard_types.proofs.Equality.{zone_itself, event_itself}
use Rattle.event_life.specs.Firsts.{is_lawful, first_line, row_by_first}
use Rattle.event_life.specs.Lives.{ends}
use Rattle.event_life.specs.Table.{first_of, on_nothing, breach_of_line}
use Rattle.event_life.specs.declared.life.Around.{Around}
use Rattle.event_life.specs.declared.life.Breach.{Breach}
use Rattle.event_life.specs.declared.life.Life.{Life}
use Rattle.event_life.specs.Products.{Product, by_key, put, row_at, life_at, life_of, row_after, is_routine, is_second, around_of, breach_in, concerns, judged_from, judged, lawful_of, put_all, lines_of, rows_after, rows_with, rows_of}
use Rattle.event_life.proofs.Members.{find_in}
use Rattle.event_life.proofs.Puts.{at_key, at_key-parts, rows_after-sorted, put_all-sorted}
use Rattle.event_life.proofs.Spoken.{breach_in-second, breach_in-first, AreTouching, lawful_of-touches, lawful_first, spoken, row_by_last, row_at-put_all, row_at-rows_after}
use Rattle.stats_report.specs.Minutes.{greatest, governing, has_effect, in_effect, minutes_of, minutes_left}
use Rattle.stats_report.specs.Spots.{Spots, by_spot, spot_of, spot_of_line, rows_in, AreSpotted, AreExact, IsCounted, counted_at, row_counted, minutes_counted, row_left, counted_after, changed, Spot, Counted}
use Rattle.stats_report.specs.Spells.{moment_of}
use Rattle.stats_report.specs.Summed.{IsFit, AreFit}
use Rattle.stats_report.specs.declared.standing.Moment.{Moment}
use Rattle.stats_report.proofs.Counting.{count_none}
use Rattle.stats_report.proofs.Found.{rows_put, spotted_put, Each, each_put, row_found, OfFound, of_found, Own, own_rows}
use Rattle.stats_report.proofs.Governing.{minutes_step, left_within}

-- the row is of the line's event in its zone
abbrev IsOwn : Line → Option Row → Type 0
IsOwn line before = IfSome before (λ r. (r.event ≡ line.event) × (r.zone ≡ line.zone))

-- no two lawful lines of a product speak of one event and zone

filter_both : (p : Line → Bool) (xs ys : List Line) → filter p (xs ++ ys) ≡ filter p xs ++ filter p ys
filter_both p [] ys = refl
filter_both p (x ∷ xs) ys = by_test (p x) (filter_both p xs ys)
  where
    by_test : (b : Bool) → filter p (xs ++ ys) ≡ filter p xs ++ filter p ys → cond b (x ∷ filter p (xs ++ ys)) (filter p (xs ++ ys)) ≡ cond b (x ∷ filter p xs) (filter p xs) ++ filter p ys
    by_test true later = ap (λ (ls : List Line). x ∷ ls) later
    by_test false later = later

one_first : (rows : List Row) (t : ℕ) (all : List Line) (o : Option Line) → length (lawful_first rows t all o) ≤ 1
one_first rows t all None = omega arith
one_first rows t all (Some line) = by_test (is_lawful rows t all line)
  where
    by_test : (b : Bool) → length (cond b (line ∷ []) []) ≤ 1
    by_test true = omega arith
    by_test false = omega arith

none_of : (xs : List Line) → length xs ≤ 0 → xs ≡ []
none_of [] h = refl
none_of (x ∷ xs) h = absurd (omega (arith, h))

touching_front : (xs ys : List Line) → AreTouching (xs ++ ys) → AreTouching xs
touching_front [] ys h = tt
touching_front (x ∷ xs) ys h = (h.0, touching_front xs ys h.1)

touching_next : (xs : List Line) (y : Line) (ys : List Line) → AreTouching (xs ++ y ∷ ys) → is_routine y.action ≡ false
touching_next [] y ys h = h.0
touching_next (x ∷ xs) y ys h = touching_next xs y ys h.1

speaks_itself : (line : Line) → is_routine line.action ≡ false → concerns line.event line.zone line ≡ true
speaks_itself line h = rw (h, event_itself line.event, zone_itself line.zone) refl

filter_first : (p : Line → Bool) (line : Line) (lines : List Line) → p line ≡ true → filter p (line ∷ lines) ≡ line ∷ filter p lines
filter_first p line lines h = rw h refl

module _ (rows : List Row) (t : ℕ) (all : List Line) where
  abbrev lawful : List Line
  lawful = lawful_of (judged rows t all)

  -- so the row that a lawful line meets is that of before the product
  unmoved : (done : List Line) (line : Line) (lines : List Line) → lawful ≡ done ++ line ∷ lines → row_at (put_all rows t done rows) line.event line.zone ≡ row_at rows line.event line.zone
  unmoved done line lines is =
      let touch : AreTouching (done ++ line ∷ lines) = subst (λ (ls : List Line). AreTouching ls) is (lawful_of-touches (judged rows t all)) in
      let test : Line → Bool = concerns line.event line.zone in
      let first = spoken rows t all line.event line.zone [] all in
      let own = filter_first test line lines (speaks_itself line (touching_next done line lines touch)) in
      let parts : filter test lawful ≡ filter test done ++ line ∷ filter test lines = ap (filter test) is ∙ filter_both test done (line ∷ lines) ∙ ap (λ (ls : List Line). filter test done ++ ls) own in
      let few = one_first rows t all (first_line all line.event line.zone) in
      let none : filter test done ≡ [] = none_of (filter test done) (omega (arith, few, ap length parts, ap length first, length-append (filter test done) (line ∷ filter test lines))) in
      row_at-put_all rows t line.event line.zone done rows (touching_front done (line ∷ lines) touch)
      ∙ ap (λ (ls : List Line). row_by_last rows t ls (row_at rows line.event line.zone)) none

put_all_last : (rows : List Row) (t : ℕ) (done : List Line) (line : Line) (after : List Row) → put_all rows t (done ++ line ∷ []) after ≡ put (row_after rows t line) (put_all rows t done after)
put_all_last rows t [] line after = refl
put_all_last rows t (l ∷ done) line after = put_all_last rows t done line (put (row_after rows t l) after)

-- an event without a row has had none

back_by : (b : Bool) (r : Row) (o : Option Row) → cond b (Some r) o ≡ None → o ≡ None
back_by true r o h = cc
back_by false r o h = h

back_first : (rows : List Row) (t : ℕ) (all : List Line) (before : Option Row) (o : Option Line) → row_by_first rows t all before o ≡ None → before ≡ None
back_first rows t all before None h = h
back_first rows t all before (Some line) h = back_by (is_lawful rows t all line) (row_after rows t line) before h

module _ (e : Event) (z : Place) where
  none_back : (rows : List Row) (p : Product) → row_at (rows_with rows p) e z ≡ None → row_at rows e z ≡ None
  none_back rows p h =
      let lines = lines_of rows p.issue p.said in
      back_first rows p.issue lines (row_at rows e z) (first_line lines e z) (sym (row_at-rows_after rows p.issue lines e z) ∙ h)

  none_before : (rows : List Row) (products : List Product) → row_at (fold rows_with rows products) e z ≡ None → row_at rows e z ≡ None
  none_before rows [] h = h
  none_before rows (p ∷ products) h = none_back rows p (none_before (rows_with rows p) products h)

  none_by : (b : Bool) (rows : List Row) (p : Product) (products : List Product) → row_at (fold rows_with (rows_with rows p) products) e z ≡ None → row_at rows e z ≡ None → row_at (fold rows_with rows (cond b (p ∷ products) [])) e z ≡ None
  none_by true rows p products later none = later
  none_by false rows p products later none = none

  none_governing : (m : ℕ) (rows : List Row) (products : List Product) → row_at (fold rows_with rows products) e z ≡ None → row_at (fold rows_with rows (governing m products)) e z ≡ None
  none_governing m rows [] h = h
  none_governing m rows (p ∷ products) h = none_by (nat_le p.issue m) rows p (governing m products) (none_governing m (rows_with rows p) products h) (none_back rows p (none_before (rows_with rows p) products h))

  no_minutes : (stamp : ℕ) (products : List Product) → row_at (rows_of products) e z ≡ None → minutes_of stamp products e z ≡ 0
  unfolding minutes_of
  no_minutes stamp products h = count_none stamp (in_effect products e z) (λ m. ap (λ (o : Option Row). has_effect o m) (none_governing m [] products h))

-- rows of products are in order

sorted_from : (rows : List Row) (products : List Product) → IsStrictlySortedBy by_key rows → IsStrictlySortedBy by_key (fold rows_with rows products)
sorted_from rows [] up = up
sorted_from rows (p ∷ products) up = sorted_from (rows_with rows p) products (rows_after-sorted rows p.issue (lines_of rows p.issue p.said) up)

rows_sorted : (products : List Product) → IsStrictlySortedBy by_key (rows_of products)
unfolding IsStrictlySortedBy
rows_sorted products = sorted_from [] products tt

-- one line more

module _ (stamp from : ℕ) (products : List Product) (p : Product) (is : from ≡ max (greatest products) p.issue) where
  abbrev before : List Row
  before = rows_of products

  abbrev spoken_lines : List Line
  spoken_lines = lines_of before p.issue p.said

  abbrev all_lawful : List Line
  all_lawful = lawful_of (judged before p.issue spoken_lines)

  abbrev IsMoved : Counted → Type 0
  IsMoved c = c.minutes + minutes_left stamp from (row_at before c.row.event c.row.zone) ≡ minutes_of stamp products c.row.event c.row.zone + minutes_left stamp from (Some c.row)

  record Moved (now : List Row) (es : Spots) : Type 0 where
    rows : rows_in es ≡ now
    spotted : AreSpotted es
    moved : Each IsMoved es

  -- what is counted at a line's spot is what was counted before the product
  found_minutes : (line : Line) (found : Option Counted) → row_counted found ≡ row_at before line.event line.zone → IsOwn line (row_counted found) → OfFound IsMoved found → minutes_counted found ≡ minutes_of stamp products line.event line.zone
  found_minutes line None row own moved = sym (no_minutes line.event line.zone stamp products (sym row))
  found_minutes line (Some c) row own moved =
      let same : row_at before c.row.event c.row.zone ≡ Some c.row = ap (λ (e : Event). row_at before e c.row.zone) own.0 ∙ ap (λ (z : Place). row_at before line.event z) own.1 ∙ sym row in
      let left : minutes_left stamp from (row_at before c.row.event c.row.zone) ≡ minutes_left stamp from (Some c.row) = ap (minutes_left stamp from) same in
      let minutes : minutes_of stamp products c.row.event c.row.zone ≡ minutes_of stamp products line.event line.zone = ap (λ (e : Event). minutes_of stamp products e c.row.zone) own.0 ∙ ap (minutes_of stamp products line.event) own.1 in
      omega (arith, moved, left, minutes)

  own_by : (line : Line) (o : Option Row) → row_at before line.event line.zone ≡ o → IsOwn line o
  own_by line None h = tt
  own_by line (Some r) h = own_found line r before h
    where
      own_found : (line : Line) (r : Row) (rows : List Row) → row_at rows line.event line.zone ≡ Some r → (r.event ≡ line.event) × (r.zone ≡ line.zone)
      own_found line r rows h = at_key-parts line.event line.zone r (find_in (at_key line.event line.zone) rows r h).1

  left_row : (line : Line) → row_left (row_at before line.event line.zone) line p.issue ≡ row_after before p.issue line
  unfolding row_left
  left_row line = refl

  left_event : (o : Option Row) (line : Line) → (row_left o line p.issue).event ≡ line.event
  unfolding row_left
  left_event o line = refl

  left_zone : (o : Option Row) (line : Line) → (row_left o line p.issue).zone ≡ line.zone
  unfolding row_left
  left_zone o line = refl

  left_spot : (o : Option Row) (line : Line) → spot_of (row_left o line p.issue) ≡ spot_of_line line
  unfolding row_left
  left_spot o line = refl

  put_is : rows_after before p.issue spoken_lines ≡ put_all before p.issue all_lawful before
  unfolding rows_after
  put_is = refl

  -- the row at a line's spot is that of before the product, and so are its minutes
  row_before : (done : List Line) (line : Line) (lines : List Line) (es : Spots) → all_lawful ≡ done ++ line ∷ lines → Moved (put_all before p.issue done before) es
      → row_counted (counted_at es line) ≡ row_at before line.event line.zone
  row_before done line lines es parts moved =
      row_found es moved.spotted line.event line.zone ∙ ap (λ (rows : List Row). row_at rows line.event line.zone) moved.rows ∙ unmoved before p.issue spoken_lines done line lines parts

  minutes_before : (done : List Line) (line : Line) (lines : List Line) (es : Spots) → all_lawful ≡ done ++ line ∷ lines → Moved (put_all before p.issue done before) es
      → minutes_counted (counted_at es line) ≡ minutes_of stamp products line.event line.zone
  minutes_before done line lines es parts moved =
      let row = row_before done line lines es parts moved in
      let own : IsOwn line (row_counted (counted_at es line)) = subst (IsOwn line) (sym row) (own_by line (row_at before line.event line.zone) refl) in
      found_minutes line (counted_at es line) row own (of_found IsMoved (is_at (by_spot (spot_of_line line))) es moved.moved)

  step : (done : List Line) (line : Line) (lines : List Line) (es : Spots) → all_lawful ≡ done ++ line ∷ lines → Moved (put_all before p.issue done before) es
      → Moved (put_all before p.issue (done ++ line ∷ []) before) (changed stamp from p.issue es line)
  step done line lines es parts moved =
      let found : Option Counted = counted_at es line in
      let row = row_before done line lines es parts moved in
      let minutes = minutes_before done line lines es parts moved in
      let left = ap (minutes_left stamp from) row in
      let within = left_within products p line.event line.zone from is stamp in
      let after = counted_after stamp from p.issue line found in
      let row_is : after.row ≡ row_after before p.issue line = ap (λ (o : Option Row). row_left o line p.issue) row ∙ left_row line in
      let event_is : after.row.event ≡ line.event = left_event (row_counted found) line in
      let zone_is : after.row.zone ≡ line.zone = left_zone (row_counted found) line in
      let spot_is : spot_of after.row ≡ spot_of_line line = left_spot (row_counted found) line in
      let own_left = ap (λ (e : Event). minutes_left stamp from (row_at before e after.row.zone)) event_is ∙ ap (λ (z : Place). minutes_left stamp from (row_at before line.event z)) zone_is in
      let own_minutes = ap (λ (e : Event). minutes_of stamp products e after.row.zone) event_is ∙ ap (λ (z : Place). minutes_of stamp products line.event z) zone_is in
      let new : IsMoved after = omega (arith, minutes, left, within, own_left, own_minutes) in
      let put_es : Spots = insert_entry by_spot es (spot_of after.row) after in
      let same : put_es ≡ changed stamp from p.issue es line = ap (λ (k : Spot). insert_entry by_spot es k after) spot_is in
      record {
        rows = ap rows_in (sym same) ∙ rows_put after es moved.spotted ∙ ap (λ (rows : List Row). put after.row rows) moved.rows ∙ ap (λ (r : Row). put r (put_all before p.issue done before)) row_is ∙ sym (put_all_last before p.issue done line before);
        spotted = subst (λ (es : Spots). AreSpotted es) same (spotted_put after es moved.spotted);
        moved = each_put IsMoved (spot_of_line line) after es new moved.moved;
      }

  all_steps : (done lines : List Line) (es : Spots) → all_lawful ≡ done ++ lines → Moved (put_all before p.issue done before) es
      → Moved (put_all before p.issue all_lawful before) (fold (changed stamp from p.issue) es lines)
  all_steps done [] es parts moved = subst (λ (ls : List Line). Moved (put_all before p.issue ls before) es) (sym (append-nil done) ∙ sym parts) moved
  all_steps done (line ∷ lines) es parts moved =
      all_steps (done ++ line ∷ []) lines (changed stamp from p.issue es line) (parts ∙ sym (append_assoc done (line ∷ []) lines)) (step done line lines es parts moved)

  -- at the product's end

  abbrev products' : List Product
  products' = products ++ p ∷ []

  rows_next : put_all before p.issue all_lawful before ≡ rows_of products'
  unfolding rows_after
  rows_next = sym (fold-append rows_with [] products (p ∷ []))

  exact_by : (rows : List Row) (es : Spots) → rows ≡ rows_of products' → Each IsMoved es → Own rows (rows_in es) → AreExact stamp products' es
  exact_by rows [] is moved own = tt
  exact_by rows (e ∷ es) rows_are moved own =
      let r : Row = e.1.row in
      let at : row_at (rows_of products') r.event r.zone ≡ Some r = subst (λ (rows : List Row). row_at rows r.event r.zone ≡ Some r) rows_are own.0 in
      let law = minutes_step products p r.event r.zone from is stamp in
      let left = ap (minutes_left stamp from) at in
      (omega (arith, law, left, moved.0), exact_by rows es rows_are moved.1 own.1)

  moved_first : (es : Spots) → AreExact stamp products es → Own before (rows_in es) → Each IsMoved es
  moved_first [] exact own = tt
  moved_first (e ∷ es) exact own =
      let left = ap (minutes_left stamp from) own.0 in
      (omega (arith, exact.0, left), moved_first es exact.1 own.1)

  module _ (es : Spots) (counted : IsCounted stamp products es) where
    sorted : IsStrictlySortedBy by_key before
    sorted = rows_sorted products

    first : Moved before es
    first = record {
      rows = counted.rows;
      spotted = counted.spotted;
      moved = moved_first es counted.exact (subst (Own before) (sym counted.rows) (own_rows before sorted));
    }

    pub counted_next : IsCounted stamp products' (fold (changed stamp from p.issue) es all_lawful)
    counted_next =
        let moved = all_steps [] all_lawful es refl first in
        let rows_are = moved.rows ∙ rows_next in
        let up : IsStrictlySortedBy by_key (rows_of products') = subst (IsStrictlySortedBy by_key) (put_is ∙ rows_next) (rows_after-sorted before p.issue spoken_lines sorted) in
        record {
          rows = rows_are;
          spotted = moved.spotted;
          exact = exact_by (rows_of products') (fold (changed stamp from p.issue) es all_lawful) refl moved.moved (subst (Own (rows_of products')) (sym rows_are) (own_rows (rows_of products') up));
        }

  -- so each lawful line fits what is counted before it

  abbrev m : Moment
  m = moment_of stamp from p.issue

  going_by : (a : Action) (line : Line) (around : Around) → first_of (on_nothing a line p.issue around) ≡ None → ends a ≡ false
  going_by New line around h = refl
  going_by Con line around h = cc
  going_by Exa line around h = refl
  going_by Ext line around h = cc
  going_by Exb line around h = refl
  going_by Upg line around h = cc
  going_by Can line around h = cc
  going_by Exp line around h = cc
  going_by Cor line around h = cc
  going_by Rou line around h = refl

  -- a lawful line has no breach on the life of its row
  abbrev IsLawful : Line → Type 0
  IsLawful line = (around : Around) × (breach_of_line (life_at before line) line p.issue around ≡ None)

  breach_none : (b : Option Breach) → is_none b ≡ true → b ≡ None
  breach_none None h = refl
  breach_none (Some b) h = cc

  lawful_by : (earlier : List Line) (line : Line) (r s : Bool) → is_routine line.action ≡ r → is_second earlier line ≡ s → (not r && is_none (breach_in before p.issue spoken_lines earlier line)) ≡ true → IsLawful line
  lawful_by earlier line true s h g t = cc
  lawful_by earlier line false true h g t = let e = breach_none (breach_in before p.issue spoken_lines earlier line) t in let f = sym (breach_in-second before p.issue spoken_lines earlier line h g) ∙ e in cc
  lawful_by earlier line false false h g t =
      let e = breach_none (breach_in before p.issue spoken_lines earlier line) t in
      (around_of before p.issue spoken_lines line, sym (breach_in-first before p.issue spoken_lines earlier line h g) ∙ e)

  lawful_test : (b : Bool) (earlier : List Line) (line : Line) (more : List Line) → (not (is_routine line.action) && is_none (breach_in before p.issue spoken_lines earlier line)) ≡ b → AllByRecursion IsLawful more
      → AllByRecursion IsLawful (cond b (line ∷ more) more)
  lawful_test true earlier line more h later = (lawful_by earlier line (is_routine line.action) (is_second earlier line) refl refl h, later)
  lawful_test false earlier line more h later = later

  all_lawful_from : (earlier lines : List Line) → AllByRecursion IsLawful (lawful_of (judged_from before p.issue spoken_lines earlier lines))
  all_lawful_from earlier [] = tt
  all_lawful_from earlier (line ∷ lines) =
      lawful_test (not (is_routine line.action) && is_none (breach_in before p.issue spoken_lines earlier line)) earlier line (lawful_of (judged_from before p.issue spoken_lines (earlier ++ line ∷ []) lines)) refl
      (all_lawful_from (earlier ++ line ∷ []) lines)

  all_of_next : (P : Line → Type 0) (done : List Line) (line : Line) (lines : List Line) → AllByRecursion P (done ++ line ∷ lines) → P line
  all_of_next P [] line lines all = all.0
  all_of_next P (d ∷ done) line lines all = all_of_next P done line lines all.1

  ends_none : (line : Line) (o : Option Life) (around : Around) → o ≡ None → breach_of_line o line p.issue around ≡ None → ends line.action ≡ false
  unfolding breach_of_line
  ends_none line None around h g = going_by line.action line around g
  ends_none line (Some life) around h g = cc

  fits : (done : List Line) (line : Line) (lines : List Line) (es : Spots) → all_lawful ≡ done ++ line ∷ lines → Moved (put_all before p.issue done before) es → IsFit m es line
  fits done line lines es parts moved =
      let row = row_before done line lines es parts moved in
      let minutes = minutes_before done line lines es parts moved in
      let left = ap (minutes_left stamp from) row in
      let within = left_within products p line.event line.zone from is stamp in
      let lawful_line : IsLawful line = all_of_next IsLawful done line lines (subst (AllByRecursion IsLawful) parts (all_lawful_from [] spoken_lines)) in
      record {
        spotted = moved.spotted;
        order = subst (IsStrictlySortedBy by_key) (sym moved.rows) (put_all-sorted before p.issue done before (rows_sorted products));
        within = omega (arith, minutes, left, within);
        going = λ none. ends_none line (life_at before line) lawful_line.0 (ap (option_map life_of) (sym row ∙ none)) lawful_line.1;
      }

  all_fit : (done lines : List Line) (es : Spots) → all_lawful ≡ done ++ lines → Moved (put_all before p.issue done before) es → AreFit m es lines
  all_fit done [] es parts moved = tt
  all_fit done (line ∷ lines) es parts moved = (
    fits done line lines es parts moved,
    all_fit (done ++ line ∷ []) lines (changed stamp from p.issue es line) (parts ∙ sym (append_assoc done (line ∷ []) lines)) (step done line lines es parts moved),
  )

  pub lawful_fit : (es : Spots) → IsCounted stamp products es → AreFit m es all_lawful
  lawful_fit es counted = all_fit [] all_lawful es refl (first es counted)
