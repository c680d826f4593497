-- Counts of periods: their order, what they come to where one is set, and what they tell of the rows.
use Rattle.std.specs.Result.{is_ok}
use Rattle.std.proofs.Common.{Result, Ok, Err, IfOk, IfErr, OnErr, ◌≡◌, ◌≢◌, ◌∙◌, ◌==◌, ◌&&◌, ◌||◌, not, ℕ, suc, zero, ◌+◌, ◌-◌, ◌<◌, ◌≤◌, List, [], ◌∷◌, Bool, true, false, Option, Some, None, Ordering, Less, Equal, Greater, refl, sym, ap, subst, cond, find, is_eq, length, get_or, insert, remove, slice_set, option_map, nat_le, arith}
use Rattle.std.specs.List.{AllByRecursion, list_any}
use Rattle.std.specs.List.Sorted.{IsStrictlySortedBy}
use Rattle.std.specs.Ordering.{nat_cmp, ordering_then, ordering_reverse}
use Rattle.std.specs.Cmp.{IsTotalOrder}
use Rattle.std.proofs.lemmas.Bool.{and_parts, false_from_ne_true, leb-true, le-leb, eqb-true}
use Rattle.std.proofs.lemmas.Bool.Decides.{nat_tests}
use Rattle.std.proofs.lemmas.Cmp.{nat_cmp_total, on_total, then_total, tied_itself}
use Rattle.hazard_types.specs.Orders.{by_end}
use Rattle.hazard_types.specs.Places.{Place}
use Rattle.hazard_types.specs.Same.{same_event}
use Rattle.hazard_types.specs.declared.hazard.Event.{Event}
use Rattle.hazard_types.specs.declared.line.Line.{Line}
use Rattle.hazard_types.specs.declared.line.Row.{Row}
use Rattle.hazard_types.specs.declared.period.End.{End}
use Rattle.hazard_types.specs.declared.period.End.TheVariants.{At, Ufn}
use Rattle.hazard_types.specs.declared.period.Period.{Period}
use Rattle.hazard_types.proofs.Equality.{event_one, event_itself, zone_itself, period_one}
use Rattle.hazard_types.proofs.OrderLaws.{by_end_total, by_end_ties, end_cmp_is, numbers_tied}
use Rattle.event_life.specs.Periods.{ends_after, is_not_long_past, same_end, same_at}
use Rattle.event_life.specs.Products.{by_key, placed, put, row_at, row_of, is_open, is_routine}
use Rattle.event_life.specs.declared.life.Breach.{Breach}
use Rattle.event_life.specs.declared.life.Life.{Life}
use Rattle.event_life.specs.Table.{step}
use Rattle.event_life.proofs.Keys.{then_parts, key_exact, key_ties}
use Rattle.event_life.proofs.Puts.{at_key, at_key-parts, none_above, all_above}
use Rattle.hazard_board.specs.Board.{has_period}
use Rattle.hazard_board.specs.Periods.{later_first, by_period, by_event_end, only_if, counted, is_unended, one_of, one_if, unended, any_period, AreInOrder, AreCounted, AreCountedWith, latest_in, with_rows, is_period, IsCountAt, IsCountGap, same_in, begun_in, count_alike}
use Rattle.hazard_board.specs.Seats.{left_at, left_out}
use Rattle.hazard_board.specs.Spots.{by_year}
use Rattle.hazard_board.specs.Standing.{latest_end}
use Rattle.hazard_board.specs.Taken.{wanted, row_if, row_after_on_life, add_row_if_some}
use Rattle.hazard_board.specs.declared.periods.PeriodCount.{PeriodCount}
use Rattle.hazard_board.proofs.GoingLemmas.{open_by, open_by_end}
use Rattle.event_life.proofs.Keyed.{same_tests}
use Rattle.hazard_board.proofs.Places.{is_tied, first_less}
use Rattle.hazard_board.proofs.Runs.{Rises, front, rises, found_there, not_there, not_this, past_all, inserted, replaced, removed, keeps_left, default_free}
use Rattle.hazard_board.proofs.SpotLemmas.{by_year_total, year_ties, year_tied, put_in_order}

-- the orders

later_first_total : IsTotalOrder later_first
later_first_total = record {
  antisymm = λ x y. sym (end_cmp_is y x) ∙ by_end_total.antisymm y x ∙ ap ordering_reverse (end_cmp_is x y);
  trans = λ x y z h g. sym (end_cmp_is z x) ∙ by_end_total.trans z y x (end_cmp_is z y ∙ g) (end_cmp_is y x ∙ h);
  congr = λ x y z h. ap (by_end z) (sym (by_end_ties y x (end_cmp_is y x ∙ h)));
}

pub by_period_total : IsTotalOrder by_period
by_period_total = then_total (on_total (λ (x : PeriodCount). x.event) by_year_total) (then_total (on_total (λ (x : PeriodCount). x.period.end) later_first_total) (on_total (λ (x : PeriodCount). x.period.begin) nat_cmp_total))

by_event_end_total : IsTotalOrder by_event_end
by_event_end_total = then_total (on_total (λ (x : PeriodCount). x.event) by_year_total) (on_total (λ (x : PeriodCount). x.period.end) later_first_total)

less_falls : (a b : PeriodCount) → by_period a b ≡ Less → by_period a b ≢ Greater
less_falls a b less g = cc

event_falls : (a b : PeriodCount) → by_period a b ≡ Less → by_year a.event b.event ≢ Greater
event_falls a b less = first_less (by_year a.event b.event) _ less

two_less : (p q r : Ordering) → ordering_then p (ordering_then q r) ≡ Less → ordering_then p q ≢ Greater
two_less Less q r h g = cc
two_less Equal Less r h g = cc
two_less Equal Equal r h g = cc
two_less Equal Greater r h g = cc
two_less Greater q r h g = cc

end_falls : (a b : PeriodCount) → by_period a b ≡ Less → by_event_end a b ≢ Greater
end_falls a b less = two_less (by_year a.event b.event) (later_first a.period.end b.period.end) (nat_cmp a.period.begin b.period.begin) less

pub periods_rise : (key : PeriodCount) (periods : List PeriodCount) → IsStrictlySortedBy by_period periods → Rises (λ x. by_period x key) periods
periods_rise key periods up = rises by_period_total by_period (λ x. x) less_falls key periods up

pub events_rise : (e : Event) (periods : List PeriodCount) → IsStrictlySortedBy by_period periods → Rises (λ (x : PeriodCount). by_year x.event e) periods
events_rise e periods up = rises by_year_total by_period (λ (x : PeriodCount). x.event) event_falls e periods up

pub ends_rise : (key : PeriodCount) (periods : List PeriodCount) → IsStrictlySortedBy by_period periods → Rises (λ x. by_event_end x key) periods
ends_rise key periods up = rises by_event_end_total by_period (λ x. x) end_falls key periods up

-- ties

same_end_one : (a b : End) → same_end a b ≡ true → a ≡ b
same_end_one (At m) (At n) h = ap At (eqb-true m n h)
same_end_one Ufn Ufn h = refl
same_end_one (At m) Ufn h = cc
same_end_one Ufn (At n) h = cc

number_itself : (n : ℕ) → (n == n) ≡ true
number_itself n = grind (arith, nat_tests)

same_end_itself : (a : End) → same_end a a ≡ true
same_end_itself (At m) = number_itself m
same_end_itself Ufn = refl

later_ties : (a b : End) → later_first a b ≡ Equal → a ≡ b
later_ties a b h = sym (by_end_ties b a (end_cmp_is b a ∙ h))

end_tied : (x key : PeriodCount) → is_eq (by_event_end x key) ≡ (same_event x.event key.event && same_end x.period.end key.period.end)
end_tied x key = same_tests _ _
    (λ h.
    let p = then_parts (by_year x.event key.event) _ (is_tied (by_event_end x key) h) in
    rw (year_ties x.event key.event p.0, later_ties x.period.end key.period.end p.1, event_itself key.event) (same_end_itself key.period.end))
    (λ h.
    let p = and_parts (same_event x.event key.event) _ h in
    rw (event_one x.event key.event p.0, same_end_one x.period.end key.period.end p.1, tied_itself by_year_total key.event) (ap is_eq (tied_itself later_first_total key.period.end)))

period_exact : (x key : PeriodCount) → by_period x key ≡ Equal → (x.event ≡ key.event) × (x.period.end ≡ key.period.end) × (x.period.begin ≡ key.period.begin)
period_exact x key h =
    let p = then_parts (by_year x.event key.event) _ h in
    let q = then_parts (later_first x.period.end key.period.end) _ p.1 in
    (year_ties x.event key.event p.0, later_ties x.period.end key.period.end q.0, numbers_tied x.period.begin key.period.begin q.1)

period_tied : (x key : PeriodCount) → is_eq (by_period x key) ≡ is_period key x.event x.period
period_tied x key = same_tests _ _
    (λ h.
    let p = period_exact x key (is_tied (by_period x key) h) in
    rw (p.0, p.1, p.2, event_itself key.event, same_end_itself key.period.end) (number_itself key.period.begin))
    (λ h.
    let p = and_parts (same_event x.event key.event) _ h in
    let q = and_parts (same_end x.period.end key.period.end) _ p.1 in
    rw (event_one x.event key.event p.0, same_end_one x.period.end key.period.end q.0, eqb-true x.period.begin key.period.begin q.1, tied_itself by_year_total key.event, tied_itself later_first_total key.period.end)
    (ap is_eq (tied_itself nat_cmp_total key.period.begin)))

-- what counts come to where one is set, put or left out

abbrev weight : (Event → Period → Bool) → PeriodCount → ℕ
weight q x = only_if (q x.event x.period) x.rows

pub counted_set : (q : Event → Period → Bool) (y : PeriodCount) (xs : List PeriodCount) (i : ℕ) (d : PeriodCount) → i < length xs → counted q (slice_set xs i y) + weight q (get_or xs i d) ≡ counted q xs + weight q y
counted_set q y [] i d within = absurd (omega (arith, within))
counted_set q y (x ∷ xs) zero d within = omega arith
counted_set q y (x ∷ xs) (suc i) d within = let more = counted_set q y xs i d (omega (arith, within)) in omega (arith, more)

pub counted_put : (q : Event → Period → Bool) (y : PeriodCount) (xs : List PeriodCount) (i : ℕ) → i ≤ length xs → counted q (insert xs i y) ≡ counted q xs + weight q y
counted_put q y xs zero within = omega arith
counted_put q y [] (suc i) within = absurd (omega (arith, within))
counted_put q y (x ∷ xs) (suc i) within = let more = counted_put q y xs i (omega (arith, within)) in omega (arith, more)

pub counted_left : (q : Event → Period → Bool) (xs : List PeriodCount) (i : ℕ) (d : PeriodCount) → i < length xs → counted q (remove xs i) + weight q (get_or xs i d) ≡ counted q xs
counted_left q [] i d within = absurd (omega (arith, within))
counted_left q (x ∷ xs) zero d within = omega arith
counted_left q (x ∷ xs) (suc i) d within = let more = counted_left q xs i d (omega (arith, within)) in omega (arith, more)

module _ (P : PeriodCount → Type 0) where
  pub all_set : (y : PeriodCount) (xs : List PeriodCount) (i : ℕ) → P y → AllByRecursion P xs → AllByRecursion P (slice_set xs i y)
  all_set y [] i p all = tt
  all_set y (x ∷ xs) zero p all = (p, all.1)
  all_set y (x ∷ xs) (suc i) p all = (all.0, all_set y xs i p all.1)

  pub all_put : (y : PeriodCount) (xs : List PeriodCount) (i : ℕ) → i ≤ length xs → P y → AllByRecursion P xs → AllByRecursion P (insert xs i y)
  all_put y xs zero within p all = (p, all)
  all_put y [] (suc i) within p all = absurd (omega (arith, within))
  all_put y (x ∷ xs) (suc i) within p all = (all.0, all_put y xs i (omega (arith, within)) p all.1)

  pub all_left : (xs : List PeriodCount) (i : ℕ) → i < length xs → AllByRecursion P xs → AllByRecursion P (remove xs i)
  all_left [] i within all = absurd (omega (arith, within))
  all_left (x ∷ xs) zero within all = all.1
  all_left (x ∷ xs) (suc i) within all = (all.0, all_left xs i (omega (arith, within)) all.1)

-- each count is at most all of them

pub counted_at : (q : Event → Period → Bool) (xs : List PeriodCount) (i : ℕ) (d : PeriodCount) → i < length xs → weight q (get_or xs i d) ≤ counted q xs
counted_at q [] i d within = absurd (omega (arith, within))
counted_at q (x ∷ xs) zero d within = omega arith
counted_at q (x ∷ xs) (suc i) d within = let more = counted_at q xs i d (omega (arith, within)) in omega (arith, more)

pub no_more_counts : (xs : List PeriodCount) → AllByRecursion (λ (x : PeriodCount). 0 < x.rows) xs → length xs ≤ counted any_period xs
no_more_counts [] all = omega arith
no_more_counts (x ∷ xs) all = let more = no_more_counts xs all.1 in omega (arith, more, all.0)

-- a list in order without the item at a key

module _ {X : Type 0} (R : X → X → Ordering) (ord : X → Ordering) where
  left_step : (o : Ordering) (x : X) (xs : List X) → ord x ≡ o → IsStrictlySortedBy R (x ∷ xs) → IsStrictlySortedBy R (left_out ord xs) → IsStrictlySortedBy R (left_at o x xs (left_out ord xs))
  unfolding IsStrictlySortedBy
  left_step Less x xs h up more = (keeps_left ord (λ y. R x y ≡ Less) xs up.0, more)
  left_step Equal x xs h up more = up.1
  left_step Greater x xs h up more = up

  left_in_order : (xs : List X) → IsStrictlySortedBy R xs → IsStrictlySortedBy R (left_out ord xs)
  unfolding IsStrictlySortedBy
  left_in_order [] up = up
  left_in_order (x ∷ xs) up = left_step (ord x) x xs refl up (left_in_order xs up.1)

-- places

count_is : (x key : PeriodCount) → x.event ≡ key.event → x.period.end ≡ key.period.end → x.period.begin ≡ key.period.begin → x ≡ with_rows key x.rows
count_is x key e n b = λ i. record { event = e i; period = record { begin = b i; end = n i }; rows = x.rows }

never_counted : (key : PeriodCount) (xs : List PeriodCount) → find (λ x. is_eq (by_period x key)) xs ≡ None → counted (is_period key) xs ≡ 0
never_counted key [] h = refl
never_counted key (x ∷ xs) h =
    let here : (b : Bool) → is_eq (by_period x key) ≡ b → counted (is_period key) (x ∷ xs) ≡ 0 =
    λ b. elim b as (λ b. is_eq (by_period x key) ≡ b → counted (is_period key) (x ∷ xs) ≡ 0) [
      | true ↦ λ is. let some : ◌≡◌ {A = Option PeriodCount} (Some x) None = rw is at h in cc
      | false ↦ λ is.
          let rest : find (λ x. is_eq (by_period x key)) xs ≡ None = rw is at h in
          let other : is_period key x.event x.period ≡ false = sym (period_tied x key) ∙ is in
          let more = never_counted key xs rest in
          let own = ap (λ (b : Bool). only_if b x.rows) other in
          omega (arith, more, own)
    ] in here (is_eq (by_period x key)) refl

module _ (key : PeriodCount) (xs : List PeriodCount) (i : ℕ) (place : i ≡ front (λ x. by_period x key) xs) (up : IsStrictlySortedBy by_period xs) where
  pub count_there : (x : PeriodCount) → i < length xs → x ≡ get_or xs i x → is_eq (by_period x key) ≡ true → IsCountAt key xs i
  count_there x within is own =
      let p = period_exact x key (is_tied (by_period x key) own) in
      record {
        within = within;
        own = λ d. let same = default_free (λ x. by_period x key) xs i d x within ∙ sym is in subst (λ (y : PeriodCount). y ≡ with_rows key y.rows) (sym same) (count_is x key p.0 p.1 p.2);
        set = λ n. subst (λ (ys : List PeriodCount). IsStrictlySortedBy by_period ys) (sym (replaced (λ x. by_period x key) (with_rows key n) xs i x place within is own)) (put_in_order by_period by_period_total (with_rows key n) xs up);
        left = subst (λ (ys : List PeriodCount). IsStrictlySortedBy by_period ys) (sym (removed (λ x. by_period x key) xs i x place within is own)) (left_in_order by_period (λ x. by_period x key) xs up);
      }

  gap : i ≤ length xs → ((d : PeriodCount) → i < length xs → is_eq (by_period (get_or xs i d) key) ≡ false) → IsCountGap key xs i
  gap within other = record {
    within = within;
    none = never_counted key xs (not_there (λ x. by_period x key) xs i (periods_rise key xs up) place other);
    put = λ n. subst (λ (ys : List PeriodCount). IsStrictlySortedBy by_period ys) (sym (inserted (λ x. by_period x key) (with_rows key n) xs i place other)) (put_in_order by_period by_period_total (with_rows key n) xs up);
  }

  pub gap_behind : i ≤ length xs → length xs ≤ i → IsCountGap key xs i
  gap_behind within past = gap within (λ d lt. absurd (omega (arith, lt, past)))

  pub gap_before : (x : PeriodCount) → i < length xs → x ≡ get_or xs i x → is_eq (by_period x key) ≡ false → IsCountGap key xs i
  gap_before x within is other = gap (omega (arith, within)) (λ d lt. ap (λ (y : PeriodCount). is_eq (by_period y key)) (default_free (λ x. by_period x key) xs i d x lt ∙ sym is) ∙ other)

-- what all counts come to where that at a place changes

only_plus : (b : Bool) (n : ℕ) → only_if b (n + 1) ≡ only_if b n + only_if b 1
only_plus true n = omega arith
only_plus false n = omega arith

only_minus : (b : Bool) (n : ℕ) → 1 ≤ n → only_if b (n - 1) + only_if b 1 ≡ only_if b n
only_minus true n some = omega (arith, some)
only_minus false n some = omega arith

one_left : (n : ℕ) → n ≤ 1 → 0 < n → n ≡ 1
one_left n most some = omega (arith, most, some)

some_at_place : (xs : List PeriodCount) (i : ℕ) (d : PeriodCount) → AllByRecursion (λ (x : PeriodCount). 0 < x.rows) xs → i < length xs → 0 < (get_or xs i d).rows
some_at_place [] i d all within = absurd (omega (arith, within))
some_at_place (x ∷ xs) zero d all within = all.0
some_at_place (x ∷ xs) (suc i) d all within = some_at_place xs i d all.1 (omega (arith, within))

module _ (key : PeriodCount) (xs : List PeriodCount) (i : ℕ) (at : IsCountAt key xs i) (x : PeriodCount) (is : x ≡ get_or xs i x) (q : Event → Period → Bool) where
  own_weight : weight q (get_or xs i x) ≡ only_if (q key.event key.period) x.rows
  own_weight = ap (weight q) (at.own x) ∙ ap (λ (y : PeriodCount). only_if (q key.event key.period) y.rows) (sym is)

  set_at : (n : ℕ) → counted q (slice_set xs i (with_rows key n)) + only_if (q key.event key.period) x.rows ≡ counted q xs + only_if (q key.event key.period) n
  set_at n = let sum = counted_set q (with_rows key n) xs i x at.within in let own = own_weight in omega (arith, sum, own)

  pub one_more : counted q (slice_set xs i (with_rows key (x.rows + 1))) ≡ counted q xs + only_if (q key.event key.period) 1
  one_more = let sum = set_at (x.rows + 1) in let more = only_plus (q key.event key.period) x.rows in omega (arith, sum, more)

  pub one_less : 1 ≤ x.rows → counted q (slice_set xs i (with_rows key (x.rows - 1))) + only_if (q key.event key.period) 1 ≡ counted q xs
  one_less some = let sum = set_at (x.rows - 1) in let less = only_minus (q key.event key.period) x.rows some in omega (arith, sum, less)

  pub one_gone : x.rows ≤ 1 → AllByRecursion (λ (x : PeriodCount). 0 < x.rows) xs → counted q (remove xs i) + only_if (q key.event key.period) 1 ≡ counted q xs
  one_gone most some =
      let sum = counted_left q xs i x at.within in
      let n : x.rows ≡ 1 = one_left x.rows most (subst (λ (y : PeriodCount). 0 < y.rows) (sym is) (some_at_place xs i x some at.within)) in
      let own = own_weight ∙ ap (only_if (q key.event key.period)) n in
      omega (arith, sum, own)

pub at_most_all : (key : PeriodCount) (xs : List PeriodCount) (i : ℕ) (at : IsCountAt key xs i) (x : PeriodCount) (is : x ≡ get_or xs i x) → x.rows ≤ counted any_period xs
at_most_all key xs i at x is =
    let within = counted_at any_period xs i x at.within in
    let rows = ap (λ (y : PeriodCount). y.rows) is in
    omega (arith, within, rows)

pub key_put : (key : PeriodCount) (xs : List PeriodCount) (i : ℕ) → IsCountGap key xs i → (q : Event → Period → Bool) → counted q (insert xs i key) ≡ counted q xs + only_if (q key.event key.period) key.rows
key_put key xs i gap q = counted_put q key xs i gap.within

-- tests over counts and over rows

pub any_alike : {X : Type 0} (p q : X → Bool) (xs : List X) → ((x : X) → p x ≡ q x) → list_any p xs ≡ list_any q xs
any_alike p q [] same = refl
any_alike p q (x ∷ xs) same = rw (same x) (ap (λ (b : Bool). q x || b) (any_alike p q xs same))

either_true : (a b : Bool) → (a || b) ≡ true → a ≡ false → b ≡ true
either_true true b h g = cc
either_true false b h g = h

module _ {X : Type 0} (p : X → Bool) (n : X → ℕ) where
  sum_if : List X → ℕ
  sum_if [] = 0
  sum_if (x ∷ xs) = only_if (p x) (n x) + sum_if xs

  pos_step : (b : Bool) (x : X) (xs : List X) → p x ≡ b → 0 < n x → list_any p (x ∷ xs) ≡ true → (list_any p xs ≡ true → 0 < sum_if xs) → 0 < sum_if (x ∷ xs)
  unfolding sum_if
  pos_step true x xs is some h more = let own = ap (λ (b : Bool). only_if b (n x)) is in omega (arith, own, some)
  pos_step false x xs is some h more = let rest = more (either_true (p x) (list_any p xs) h is) in omega (arith, rest)

  pos_of_any : (xs : List X) → AllByRecursion (λ x. 0 < n x) xs → list_any p xs ≡ true → 0 < sum_if xs
  unfolding sum_if
  pos_of_any [] all h = cc
  pos_of_any (x ∷ xs) all h = pos_step (p x) x xs refl all.0 h (pos_of_any xs all.1)

  any_step : (b : Bool) (x : X) (xs : List X) → p x ≡ b → 0 < sum_if (x ∷ xs) → (0 < sum_if xs → list_any p xs ≡ true) → list_any p (x ∷ xs) ≡ true
  unfolding sum_if
  any_step true x xs is h more = rw is refl
  any_step false x xs is h more = let own = ap (λ (b : Bool). only_if b (n x)) is in rw is (more (omega (arith, own, h)))

  any_of_pos : (xs : List X) → 0 < sum_if xs → list_any p xs ≡ true
  unfolding sum_if
  any_of_pos [] h = absurd (omega (arith, h))
  any_of_pos (x ∷ xs) h = any_step (p x) x xs refl h (any_of_pos xs)

counted_sum : (q : Event → Period → Bool) (xs : List PeriodCount) → counted q xs ≡ sum_if (λ (x : PeriodCount). q x.event x.period) (λ (x : PeriodCount). x.rows) xs
unfolding sum_if
counted_sum q [] = refl
counted_sum q (x ∷ xs) = ap (λ (n : ℕ). only_if (q x.event x.period) x.rows + n) (counted_sum q xs)

unended_sum : (q : Event → Period → Bool) (rows : List Row) → unended q rows ≡ sum_if (is_unended q) (λ (r : Row). 1) rows
unfolding sum_if
unended_sum q [] = refl
unended_sum q (r ∷ rows) = ap (λ (n : ℕ). one_of q r + n) (unended_sum q rows)

all_ones : (rows : List Row) → AllByRecursion (λ (r : Row). 0 < 1) rows
all_ones [] = tt
all_ones (r ∷ rows) = (omega arith, all_ones rows)

-- the counts pass a test where a row does that no line has ended
same_any : (rows : List Row) (periods : List PeriodCount) → AreCounted rows periods → (q : Event → Period → Bool) → list_any (λ (x : PeriodCount). q x.event x.period) periods ≡ list_any (is_unended q) rows
same_any rows periods are q =
    let sums = sym (counted_sum q periods) ∙ are.told q ∙ unended_sum q rows in
    same_tests _ _
    (λ h. any_of_pos (is_unended q) (λ (r : Row). 1) rows (subst (λ (n : ℕ). 0 < n) sums (pos_of_any (λ (x : PeriodCount). q x.event x.period) (λ (x : PeriodCount). x.rows) periods are.stand.some h)))
    (λ h. any_of_pos (λ (x : PeriodCount). q x.event x.period) (λ (x : PeriodCount). x.rows) periods (subst (λ (n : ℕ). 0 < n) (sym sums) (pos_of_any (is_unended q) (λ (r : Row). 1) rows (all_ones rows) h)))

or_true : (b : Bool) → (b || true) ≡ true
or_true true = refl
or_true false = refl

any_at : (p : PeriodCount → Bool) (xs : List PeriodCount) (i : ℕ) (d : PeriodCount) → i < length xs → p (get_or xs i d) ≡ true → list_any p xs ≡ true
any_at p [] i d within h = absurd (omega (arith, within))
any_at p (x ∷ xs) zero d within h = rw h refl
any_at p (x ∷ xs) (suc i) d within h = let more = any_at p xs i d (omega (arith, within)) h in rw more (or_true (p x))

-- the first of those that tie decides, where no later one passes a test that it does not

abbrev pub passes : {X : Type 0} → (X → Bool) → Option X → Bool
passes q None = false
passes q (Some x) = q x

module _ {X : Type 0} (R : X → X → Ordering) (tied q : X → Bool) (down : (x y : X) → R x y ≡ Less → tied x ≡ true → tied y ≡ true → q y ≡ true → q x ≡ true) where
  none_later : (x : X) (xs : List X) → AllByRecursion (λ y. R x y ≡ Less) xs → tied x ≡ true → q x ≡ false → list_any (λ y. tied y && q y) xs ≡ false
  none_later x [] all own not_q = refl
  none_later x (y ∷ xs) all own not_q =
      let here : (tied y && q y) ≡ false = false_from_ne_true _ (λ h.
      let p = and_parts (tied y) (q y) h in
      let never : true ≡ false = sym (down x y all.0 own p.0 p.1) ∙ not_q in cc) in
      rw here (none_later x xs all.1 own not_q)

  tied_step : (b : Bool) (x : X) (xs : List X) → q x ≡ b → tied x ≡ true → AllByRecursion (λ y. R x y ≡ Less) xs → (b || list_any (λ y. tied y && q y) xs) ≡ b
  tied_step true x xs is own all = refl
  tied_step false x xs is own all = none_later x xs all own is

  first_step : (b : Bool) (x : X) (xs : List X) → tied x ≡ b → AllByRecursion (λ y. R x y ≡ Less) xs → list_any (λ y. tied y && q y) xs ≡ passes q (find tied xs) → list_any (λ y. tied y && q y) (x ∷ xs) ≡ passes q (find tied (x ∷ xs))
  first_step true x xs is all more = rw is (tied_step (q x) x xs refl is all)
  first_step false x xs is all more = rw is more

  pub first_decides : (xs : List X) → IsStrictlySortedBy R xs → list_any (λ y. tied y && q y) xs ≡ passes q (find tied xs)
  unfolding IsStrictlySortedBy
  first_decides [] up = refl
  first_decides (x ∷ xs) up = first_step (tied x) x xs refl up.0 (first_decides xs up.1)

-- the latest end

not_above : (n m : ℕ) → nat_cmp n m ≢ Greater → n ≤ m
not_above n m h = grind (arith, nat_tests, h)

later_within : (a b : End) (t : ℕ) → later_first a b ≢ Greater → is_not_long_past b t ≡ true → is_not_long_past a t ≡ true
later_within Ufn b t h g = refl
later_within (At m) Ufn t h g = absurd (h refl)
later_within (At m) (At n) t h g = le-leb t (m + 30) (let le = leb-true t (n + 30) g in let o = not_above n m h in omega (arith, le, o))

event_of_tied : (x y : PeriodCount) (e : Event) → by_period x y ≡ Less → same_event x.event e ≡ true → same_event y.event e ≡ true → later_first x.period.end y.period.end ≢ Greater
event_of_tied x y e less own other =
    let same : by_year x.event y.event ≡ Equal = ap (by_year x.event) (event_one y.event e other ∙ sym (event_one x.event e own)) ∙ tied_itself by_year_total x.event in
    let rest : ordering_then (later_first x.period.end y.period.end) (nat_cmp x.period.begin y.period.begin) ≡ Less = rw same at less in
    first_less (later_first x.period.end y.period.end) _ rest

found_open : (t : ℕ) (o : Option PeriodCount) → passes (λ (x : PeriodCount). is_not_long_past x.period.end t) o ≡ open_by t (option_map (λ (x : PeriodCount). x.period.end) o)
found_open t None = refl
found_open t (Some x) = refl

swap_and : (a b c : Bool) → (a && (b && c)) ≡ (b && (a && c))
swap_and true b c = refl
swap_and false true c = refl
swap_and false false c = refl

latest_open : (rows : List Row) (periods : List PeriodCount) → AreCounted rows periods → (e : Event) (t : ℕ) → open_by t (latest_in periods e) ≡ is_open rows t e
latest_open rows periods are e t =
    sym (found_open t (find (λ (x : PeriodCount). same_event x.event e) periods))
    ∙ sym (first_decides by_period (λ (x : PeriodCount). same_event x.event e) (λ (x : PeriodCount). is_not_long_past x.period.end t)
    (λ x y less own other h. later_within x.period.end y.period.end t (event_of_tied x y e less own other) h) periods are.stand.order)
    ∙ same_any rows periods are (λ (d : Event) (p : Period). same_event d e && is_not_long_past p.end t)
    ∙ any_alike _ _ rows (λ (r : Row). swap_and (not r.ended) (same_event r.event e) (is_not_long_past r.period.end t))

le_both : (a b : ℕ) → a ≤ b → b ≤ a → a ≡ b
le_both a b p q = omega (arith, p, q)

some_at : (m : ℕ) → nat_le m (m + 30) ≡ true
some_at m = le-leb m (m + 30) (omega arith)

up_to : (m n : ℕ) → nat_le (m + 30) (m + 30) ≡ nat_le (m + 30) (n + 30) → m ≤ n
up_to m n h = let le = leb-true (m + 30) (n + 30) (sym h ∙ le-leb (m + 30) (m + 30) (omega arith)) in omega (arith, le)

not_past : (m : ℕ) → nat_le (m + 31) (m + 30) ≡ true → ⊥
not_past m h = let le = leb-true (m + 31) (m + 30) h in omega (arith, le)

same_open : (a b : Option End) → ((t : ℕ) → open_by t a ≡ open_by t b) → a ≡ b
same_open None None h = refl
same_open None (Some (At m)) h = let never : false ≡ true = h m ∙ some_at m in cc
same_open None (Some Ufn) h = let never : false ≡ true = h 0 in cc
same_open (Some (At m)) None h = let never : false ≡ true = sym (h m) ∙ some_at m in cc
same_open (Some Ufn) None h = let never : false ≡ true = sym (h 0) in cc
same_open (Some (At m)) (Some (At n)) h = ap (λ (k : ℕ). Some (At k)) (le_both m n (up_to m n (h (m + 30))) (up_to n m (sym (h (n + 30)))))
same_open (Some (At m)) (Some Ufn) h = absurd (not_past m (h (m + 31)))
same_open (Some Ufn) (Some (At m)) h = absurd (not_past m (sym (h (m + 31))))
same_open (Some Ufn) (Some Ufn) h = refl

pub latest_is : (rows : List Row) (periods : List PeriodCount) → AreCounted rows periods → (e : Event) → latest_in periods e ≡ latest_end rows e
latest_is rows periods are e = same_open (latest_in periods e) (latest_end rows e) (λ t. latest_open rows periods are e t ∙ sym (open_by_end t e rows))

find_same : (e : Event) (xs : List PeriodCount) → find (λ (x : PeriodCount). same_event x.event e) xs ≡ find (λ (x : PeriodCount). is_eq (by_year x.event e)) xs
find_same e [] = refl
find_same e (x ∷ xs) = rw (year_tied x.event e) (ap (λ (o : Option PeriodCount). cond (same_event x.event e) (Some x) o) (find_same e xs))

abbrev end_of : Option PeriodCount → Option End
end_of o = option_map (λ (x : PeriodCount). x.period.end) o

module _ (e : Event) (xs : List PeriodCount) (i : ℕ) (place : i ≡ front (λ (x : PeriodCount). by_year x.event e) xs) (up : IsStrictlySortedBy by_period xs) where
  pub latest_there : (x : PeriodCount) → i < length xs → x ≡ get_or xs i x → same_event x.event e ≡ true → Some x.period.end ≡ latest_in xs e
  latest_there x within is own = sym (ap end_of (find_same e xs ∙ found_there (λ (x : PeriodCount). by_year x.event e) xs i x place within is (year_tied x.event e ∙ own)))

  pub latest_other : (x : PeriodCount) → i < length xs → x ≡ get_or xs i x → same_event x.event e ≡ false → None ≡ latest_in xs e
  latest_other x within is other = sym (ap end_of (find_same e xs ∙ not_this (λ (x : PeriodCount). by_year x.event e) xs i x (events_rise e xs up) place within is (year_tied x.event e ∙ other)))

  pub latest_none : length xs ≤ i → None ≡ latest_in xs e
  latest_none past = sym (ap end_of (find_same e xs ∙ past_all (λ (x : PeriodCount). by_year x.event e) xs i (events_rise e xs up) place past))

-- the same period

earlier : (a b t : ℕ) → nat_cmp a b ≡ Less → nat_le b t ≡ true → nat_le a t ≡ true
earlier a b t less h = grind (arith, nat_tests, less, h)

begin_up : (x y key : PeriodCount) → by_period x y ≡ Less → is_eq (by_event_end x key) ≡ true → is_eq (by_event_end y key) ≡ true → (t : ℕ) → nat_le y.period.begin t ≡ true → nat_le x.period.begin t ≡ true
begin_up x y key less own other t h =
    let p = then_parts (by_year x.event key.event) _ (is_tied (by_event_end x key) own) in
    let q = then_parts (by_year y.event key.event) _ (is_tied (by_event_end y key) other) in
    let events : by_year x.event y.event ≡ Equal = rw (year_ties x.event key.event p.0, year_ties y.event key.event q.0) (tied_itself by_year_total key.event) in
    let ends : later_first x.period.end y.period.end ≡ Equal = rw (later_ties x.period.end key.period.end p.1, later_ties y.period.end key.period.end q.1) (tied_itself later_first_total key.period.end) in
    let begins : nat_cmp x.period.begin y.period.begin ≡ Less = rw (events, ends) at less in
    earlier x.period.begin y.period.begin t begins h

begun_first : (key : PeriodCount) (t : ℕ) (xs : List PeriodCount) → IsStrictlySortedBy by_period xs → begun_in xs key t ≡ passes (λ (x : PeriodCount). nat_le x.period.begin t) (find (λ x. is_eq (by_event_end x key)) xs)
begun_first key t xs up = first_decides by_period (λ x. is_eq (by_event_end x key)) (λ (x : PeriodCount). nat_le x.period.begin t) (λ x y less own other h. begin_up x y key less own other t h) xs up

module _ (key : PeriodCount) (t : ℕ) (xs : List PeriodCount) (i : ℕ) (place : i ≡ front (λ x. by_event_end x key) xs) (up : IsStrictlySortedBy by_period xs) where
  begun_at : (b : Bool) (x : PeriodCount) → is_eq (by_event_end x key) ≡ b → i < length xs → x ≡ get_or xs i x → (b && nat_le x.period.begin t) ≡ passes (λ (x : PeriodCount). nat_le x.period.begin t) (find (λ x. is_eq (by_event_end x key)) xs)
  begun_at true x own within is = sym (ap (passes (λ (x : PeriodCount). nat_le x.period.begin t)) (found_there (λ x. by_event_end x key) xs i x place within is own))
  begun_at false x own within is = sym (ap (passes (λ (x : PeriodCount). nat_le x.period.begin t)) (not_this (λ x. by_event_end x key) xs i x (ends_rise key xs up) place within is own))

  pub begun_there : (x : PeriodCount) → i < length xs → x ≡ get_or xs i x → is_eq (by_event_end x key) ≡ true → nat_le x.period.begin t ≡ begun_in xs key t
  begun_there x within is own = begun_at true x own within is ∙ sym (begun_first key t xs up)

  pub begun_other : (x : PeriodCount) → i < length xs → x ≡ get_or xs i x → is_eq (by_event_end x key) ≡ false → false ≡ begun_in xs key t
  begun_other x within is own = begun_at false x own within is ∙ sym (begun_first key t xs up)

  pub begun_none : length xs ≤ i → false ≡ begun_in xs key t
  begun_none past = sym (begun_first key t xs up ∙ ap (passes (λ (x : PeriodCount). nat_le x.period.begin t)) (past_all (λ x. by_event_end x key) xs i (ends_rise key xs up) place past))

ends_alike : (a b : End) (t : ℕ) → same_end a b ≡ true → ends_after a t ≡ ends_after b t
ends_alike a b t h = ap (λ (n : End). ends_after n t) (same_end_one a b h)

-- where the end is past, there is none
past_none : (a b c d : Bool) → (c ≡ true → b ≡ false) → (a && (b && (c && d))) ≡ false
past_none true true true d h = let never = h refl in cc
past_none true true false d h = refl
past_none true false c d h = refl
past_none false b c d h = refl

pub same_past : (xs : List PeriodCount) (e : Event) (p : Period) (t : ℕ) → ends_after p.end t ≡ false → false ≡ same_in xs e p t
same_past [] e p t h = refl
same_past (x ∷ xs) e p t h =
    let here = past_none (same_event x.event e) (ends_after x.period.end t) (same_end x.period.end p.end) ((x.period.begin == p.begin) || (nat_le x.period.begin t && nat_le p.begin t)) (λ same. ends_alike x.period.end p.end t same ∙ h) in
    rw here (same_past xs e p t h)

-- where the period has begun, the others of its end that have are the same
begun_tests : (a b c d f : Bool) → (c ≡ true → b ≡ true) → d ≡ f → (a && (b && (c && d))) ≡ ((a && c) && f)
begun_tests true true true d f h same = same
begun_tests true true false d f h same = refl
begun_tests true false true d f h same = let never = h refl in cc
begun_tests true false false d f h same = refl
begun_tests false b c d f h same = refl

begun_begin : (m n t : ℕ) → nat_le n t ≡ true → ((m == n) || (nat_le m t && nat_le n t)) ≡ nat_le m t
begun_begin m n t h = grind (arith, nat_tests, h)

pub same_begun : (xs : List PeriodCount) (key : PeriodCount) (t : ℕ) → ends_after key.period.end t ≡ true → nat_le key.period.begin t ≡ true → begun_in xs key t ≡ same_in xs key.event key.period t
same_begun xs key t live begun = any_alike _ _ xs (λ (x : PeriodCount).
    ap (λ (b : Bool). b && nat_le x.period.begin t) (end_tied x key)
    ∙ sym (begun_tests (same_event x.event key.event) (ends_after x.period.end t) (same_end x.period.end key.period.end) _ (nat_le x.period.begin t)
    (λ same. ends_alike x.period.end key.period.end t same ∙ live) (begun_begin x.period.begin key.period.begin t begun)))

-- where it has not, the same one is
later_tests : (a b c d f : Bool) → (c ≡ true → b ≡ true) → d ≡ f → (a && (b && (c && d))) ≡ (a && (c && f))
later_tests true true true d f h same = same
later_tests true true false d f h same = refl
later_tests true false true d f h same = let never = h refl in cc
later_tests true false false d f h same = refl
later_tests false b c d f h same = refl

later_begin : (m n t : ℕ) → nat_le n t ≡ false → ((m == n) || (nat_le m t && nat_le n t)) ≡ (m == n)
later_begin m n t h = grind (arith, nat_tests, h)

same_later : (xs : List PeriodCount) (key : PeriodCount) (t : ℕ) → ends_after key.period.end t ≡ true → nat_le key.period.begin t ≡ false → same_in xs key.event key.period t ≡ list_any (λ (x : PeriodCount). is_period key x.event x.period) xs
same_later xs key t live later = any_alike _ _ xs (λ (x : PeriodCount).
    later_tests (same_event x.event key.event) (ends_after x.period.end t) (same_end x.period.end key.period.end) _ (x.period.begin == key.period.begin)
    (λ same. ends_alike x.period.end key.period.end t same ∙ live) (later_begin x.period.begin key.period.begin t later))

pub same_there : (xs : List PeriodCount) (key : PeriodCount) (t i : ℕ) → ends_after key.period.end t ≡ true → nat_le key.period.begin t ≡ false → IsCountAt key xs i → true ≡ same_in xs key.event key.period t
same_there xs key t i live later at =
    sym (same_later xs key t live later
    ∙ any_at (λ (x : PeriodCount). is_period key x.event x.period) xs i key at.within
    (subst (λ (x : PeriodCount). is_period key x.event x.period ≡ true) (sym (at.own key)) (sym (period_tied key key) ∙ ap is_eq (tied_itself by_period_total key))))

pub not_begun : (m t : ℕ) → t < m → nat_le m t ≡ false
not_begun m t h = false_from_ne_true _ (λ g. let le = leb-true m t g in omega (arith, le, h))

pub same_nowhere : (xs : List PeriodCount) (key : PeriodCount) (t i : ℕ) → AllByRecursion (λ (x : PeriodCount). 0 < x.rows) xs → ends_after key.period.end t ≡ true → nat_le key.period.begin t ≡ false → IsCountGap key xs i → false ≡ same_in xs key.event key.period t
same_nowhere xs key t i some live later gap =
    sym (same_later xs key t live later
    ∙ false_from_ne_true _ (λ h.
    let pos = pos_of_any (λ (x : PeriodCount). is_period key x.event x.period) (λ (x : PeriodCount). x.rows) xs some h in
    let none = sym (counted_sum (is_period key) xs) ∙ gap.none in
    omega (arith, pos, none)))

live_first : (a b c d : Bool) → (a && (b && (c && d))) ≡ ((b && (a && c)) && d)
live_first true true c d = refl
live_first true false c d = refl
live_first false true c d = refl
live_first false false c d = refl

pub same_exact : (xs : List PeriodCount) (key : PeriodCount) (t : ℕ) → AllByRecursion (λ (x : PeriodCount). 0 < x.rows) xs → ends_after key.period.end t ≡ true → nat_le key.period.begin t ≡ false → (o : Result ℕ ℕ) → IfOk o (IsCountAt key xs) → IfErr o (IsCountGap key xs) → is_ok o ≡ same_in xs key.event key.period t
same_exact xs key t some live later (Ok i) at gap = same_there xs key t i live later at
same_exact xs key t some live later (Err i) at gap = same_nowhere xs key t i some live later gap

-- a live row of the event has the same period where a count does
pub period_is : (rows : List Row) (periods : List PeriodCount) → AreCounted rows periods → (e : Event) (p : Period) (t : ℕ) → same_in periods e p t ≡ has_period rows e p t
period_is rows periods are e p t =
    same_any rows periods are (λ (d : Event) (q : Period). same_event d e && (ends_after q.end t && same_at t q p))
    ∙ any_alike _ _ rows (λ (r : Row). live_first (not r.ended) (same_event r.event e) (ends_after r.period.end t) (same_at t r.period p))

-- a row that is put

none_plus : (a b : ℕ) → a ≡ b → a + 0 ≡ b + 0
none_plus a b h = omega (arith, h)

put_step : (o : Ordering) (q : Event → Period → Bool) (row r : Row) (rows : List Row) → by_key row r ≡ o → AllByRecursion (λ y. by_key r y ≡ Less) rows →
    unended q (put row rows) + one_if q (row_at rows row.event row.zone) ≡ unended q rows + one_of q row →
    unended q (placed o row r rows (put row rows)) + one_if q (row_at (r ∷ rows) row.event row.zone) ≡ unended q (r ∷ rows) + one_of q row
put_step Less q row r rows h all more =
    let none = ap (one_if q) (none_above row (r ∷ rows) (h, all_above row r rows h all)) in
    omega (arith, none)
put_step Equal q row r rows h all more =
    let k = key_exact row r h in
    let own : at_key row.event row.zone r ≡ true = rw (k.0, k.1, event_itself r.event) (zone_itself r.zone) in
    let found = ap (λ (b : Bool). one_if q (cond b (Some r) (row_at rows row.event row.zone))) own in
    omega (arith, found)
put_step Greater q row r rows h all more =
    let other : at_key row.event row.zone r ≡ false = false_from_ne_true _ (λ g.
    let p = at_key-parts row.event row.zone r g in
    let tied : by_key row r ≡ Equal = key_ties row r (sym p.1) (sym p.0) in cc) in
    let found = ap (λ (b : Bool). one_if q (cond b (Some r) (row_at rows row.event row.zone))) other in
    omega (arith, found, more)

unended_put : (q : Event → Period → Bool) (row : Row) (rows : List Row) → IsStrictlySortedBy by_key rows → unended q (put row rows) + one_if q (row_at rows row.event row.zone) ≡ unended q rows + one_of q row
unfolding IsStrictlySortedBy
unended_put q row [] up = omega arith
unended_put q row (r ∷ rows) up = put_step (by_key row r) q row r rows refl up.0 (unended_put q row rows up.1)

found_step : (b : Bool) (q : Event → Period → Bool) (p : Row → Bool) (r : Row) (rows : List Row) → p r ≡ b → one_if q (find p rows) ≤ unended q rows → one_if q (cond b (Some r) (find p rows)) ≤ unended q (r ∷ rows)
found_step true q p r rows is more = omega arith
found_step false q p r rows is more = omega (arith, more)

found_counts : (q : Event → Period → Bool) (p : Row → Bool) (rows : List Row) → one_if q (find p rows) ≤ unended q rows
found_counts q p [] = omega arith
found_counts q p (r ∷ rows) = found_step (p r) q p r rows refl (found_counts q p rows)

at_most : (b : Bool) → only_if b 1 ≤ 1
at_most true = omega arith
at_most false = omega arith

few_unended : (q : Event → Period → Bool) (rows : List Row) → unended q rows ≤ length rows
few_unended q [] = omega arith
few_unended q (r ∷ rows) = let more = few_unended q rows in let one = at_most (is_unended q r) in omega (arith, more, one)

-- the rows with a row put, and the counts before and after

pub some_there : (rows : List Row) (periods : List PeriodCount) (old : Option Row) (e : Event) (z : Place) → AreCounted rows periods → old ≡ row_at rows e z → (q : Event → Period → Bool) → one_if q old ≤ counted q periods
some_there rows periods old e z are is q =
    let found = found_counts q (at_key e z) rows in
    let same = ap (one_if q) is in
    omega (arith, found, same, are.told q)

pub room_there : (rows : List Row) (periods : List PeriodCount) (old : Option Row) (row : Row) (capacity : ℕ) → AreCounted rows periods → IsStrictlySortedBy by_key rows → old ≡ row_at rows row.event row.zone → length (put row rows) ≤ capacity →
    counted any_period periods + one_of any_period row ≤ capacity + one_if any_period old
room_there rows periods old row capacity are up is room =
    let few = few_unended any_period (put row rows) in
    let sum = unended_put any_period row rows up in
    let same = ap (one_if any_period) is in
    omega (arith, few, sum, same, room, are.told any_period)

pub counted_with : (rows : List Row) (periods after : List PeriodCount) (old : Option Row) (row : Row) → AreCounted rows periods → IsStrictlySortedBy by_key rows → old ≡ row_at rows row.event row.zone → AreInOrder after →
    ((q : Event → Period → Bool) → counted q after + one_if q old ≡ counted q periods + one_of q row) → AreCounted (put row rows) after
counted_with rows periods after old row are up is stand told = record {
  stand = stand;
  told = λ q.
      let sum = unended_put q row rows up in
      let same = ap (one_if q) is in
      let t = told q in
      omega (arith, sum, same, t, are.told q);
}

some_one : (a b : Row) → ◌≡◌ {A = Option Row} (Some a) (Some b) → a ≡ b
some_one a b h = cc

-- the row that a line leaves, if any, in the place of the one that it meets

result_key : (r : Result Life Breach) (line : Line) (row : Row) → row_if line r ≡ Some row → (row.event ≡ line.event) × (row.zone ≡ line.zone)
result_key (Ok life) line row h = let same = some_one (row_of line life) row h in (ap (λ (r : Row). r.event) (sym same), ap (λ (r : Row). r.zone) (sym same))
result_key (Err breach) line row h = cc

routine_key : (b : Bool) (r : Result Life Breach) (line : Line) (row : Row) → cond b None (row_if line r) ≡ Some row → (row.event ≡ line.event) × (row.zone ≡ line.zone)
routine_key true r line row h = cc
routine_key false r line row h = result_key r line row h

pub left_key : (life : Option Life) (t : ℕ) (line : Line) (row : Row) → row_after_on_life life t line ≡ Some row → (row.event ≡ line.event) × (row.zone ≡ line.zone)
left_key life t line row h = routine_key (is_routine line.action) (step life line t (wanted line.action)) line row h

pub some_left : (rows : List Row) (periods : List PeriodCount) (line : Line) (old : Option Row) → AreCounted rows periods → old ≡ row_at rows line.event line.zone → (q : Event → Period → Bool) → one_if q old ≤ counted q periods
some_left rows periods line old are is q = some_there rows periods old line.event line.zone are is q

in_place : (rows : List Row) (line : Line) (old : Option Row) (row : Row) → (row.event ≡ line.event) × (row.zone ≡ line.zone) → old ≡ row_at rows line.event line.zone → old ≡ row_at rows row.event row.zone
in_place rows line old row key is = is ∙ ap (λ (e : Event). row_at rows e line.zone) (sym key.0) ∙ ap (row_at rows row.event) (sym key.1)

module _ (rows : List Row) (periods : List PeriodCount) (line : Line) (t : ℕ) (life : Option Life) (old : Option Row) (are : AreCounted rows periods) (up : IsStrictlySortedBy by_key rows) (is : old ≡ row_at rows line.event line.zone) where
  pub room_left : (o : Option Row) (capacity : ℕ) → row_after_on_life life t line ≡ o → length (add_row_if_some o rows) ≤ capacity → counted any_period periods + one_if any_period o ≤ capacity + one_if any_period old
  room_left None capacity h room = let few = few_unended any_period rows in omega (arith, few, room, are.told any_period)
  room_left (Some row) capacity h room = room_there rows periods old row capacity are up (in_place rows line old row (left_key life t line row h) is) room

  pub counted_left_by : (o : Option Row) (after : List PeriodCount) → row_after_on_life life t line ≡ o → AreInOrder after → AreCountedWith old o periods after → AreCounted (add_row_if_some o rows) after
  counted_left_by None after h stand told = subst (λ (some : List PeriodCount). AreCounted rows some) (sym told) are
  counted_left_by (Some row) after h stand told = counted_with rows periods after old row are up (in_place rows line old row (left_key life t line row h) is) stand told

-- rows that count alike
pub alike_counts : (old : Option Row) (row : Row) → count_alike old row ≡ true → (q : Event → Period → Bool) → one_if q old ≡ one_of q row
alike_counts None row h q = cc
alike_counts (Some old) row h q =
    let p = and_parts (not old.ended && not row.ended && same_event old.event row.event) _ h in
    let r = and_parts (not old.ended && not row.ended) _ p.0 in
    let s = and_parts (not old.ended) _ r.0 in
    rw (event_one old.event row.event r.1, period_one old.period row.period p.1, s.0, s.1) refl

pub none_counted : AreCounted [] []
unfolding IsStrictlySortedBy
none_counted = record { stand = record { order = tt; some = tt }; told = λ q. refl }

-- there are no more counts than rows
pub few_counts : (rows : List Row) (periods : List PeriodCount) → AreCounted rows periods → length periods ≤ length rows
few_counts rows periods are =
    let some = no_more_counts periods are.stand.some in
    let few = few_unended any_period rows in
    omega (arith, some, few, are.told any_period)

-- what holds, holds where there is an error
pub either_way : {A E : Type 0} (r : Result A E) (P : Type 0) → P → OnErr r P
either_way (Ok a) P p = tt
either_way (Err e) P p = p
