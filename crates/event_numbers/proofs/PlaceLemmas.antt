-- Counts in order: the place of a hazard and year, and order after a count is set or put in.
use Rattle.std.proofs.Common.{◌≡◌, ◌⊎◌, inl, inr, ◌∙◌, ◌==◌, ◌&&◌, ℕ, zero, suc, ◌<◌, ◌≤◌, Bool, true, false, List, [], ◌∷◌, Ordering, Less, Equal, Greater, refl, sym, ap, subst, length, get_or, insert, slice_set, is_eq, is_lt, eq-or-lt_of_le, arith}
use Rattle.std.specs.List.{AllByRecursion}
use Rattle.std.specs.List.Sorted.{IsStrictlySortedBy, IsPartitionedBy}
use Rattle.std.specs.Ordering.{nat_cmp, ordering_then, ordering_reverse}
use Rattle.std.specs.Cmp.{IsTotalOrder, Equal-is}
use Rattle.std.proofs.lemmas.Bool.{cases_lt}
use Rattle.std.proofs.lemmas.Bool.Decides.{nat_tests, same_from_decides}
use Rattle.std.proofs.lemmas.Cmp.{nat_cmp_total, on_total, then_total, tied_itself}
use Rattle.hazard_types.specs.Orders.{by_hazard}
use Rattle.hazard_types.specs.Same.{same_hazard}
use Rattle.hazard_types.specs.declared.hazard.Hazard.{Hazard}
use Rattle.hazard_types.proofs.Equality.{hazard_one, hazard_itself}
use Rattle.hazard_types.proofs.OrderLaws.{by_hazard_total, by_hazard_ties}
use Rattle.event_numbers.specs.declared.Count.{Count}
use Rattle.event_numbers.specs.Counts.{is_count_of, by_count, cmp_key, IsPlaceOf, IsGapFor}

by_count_total : IsTotalOrder by_count
by_count_total = then_total (on_total (λ (c : Count). c.hazard) by_hazard_total) (on_total (λ (c : Count). c.year) nat_cmp_total)

-- a tie is the test

is_less : (o : Ordering) → is_lt o ≡ true → o ≡ Less
is_less Less h = refl
is_less Equal h = cc
is_less Greater h = cc

is_greater : (o : Ordering) → is_lt o ≡ false → is_eq o ≡ false → o ≡ Greater
is_greater Less h g = cc
is_greater Equal h g = cc
is_greater Greater h g = refl

hazard_tied : (a b : Hazard) → is_eq (by_hazard a b) ≡ same_hazard a b
hazard_tied a b = same_from_decides _ _ (Equal-is (by_hazard a b)) (
  λ h. ap (λ (g : Hazard). by_hazard a g) (sym (hazard_one a b h)) ∙ tied_itself by_hazard_total a,
  λ e. rw (by_hazard_ties a b e) (hazard_itself b),
)

number_tied : (a b : ℕ) → is_eq (nat_cmp a b) ≡ (a == b)
number_tied a b = grind (arith, nat_tests)

both_tied : (p q : Ordering) → is_eq (ordering_then p q) ≡ (is_eq p && is_eq q)
both_tied Less q = refl
both_tied Equal q = refl
both_tied Greater q = refl

tied : (h : Hazard) (y : ℕ) (c : Count) → is_eq (cmp_key h y c) ≡ is_count_of h y c
tied h y c =
    both_tied (by_hazard c.hazard h) (nat_cmp c.year y)
    ∙ ap (λ (b : Bool). b && is_eq (nat_cmp c.year y)) (hazard_tied c.hazard h)
    ∙ ap (λ (b : Bool). same_hazard c.hazard h && b) (number_tied c.year y)

not_less : (h : Hazard) (y : ℕ) (c : Count) → cmp_key h y c ≡ Less → is_count_of h y c ≡ false
not_less h y c less = sym (tied h y c) ∙ ap is_eq less

not_greater : (h : Hazard) (y : ℕ) (c : Count) → cmp_key h y c ≡ Greater → is_count_of h y c ≡ false
not_greater h y c more = sym (tied h y c) ∙ ap is_eq more

-- order by index

all_at : (P : Count → Type 0) (cs : List Count) (i : ℕ) (d : Count) → AllByRecursion P cs → i < length cs → P (get_or cs i d)
all_at P [] i d all within = absurd (omega (arith, within))
all_at P (c ∷ cs) zero d all within = all.0
all_at P (c ∷ cs) (suc i) d all within = all_at P cs i d all.1 (omega (arith, within))

in_order : (cs : List Count) (i j : ℕ) (d : Count) → IsStrictlySortedBy by_count cs → i < j → j < length cs → by_count (get_or cs i d) (get_or cs j d) ≡ Less
unfolding IsStrictlySortedBy
in_order [] i j d up less within = absurd (omega (arith, within))
in_order (c ∷ cs) i zero d up less within = absurd (omega (arith, less))
in_order (c ∷ cs) zero (suc j) d up less within = all_at (λ y. by_count c y ≡ Less) cs j d up.0 (omega (arith, within))
in_order (c ∷ cs) (suc i) (suc j) d up less within = in_order cs i j d up.1 (omega (arith, less)) (omega (arith, within))

module _ (h : Hazard) (y : ℕ) where
  abbrev key : Count
  key = record { hazard = h; year = y; count = 0 }

  keeps_less : (a b : Count) → by_count a b ≡ Less → is_lt (cmp_key h y b) ≡ true → is_lt (cmp_key h y a) ≡ true
  keeps_less a b less lt = ap is_lt (by_count_total.trans a b key less (is_less (cmp_key h y b) lt))

  part_step : (cs : List Count) (i j : ℕ) (d : Count) → IsStrictlySortedBy by_count cs → j < length cs → (i ≡ j) ⊎ (i < j) → is_lt (cmp_key h y (get_or cs j d)) ≡ true → is_lt (cmp_key h y (get_or cs i d)) ≡ true
  part_step cs i j d up within (inl same) lt = subst (λ (k : ℕ). is_lt (cmp_key h y (get_or cs k d)) ≡ true) (sym same) lt
  part_step cs i j d up within (inr less) lt = keeps_less (get_or cs i d) (get_or cs j d) (in_order cs i j d up less within) lt

  pub parted : (cs : List Count) → IsStrictlySortedBy by_count cs → IsPartitionedBy (λ c. is_lt (cmp_key h y c)) cs
  parted cs up i j d le within lt = part_step cs i j d up within (eq-or-lt_of_le le) lt

  turned : (a b : Count) (o : Ordering) → by_count a b ≡ o → by_count b a ≡ ordering_reverse o
  turned a b o e = by_count_total.antisymm b a ∙ ap ordering_reverse e

  keeps_greater : (a b : Count) → by_count a b ≡ Less → cmp_key h y a ≡ Greater → cmp_key h y b ≡ Greater
  keeps_greater a b less more = turned key b Less (by_count_total.trans key a b (turned a key Greater more) less)

  default_free : (cs : List Count) (i : ℕ) (c d : Count) → i < length cs → get_or cs i c ≡ get_or cs i d
  default_free [] i c d within = absurd (omega (arith, within))
  default_free (x ∷ cs) zero c d within = refl
  default_free (x ∷ cs) (suc i) c d within = default_free cs i c d (omega (arith, within))

  module _ (cs : List Count) (i : ℕ) (below : (k : ℕ) (d : Count) → 0 ≤ k → k < i → is_lt (cmp_key h y (get_or cs k d)) ≡ true) (above : (k : ℕ) (d : Count) → i ≤ k → k < length cs → is_lt (cmp_key h y (get_or cs k d)) ≡ false) where
    less_below : (k : ℕ) (d : Count) → k < i → cmp_key h y (get_or cs k d) ≡ Less
    less_below k d lt = is_less (cmp_key h y (get_or cs k d)) (below k d (omega arith) lt)

    pub place_there : (x : Count) → i < length cs → x ≡ get_or cs i x → is_eq (cmp_key h y x) ≡ true → IsPlaceOf h y cs i
    place_there x within is own = record {
      within = within;
      found = λ d. ap (is_count_of h y) (default_free cs i d x within ∙ sym is) ∙ sym (tied h y x) ∙ own;
      before = λ k d lt. not_less h y (get_or cs k d) (less_below k d lt);
    }

    pub gap_behind : i ≤ length cs → length cs ≤ i → IsGapFor h y cs i
    gap_behind within past = record { within = within; below = less_below; above = λ k d le lt. absurd (omega (arith, le, lt, past)) }

    greater_step : (k : ℕ) (d : Count) → IsStrictlySortedBy by_count cs → k < length cs → cmp_key h y (get_or cs i d) ≡ Greater → (i ≡ k) ⊎ (i < k) → cmp_key h y (get_or cs k d) ≡ Greater
    greater_step k d up within first (inl same) = subst (λ (j : ℕ). cmp_key h y (get_or cs j d) ≡ Greater) same first
    greater_step k d up within first (inr less) = keeps_greater (get_or cs i d) (get_or cs k d) (in_order cs i k d up less within) first

    pub gap_before : IsStrictlySortedBy by_count cs → (x : Count) → i < length cs → x ≡ get_or cs i x → is_eq (cmp_key h y x) ≡ false → IsGapFor h y cs i
    gap_before up x within is other = record {
      within = omega (arith, within);
      below = less_below;
      above = λ k d le lt.
          let first : cmp_key h y (get_or cs i d) ≡ Greater = is_greater (cmp_key h y (get_or cs i d)) (above i d (omega arith) within) (ap (λ (c : Count). is_eq (cmp_key h y c)) (default_free cs i d x within ∙ sym is) ∙ other) in
          greater_step k d up lt first (eq-or-lt_of_le le);
    }

gap_step : (h : Hazard) (y : ℕ) (cs : List Count) (i : ℕ) → IsGapFor h y cs i → (k : ℕ) (d : Count) → k < length cs → (k < i) ⊎ (i ≤ k) → is_count_of h y (get_or cs k d) ≡ false
gap_step h y cs i gap k d within (inl lt) = not_less h y (get_or cs k d) (gap.below k d lt)
gap_step h y cs i gap k d within (inr le) = not_greater h y (get_or cs k d) (gap.above k d le within)

-- no count of the hazard and year stands where there is a gap for one
pub none_in_gap : (h : Hazard) (y : ℕ) (cs : List Count) (i : ℕ) → IsGapFor h y cs i → (k : ℕ) (d : Count) → k < length cs → is_count_of h y (get_or cs k d) ≡ false
none_in_gap h y cs i gap k d within = gap_step h y cs i gap k d within (cases_lt k i)

-- order after a count is set

all_set : (P : Count → Type 0) (cs : List Count) (i : ℕ) (c : Count) → AllByRecursion P cs → P c → AllByRecursion P (slice_set cs i c)
all_set P [] i c all one = tt
all_set P (x ∷ cs) zero c all one = (one, all.1)
all_set P (x ∷ cs) (suc i) c all one = (all.0, all_set P cs i c all.1 one)

pub sorted_set : (cs : List Count) (i : ℕ) (x : Count) (n : ℕ) → i < length cs → x ≡ get_or cs i x → IsStrictlySortedBy by_count cs → IsStrictlySortedBy by_count (slice_set cs i (record { hazard = x.hazard; year = x.year; count = n }))
unfolding IsStrictlySortedBy
sorted_set [] i x n within is up = tt
sorted_set (c ∷ cs) zero x n within is up = subst (λ (z : Count). AllByRecursion (λ y. by_count z y ≡ Less) cs × IsStrictlySortedBy by_count cs) (sym is) up
sorted_set (c ∷ cs) (suc i) x n within is up =
    let less : by_count c x ≡ Less = subst (λ (z : Count). by_count c z ≡ Less) (sym is) (all_at (λ y. by_count c y ≡ Less) cs i x up.0 (omega (arith, within))) in
    (all_set (λ y. by_count c y ≡ Less) cs i (record { hazard = x.hazard; year = x.year; count = n }) up.0 less, sorted_set cs i x n (omega (arith, within)) is up.1)

-- and after one is put in

all_insert : (P : Count → Type 0) (cs : List Count) (i : ℕ) (c : Count) → AllByRecursion P cs → P c → AllByRecursion P (insert cs i c)
all_insert P [] zero c all one = (one, tt)
all_insert P [] (suc i) c all one = (one, tt)
all_insert P (x ∷ cs) zero c all one = (one, all)
all_insert P (x ∷ cs) (suc i) c all one = (all.0, all_insert P cs i c all.1 one)

all_from : (P : Count → Type 0) (cs : List Count) → ((k : ℕ) (d : Count) → k < length cs → P (get_or cs k d)) → AllByRecursion P cs
all_from P [] each = tt
all_from P (c ∷ cs) each = (each 0 c (omega arith), all_from P cs (λ k d lt. each (suc k) d (omega (arith, lt))))

insert_sorted : (cs : List Count) (i : ℕ) (c : Count) → ((k : ℕ) (d : Count) → k < i → k < length cs → by_count (get_or cs k d) c ≡ Less) → ((k : ℕ) (d : Count) → i ≤ k → k < length cs → by_count c (get_or cs k d) ≡ Less) → IsStrictlySortedBy by_count cs → IsStrictlySortedBy by_count (insert cs i c)
unfolding IsStrictlySortedBy
insert_sorted [] zero c below above up = (tt, tt)
insert_sorted [] (suc i) c below above up = (tt, tt)
insert_sorted (x ∷ cs) zero c below above up = (all_from (λ y. by_count c y ≡ Less) (x ∷ cs) (λ k d lt. above k d (omega arith) lt), up)
insert_sorted (x ∷ cs) (suc i) c below above up = (
  all_insert (λ y. by_count x y ≡ Less) cs i c up.0 (below 0 x (omega arith) (omega arith)),
  insert_sorted cs i c (λ k d lt within. below (suc k) d (omega (arith, lt)) (omega (arith, within))) (λ k d le within. above (suc k) d (omega (arith, le)) (omega (arith, within))) up.1,
)

pub sorted_insert : (h : Hazard) (y n : ℕ) (cs : List Count) (i : ℕ) → IsGapFor h y cs i → IsStrictlySortedBy by_count cs → IsStrictlySortedBy by_count (insert cs i (record { hazard = h; year = y; count = n }))
sorted_insert h y n cs i gap up =
    let one : Count = record { hazard = h; year = y; count = n } in
    insert_sorted cs i one (λ k d lt within. gap.below k d lt) (λ k d le within. by_count_total.antisymm one (get_or cs k d) ∙ ap ordering_reverse (gap.above k d le within)) up
