-- The products that govern a minute, and what one product more changes.
use Rattle.std.proofs.Common.{◌≡◌, ◌∙◌, ◌≤◌, ◌<◌, ℕ, zero, suc, ◌+◌, ◌&&◌, Bool, true, false, cond, List, [], ◌∷◌, ◌++◌, length, take, Option, refl, sym, ap, subst, arith}
use Rattle.std.specs.Prelude.{nat_le, max, ◌↔◌}
use Rattle.std.proofs.lemmas.Bool.Decides.{nat_tests}
use Rattle.hazard_types.specs.Places.{Place}
use Rattle.hazard_types.specs.declared.hazard.Event.{Event}
use Rattle.hazard_types.specs.declared.line.Row.{Row}
use Rattle.event_life.specs.Products.{Product, row_at, rows_of}
use Rattle.stats_report.specs.Minutes.{greatest, governing, has_effect, in_effect, one_if, minutes_of, minutes_left}
use Rattle.stats_report.proofs.Counting.{joined_count, count_less, left_counted}

pub greatest-push : (products : List Product) (q : Product) → greatest (products ++ q ∷ []) ≡ max (greatest products) q.issue
greatest-push [] q = omega arith
greatest-push (p ∷ products) q = let e = greatest-push products q in omega (arith, e)

tested : (m n : ℕ) → m ≤ n → nat_le m n ≡ true
tested m n h = by_test (nat_le m n) refl
  where
    by_test : (b : Bool) → nat_le m n ≡ b → b ≡ true
    by_test true e = refl
    by_test false e = absurd (grind (arith, nat_tests))

untested : (m n : ℕ) → n < m → nat_le m n ≡ false
untested m n h = by_test (nat_le m n) refl
  where
    by_test : (b : Bool) → nat_le m n ≡ b → b ≡ false
    by_test true e = absurd (grind (arith, nat_tests))
    by_test false e = refl

module _ (m : ℕ) where
  -- none of the products is issued after the minute
  pub all_govern : (products : List Product) → greatest products ≤ m → governing m products ≡ products
  all_govern [] h = refl
  all_govern (p ∷ products) h = rw (tested p.issue m (omega (arith, h))) (ap (λ (ps : List Product). p ∷ ps) (all_govern products (omega (arith, h))))

  fewer_by : (b : Bool) (p q : Product) (products : List Product) → nat_le p.issue m ≡ b → m < max (max p.issue (greatest products)) q.issue
      → (m < max (greatest products) q.issue → governing m (products ++ q ∷ []) ≡ governing m products)
      → cond b (p ∷ governing m (products ++ q ∷ [])) [] ≡ cond b (p ∷ governing m products) []
  fewer_by true p q products e h later = ap (λ (ps : List Product). p ∷ ps) (later (below e))
    where
      below : nat_le p.issue m ≡ true → m < max (greatest products) q.issue
      below e = grind (arith, nat_tests)
  fewer_by false p q products e h later = refl

  -- one is issued after it, of these or the next
  pub fewer_govern : (products : List Product) (q : Product) → m < max (greatest products) q.issue → governing m (products ++ q ∷ []) ≡ governing m products
  fewer_govern [] q h = rw (untested q.issue m (omega (arith, h))) refl
  fewer_govern (p ∷ products) q h = fewer_by (nat_le p.issue m) p q products refl h (fewer_govern products q)

module _ (products : List Product) (q : Product) (e : Event) (z : Place) (from : ℕ) (is : from ≡ max (greatest products) q.issue) where
  abbrev all : List Product
  all = products ++ q ∷ []

  abbrev old : Option Row
  old = row_at (rows_of products) e z

  abbrev new : Option Row
  new = row_at (rows_of all) e z

  abbrev effect : List Product → ℕ → Bool
  effect ps m = has_effect (row_at (rows_of ps) e z) m

  at_minute : (m : ℕ) (b : Bool) → nat_le from m ≡ b → one_if (in_effect all e z m) + one_if (b && has_effect old m) ≡ one_if (in_effect products e z m) + one_if (b && has_effect new m)
  at_minute m true h =
      let first : governing m all ≡ all = all_govern m all (later h) in
      let second : governing m products ≡ products = all_govern m products (before h) in
      ap (λ (ps : List Product). one_if (effect ps m) + one_if (has_effect old m)) first
      ∙ turned (one_if (has_effect new m)) (one_if (has_effect old m))
      ∙ ap (λ (ps : List Product). one_if (effect ps m) + one_if (has_effect new m)) (sym second)
    where
      within : nat_le from m ≡ true → from ≤ m
      within h = grind (arith, nat_tests)

      later : nat_le from m ≡ true → greatest all ≤ m
      later h = let w = within h in let g = greatest-push products q in omega (arith, w, is, g)

      before : nat_le from m ≡ true → greatest products ≤ m
      before h = let w = within h in omega (arith, w, is)

      turned : (a b : ℕ) → a + b ≡ b + a
      turned a b = omega arith
  at_minute m false h = ap (λ (ps : List Product). one_if (effect ps m) + 0) (fewer_govern m products q (below h))
    where
      below : nat_le from m ≡ false → m < max (greatest products) q.issue
      below h = let w : m < from = grind (arith, nat_tests) in omega (arith, w, is)

  pub minutes_step : (stamp : ℕ) → minutes_of stamp all e z + minutes_left stamp from old ≡ minutes_of stamp products e z + minutes_left stamp from new
  unfolding minutes_of
  minutes_step stamp =
      ap (λ (n : ℕ). minutes_of stamp all e z + n) (left_counted stamp from old)
      ∙ joined_count stamp (in_effect all e z) (in_effect products e z) (λ m. nat_le from m && has_effect new m) (λ m. nat_le from m && has_effect old m) (λ m. at_minute m (nat_le from m) refl)
      ∙ ap (λ (n : ℕ). minutes_of stamp products e z + n) (sym (left_counted stamp from new))

  left_at : (m : ℕ) (b : Bool) → nat_le from m ≡ b → one_if (b && has_effect old m) ≤ one_if (in_effect products e z m)
  left_at m true h =
      let second : governing m products ≡ products = all_govern m products (before h) in
      subst (λ (ps : List Product). one_if (has_effect old m) ≤ one_if (effect ps m)) (sym second) (same (one_if (has_effect old m)))
    where
      before : nat_le from m ≡ true → greatest products ≤ m
      before h = let w : from ≤ m = grind (arith, nat_tests) in omega (arith, w, is)

      same : (n : ℕ) → n ≤ n
      same n = omega arith
  left_at m false h = omega arith

  -- what is left is among the minutes
  pub left_within : (stamp : ℕ) → minutes_left stamp from old ≤ minutes_of stamp products e z
  unfolding minutes_of
  left_within stamp =
      subst (λ (n : ℕ). n ≤ minutes_of stamp products e z) (sym (left_counted stamp from old))
      (count_less stamp (λ m. nat_le from m && has_effect old m) (in_effect products e z) (λ m. left_at m (nat_le from m) refl))

-- the governing products are a front, and the longest of which no issue minute is after the minute

pub governing_front : (m : ℕ) (products : List Product) → governing m products ≡ take (length (governing m products)) products
governing_front m [] = refl
governing_front m (p ∷ products) = front_by (nat_le p.issue m) p products (governing m products) (governing_front m products)
  where
    front_by : (b : Bool) (p : Product) (products front : List Product) → front ≡ take (length front) products → cond b (p ∷ front) [] ≡ take (length (cond b (p ∷ front) [])) (p ∷ products)
    front_by true p products front h = ap (λ (ps : List Product). p ∷ ps) h
    front_by false p products front h = refl

longest_by : (b : Bool) (m k : ℕ) (p : Product) (products front : List Product) → nat_le p.issue m ≡ b → (greatest (take k products) ≤ m) ↔ (k ≤ length front)
    → (max p.issue (greatest (take k products)) ≤ m) ↔ (suc k ≤ length (cond b (p ∷ front) []))
longest_by true m k p products front h later =
    ((λ g. let n = later.0 (omega (arith, g)) in omega (arith, n)), (λ n. let g : greatest (take k products) ≤ m = later.1 (omega (arith, n)) in let first : p.issue ≤ m = grind (arith, nat_tests) in omega (arith, g, first)))
longest_by false m k p products front h later =
    ((λ g. let first : m < p.issue = grind (arith, nat_tests) in absurd (omega (arith, g, first))), (λ n. absurd (omega (arith, n))))

pub governing_greatest : (m k : ℕ) (products : List Product) → k ≤ length products → (greatest (take k products) ≤ m) ↔ (k ≤ length (governing m products))
governing_greatest m zero products few = ((λ g. omega arith), (λ n. omega arith))
governing_greatest m (suc k) [] few = absurd (omega (arith, few))
governing_greatest m (suc k) (p ∷ products) few = longest_by (nat_le p.issue m) m k p products (governing m products) refl (governing_greatest m k products (omega (arith, few)))
