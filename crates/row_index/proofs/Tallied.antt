-- How many lives pass a test, where zones come to one.
use Rattle.std.proofs.Common.{◌≡◌, ◌∙◌, ◌+◌, ℕ, zero, suc, List, [], ◌∷◌, ◌++◌, Bool, true, false, cond, Ordering, Less, Equal, Greater, None, refl, ap, subst, arith}
use Rattle.std.specs.BTreeMap.{insert_entry, is_at}
use Rattle.std.specs.List.{AllByRecursion}
use Rattle.std.specs.List.Sorted.{IsStrictlySortedBy}
use Rattle.std.specs.Map.{keys_of, lookup, values_of}
use Rattle.std.specs.Ordering.{match_ordering}
use Rattle.hazard_types.specs.Places.{Place, by_place}
use Rattle.hazard_types.specs.declared.hazard.Event.{Event}
use Rattle.hazard_types.proofs.OrderLaws.{by_place_total}
use Rattle.event_life.specs.declared.life.Life.{Life}
use Rattle.row_index.specs.declared.standing.Before.{Before}
use Rattle.row_index.specs.Sharing.{rows_with}
use Rattle.row_index.specs.Tallies.{tally, one, one_of, times, owed, passes}

-- so many times a number

pub times-nought : (n : ℕ) → times n 0 ≡ 0
times-nought zero = refl
times-nought (suc n) = let later = times-nought n in omega (arith, later)

pub times-one : (n : ℕ) → times n 1 ≡ n
times-one zero = refl
times-one (suc n) = let later = times-one n in omega (arith, later)

pub times-next : (n m : ℕ) → times (n + 1) m ≡ m + times n m
times-next n m = let next : suc n ≡ n + 1 = omega arith in subst (λ (k : ℕ). times k m ≡ m + times n m) next refl

pub tally-first : {X : Type 0} → (p : X → Bool) (x : X) (xs : List X) → tally p (x ∷ xs) ≡ one (p x) + tally p xs
tally-first {X} p x xs = by_test (p x)
  where
    by_test : (b : Bool) → cond b (suc (tally p xs)) (tally p xs) ≡ one b + tally p xs
    by_test true = omega arith
    by_test false = omega arith

-- one entry more

above_all : (z y : Place) (zs : List Place) → by_place z y ≡ Less → AllByRecursion (λ x. by_place y x ≡ Less) zs → AllByRecursion (λ x. by_place z x ≡ Less) zs
above_all z y [] less all = tt
above_all z y (x ∷ zs) less all = (by_place_total.trans z y x less all.0, above_all z y zs less all.1)

none_behind : {V : Type 0} → (z : Place) (es : List (Place × V)) → AllByRecursion (λ x. by_place z x ≡ Less) (keys_of es) → lookup (is_at (by_place z)) es ≡ None
none_behind z [] all = refl
none_behind z (e ∷ es) all = rw all.0 (none_behind z es all.1)

module _ {V : Type 0} (p : V → Bool) where
  placed_tally : (o : Ordering) (z : Place) (v : V) (e : Place × V) (es : List (Place × V)) → by_place z e.0 ≡ o → AllByRecursion (λ x. by_place e.0 x ≡ Less) (keys_of es)
      → tally p (values_of (insert_entry by_place es z v)) + one_of p (lookup (is_at (by_place z)) es) ≡ one (p v) + tally p (values_of es)
      → tally p (values_of (match_ordering o ((z, v) ∷ e ∷ es) ((e.0, v) ∷ es) (e ∷ insert_entry by_place es z v))) + one_of p (lookup (is_at (by_place z)) (e ∷ es)) ≡ one (p v) + tally p (values_of (e ∷ es))
  placed_tally Less z v e es h all later =
      rw (h, none_behind z es (above_all z e.0 (keys_of es) h all), tally-first p v (e.1 ∷ values_of es)) (omega arith)
  placed_tally Equal z v e es h all later =
      rw (h, tally-first p v (values_of es), tally-first p e.1 (values_of es)) (omega arith)
  placed_tally Greater z v e es h all later =
      rw (h, tally-first p e.1 (values_of es), tally-first p e.1 (values_of (insert_entry by_place es z v))) (omega (arith, later))

  pub entry-tally : (z : Place) (v : V) (es : List (Place × V)) → IsStrictlySortedBy by_place (keys_of es)
      → tally p (values_of (insert_entry by_place es z v)) + one_of p (lookup (is_at (by_place z)) es) ≡ one (p v) + tally p (values_of es)
  unfolding IsStrictlySortedBy
  entry-tally z v [] up = rw (tally-first p v []) (omega arith)
  entry-tally z v (e ∷ es) up = placed_tally (by_place z e.0) z v e es refl up.0 (entry-tally z v es up.1)

-- one zone more that had the life of the last, or another

pub zone-same : (owes count more last own : ℕ) → more ≡ count + 1 → last ≡ own → owes + times more last ≡ owes + times count last + own
zone-same owes count more last own is same =
    let next = ap (λ (n : ℕ). times n last) is ∙ times-next count last in
    omega (arith, same, next)

pub zone-other : (owes next count last own : ℕ) → next ≡ owes + times count last → next + times 1 own ≡ owes + times count last + own
zone-other owes next count last own is =
    let first : times 1 own ≡ own + 0 = refl in
    omega (arith, is, first)

-- one entry more, or one that says nothing

pub owed-behind : (p : Life → Bool) (bs : List Before) (b : Before) → owed p (bs ++ b ∷ []) ≡ owed p bs + times b.zones (one_of p b.life)
owed-behind p [] b = omega arith
owed-behind p (x ∷ bs) b = let later = owed-behind p bs b in omega (arith, later)

pub owed-none : (p : Life → Bool) (bs : List Before) (n m : ℕ) → n ≡ 0 → owed p bs ≡ owed p bs + times n m
owed-none p bs n m none = rw none (omega arith)

-- lives of rows

pub rows-tally : (p : Life → Bool) (e : Event) (lives : List (Place × Life)) → tally (passes p) (values_of (rows_with e lives)) ≡ tally p (values_of lives)
rows-tally p e [] = refl
rows-tally p e (s ∷ lives) = ap (λ (n : ℕ). cond (p s.1) (suc n) n) (rows-tally p e lives)
