-- Minutes that are counted one by one, and the lengths that they come to.
use Rattle.std.proofs.Common.{◌≡◌, ◌∙◌, ◌≤◌, ℕ, zero, suc, ◌+◌, ◌-◌, ◌&&◌, not, Bool, true, false, cond, Option, Some, None, refl, sym, ap, arith}
use Rattle.std.specs.Prelude.{nat_le, nat_lt, min, max}
use Rattle.std.proofs.lemmas.Bool.Decides.{nat_tests}
use Rattle.hazard_types.specs.declared.line.Row.{Row}
use Rattle.hazard_types.specs.declared.period.End.{End}
use Rattle.hazard_types.specs.declared.period.End.TheVariants.{At, Ufn}
use Rattle.event_life.specs.Periods.{ends_after}
use Rattle.stats_report.specs.Minutes.{has_effect, one_if, count_before, cut_at, minutes_left}

-- counts of tests that are alike at each minute

pub same_count : (n : ℕ) (f g : ℕ → Bool) → ((m : ℕ) → f m ≡ g m) → count_before n f ≡ count_before n g
same_count zero f g h = refl
same_count (suc m) f g h = rw (h m) (ap (λ (k : ℕ). one_if (g m) + k) (same_count m f g h))

pub joined_count : (n : ℕ) (f g a b : ℕ → Bool) → ((m : ℕ) → one_if (f m) + one_if (b m) ≡ one_if (g m) + one_if (a m)) → count_before n f + count_before n b ≡ count_before n g + count_before n a
joined_count zero f g a b h = refl
joined_count (suc m) f g a b h = omega (arith, h m, joined_count m f g a b h)

pub count_less : (n : ℕ) (f g : ℕ → Bool) → ((m : ℕ) → one_if (f m) ≤ one_if (g m)) → count_before n f ≤ count_before n g
count_less zero f g h = omega arith
count_less (suc m) f g h = omega (arith, h m, count_less m f g h)

pub count_none : (n : ℕ) (f : ℕ → Bool) → ((m : ℕ) → f m ≡ false) → count_before n f ≡ 0
count_none zero f h = refl
count_none (suc m) f h = let e : one_if (f m) ≡ 0 = ap one_if (h m) in omega (arith, e, count_none m f h)

-- the minutes from one on and before another

between_step : (b c : Bool) (m lo hi n : ℕ) → nat_le lo m ≡ b → nat_lt m hi ≡ c → n ≡ min m hi - lo → one_if (b && c) + n ≡ min (suc m) hi - lo
between_step true true m lo hi n h g e = grind (arith, nat_tests)
between_step true false m lo hi n h g e = grind (arith, nat_tests)
between_step false true m lo hi n h g e = grind (arith, nat_tests)
between_step false false m lo hi n h g e = grind (arith, nat_tests)

count_between : (n lo hi : ℕ) → count_before n (λ m. nat_le lo m && nat_lt m hi) ≡ min n hi - lo
count_between zero lo hi = omega arith
count_between (suc m) lo hi = between_step (nat_le lo m) (nat_lt m hi) m lo hi (count_before m (λ m. nat_le lo m && nat_lt m hi)) refl refl (count_between m lo hi)

from_step : (b : Bool) (m lo n : ℕ) → nat_le lo m ≡ b → n ≡ m - lo → one_if (b && true) + n ≡ suc m - lo
from_step true m lo n h e = grind (arith, nat_tests)
from_step false m lo n h e = grind (arith, nat_tests)

count_from : (n lo : ℕ) → count_before n (λ m. nat_le lo m && true) ≡ n - lo
count_from zero lo = omega arith
count_from (suc m) lo = from_step (nat_le lo m) m lo (count_before m (λ m. nat_le lo m && true)) refl (count_from m lo)

both_begun : (from begin m : ℕ) (e b c d : Bool) → nat_le from m ≡ b → nat_le begin m ≡ c → nat_le (max from begin) m ≡ d → (b && (c && e)) ≡ (d && e)
both_begun from begin m e true true true h g k = refl
both_begun from begin m e true true false h g k = absurd (grind (arith, nat_tests))
both_begun from begin m e true false true h g k = absurd (grind (arith, nat_tests))
both_begun from begin m e true false false h g k = refl
both_begun from begin m e false true true h g k = absurd (grind (arith, nat_tests))
both_begun from begin m e false true false h g k = refl
both_begun from begin m e false false true h g k = absurd (grind (arith, nat_tests))
both_begun from begin m e false false false h g k = refl

and_false : (b : Bool) → (b && false) ≡ false
and_false true = refl
and_false false = refl

left_by_end : (stamp from begin : ℕ) (end : End) → count_before stamp (λ m. nat_le from m && (nat_le begin m && ends_after end m)) ≡ cut_at stamp end - max from begin
left_by_end stamp from begin (At hi) =
    same_count stamp _ (λ m. nat_le (max from begin) m && nat_lt m hi) (λ m. both_begun from begin m (nat_lt m hi) (nat_le from m) (nat_le begin m) (nat_le (max from begin) m) refl refl refl)
    ∙ count_between stamp (max from begin) hi
left_by_end stamp from begin Ufn =
    same_count stamp _ (λ m. nat_le (max from begin) m && true) (λ m. both_begun from begin m true (nat_le from m) (nat_le begin m) (nat_le (max from begin) m) refl refl refl)
    ∙ count_from stamp (max from begin)

left_by : (b : Bool) (stamp from begin : ℕ) (end : End) → count_before stamp (λ m. nat_le from m && (not b && nat_le begin m && ends_after end m)) ≡ cond b 0 (cut_at stamp end - max from begin)
left_by true stamp from begin end = count_none stamp _ (λ m. and_false (nat_le from m))
left_by false stamp from begin end = left_by_end stamp from begin end

-- the length is the count of the minutes
pub left_counted : (stamp from : ℕ) (o : Option Row) → minutes_left stamp from o ≡ count_before stamp (λ m. nat_le from m && has_effect o m)
left_counted stamp from None = sym (count_none stamp (λ m. nat_le from m && false) (λ m. and_false (nat_le from m)))
left_counted stamp from (Some row) = sym (left_by row.ended stamp from row.period.begin row.period.end)
