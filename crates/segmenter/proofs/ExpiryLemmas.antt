-- A text expires after its issue.
use Rattle.std.proofs.Common.{◌≡◌, ℕ, ◌+◌, ◌<◌, arith, List, [], ◌∷◌, Bool, true, false, cond, fold, refl}
use Rattle.std.specs.List.{AllByRecursion, list_any}
use Rattle.std.proofs.lemmas.List.Elements.{recursion_from_All}
use Rattle.hazard_types.specs.declared.line.SegLine.{SegLine}
use Rattle.hazard_types.specs.declared.period.End.{End}
use Rattle.hazard_types.specs.declared.period.End.TheVariants.{At, Ufn}
use Rattle.segmenter.specs.Expiry.{leaves_live, earlier_end, earlier_live_end, has_long_expiry, expiry_of, IsAfter, EndAfter}

lesser_later : (t m : ℕ) (end : End) → t < m → IsAfter t end → t < earlier_end m end
lesser_later t m (At e) lt after = omega arith
lesser_later t m Ufn lt after = lt

left_later : (t m : ℕ) (b : Bool) (end : End) → t < m → (b ≡ true → IsAfter t end) → t < cond b (earlier_end m end) m
left_later t m true end lt after = lesser_later t m end lt (after refl)
left_later t m false end lt after = lt

abbrev Each : ℕ → SegLine → Type 0
Each t line = leaves_live line.action ≡ true → IsAfter t line.end

all_later : (t m : ℕ) (lines : List SegLine) → t < m → AllByRecursion (Each t) lines → t < fold earlier_live_end m lines
all_later t m [] lt all = lt
all_later t m (line ∷ lines) lt all = all_later t (earlier_live_end m line) lines (left_later t m (leaves_live line.action) line.end lt all.0) all.1

by_test : (t n : ℕ) (b : Bool) → t < n → t < cond b n (t + 60)
by_test t n true lt = lt
by_test t n false lt = omega arith

pub later : (t : ℕ) (lines : List SegLine) → EndAfter t lines → t < expiry_of t lines
later t lines after = by_test t (fold earlier_live_end (t + 480) lines) (list_any has_long_expiry lines) (all_later t (t + 480) lines (omega arith) (recursion_from_All (Each t) lines after))
