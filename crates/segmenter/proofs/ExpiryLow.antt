-- A text expires within eight hours of its issue.
use Rattle.std.proofs.Common.{ℕ, ◌+◌, ◌≤◌, arith, List, [], ◌∷◌, Bool, true, false, cond, fold}
use Rattle.std.specs.List.{list_any}
use Rattle.hazard_types.specs.declared.line.SegLine.{SegLine}
use Rattle.hazard_types.specs.declared.period.End.{End}
use Rattle.hazard_types.specs.declared.period.End.TheVariants.{At, Ufn}
use Rattle.segmenter.specs.Expiry.{leaves_live, earlier_end, earlier_live_end, has_long_expiry, expiry_of}

lesser_low : (k m : ℕ) (end : End) → m ≤ k → earlier_end m end ≤ k
lesser_low k m (At e) le = omega arith
lesser_low k m Ufn le = le

left_low : (k m : ℕ) (b : Bool) (end : End) → m ≤ k → cond b (earlier_end m end) m ≤ k
left_low k m true end le = lesser_low k m end le
left_low k m false end le = le

all_low : (k m : ℕ) (lines : List SegLine) → m ≤ k → fold earlier_live_end m lines ≤ k
all_low k m [] le = le
all_low k m (line ∷ lines) le = all_low k (earlier_live_end m line) lines (left_low k m (leaves_live line.action) line.end le)

by_test : (k m n : ℕ) (b : Bool) → m ≤ k → n ≤ k → cond b m n ≤ k
by_test k m n true x y = x
by_test k m n false x y = y

-- a text expires eight hours after its issue at the latest
pub expiry_low : (t : ℕ) (lines : List SegLine) → expiry_of t lines ≤ t + 480
expiry_low t lines = by_test (t + 480) (fold earlier_live_end (t + 480) lines) (t + 60) (list_any has_long_expiry lines) (all_low (t + 480) (t + 480) lines (omega arith)) (omega arith)
