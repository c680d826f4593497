use Rattle.std.proofs.Common.{◌≡◌, ◌<◌, ◌==◌, ℕ, get_or, false}
use Rattle.hazard_types.proofs.table.without_padding.Given as goal

-- no blank stands before this place
abbrev pub invariant-loop-i : goal.invariant-loop-i
invariant-loop-i l = (k : ℕ) → k < l.i → (get_or l.code k 0 == 32) ≡ false
