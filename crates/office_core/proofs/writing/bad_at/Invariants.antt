-- the bytes that are left decide as all do, further on by as many as were looked at
use Rattle.std.proofs.Common.{◌≡◌, ◌+◌, ℕ, drop, option_map}
use Rattle.office_core.specs.Writing.{bad_at}
use Rattle.office_core.proofs.writing.bad_at.Given as goal

abbrev pub invariant-loop-at : goal.invariant-loop-at
invariant-loop-at l = bad_at l.text ≡ option_map (λ (n : ℕ). n + l.at) (bad_at (drop l.at l.text))
