use Rattle.std.proofs.Common.{◌≡◌, ◌+◌, ◌++◌, drop}
use Rattle.product_decoder.specs.Takings.{breaches_in}
use Rattle.product_decoder.proofs.findings.breaches_in.Given as goal

-- what is left makes the list whole
abbrev pub invariant-loop-place : goal.invariant-loop-place
invariant-loop-place l = l.out ++ breaches_in (l.place + 1) (drop l.place l.taken) ≡ breaches_in 1 l.taken
