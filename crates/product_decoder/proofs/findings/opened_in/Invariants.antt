use Rattle.std.proofs.Common.{◌≡◌, ◌++◌, drop}
use Rattle.product_decoder.specs.Takings.{opened_in}
use Rattle.product_decoder.proofs.findings.opened_in.Given as goal

-- what is left makes the list whole
abbrev pub invariant-loop-product : goal.invariant-loop-product
invariant-loop-product l = l.events ++ opened_in (drop l.product-index l.taken) ≡ opened_in l.taken
