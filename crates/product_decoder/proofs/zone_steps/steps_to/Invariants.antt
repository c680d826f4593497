use Rattle.std.proofs.Common.{◌≡◌, ◌++◌, Some, reverse}
use Rattle.product_decoder.specs.Chains.{height, told, chains_of}
use Rattle.product_decoder.proofs.zone_steps.steps_to.Given as goal

-- what is left, and then the steps so far from the last to the first, are all
abbrev pub invariant-loop-at : goal.invariant-loop-at
invariant-loop-at l = told (chains_of l.shared) l.at ++ reverse l.steps.items ≡ told (chains_of l.shared) (Some l.last)

abbrev pub decreases-loop-at : goal.decreases-loop-at
decreases-loop-at l = height l.at
