use Rattle.std.proofs.Common.{◌≡◌, ◌++◌, drop}
use Rattle.event_life.specs.Products.{lawful_of}
use Rattle.product_decoder.proofs.openings.lawful_in.Given as goal

-- what is left makes the list whole
abbrev pub invariant-loop-found : goal.invariant-loop-found
invariant-loop-found l = l.out ++ lawful_of (drop l.found-index l.judged) ≡ lawful_of l.judged
