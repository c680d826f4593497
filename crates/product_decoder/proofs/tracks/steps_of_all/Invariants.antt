use Rattle.std.proofs.Common.{◌≡◌, fold, drop}
use Rattle.product_decoder.specs.Steps.{with_product, steps_of_all}
use Rattle.product_decoder.specs.ZoneSteps.{AreAscending, flat}
use Rattle.product_decoder.proofs.tracks.steps_of_all.Given as goal

-- the products that are left add what all of them do
abbrev pub invariant-loop-product : goal.invariant-loop-product
invariant-loop-product l = record {
  put : fold with_product (flat l.steps.entries) (drop l.product-index l.taken) ≡ steps_of_all l.taken;
  ascending : AreAscending l.steps.entries;
}
