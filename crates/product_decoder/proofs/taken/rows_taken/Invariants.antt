use Rattle.std.proofs.Common.{◌≡◌, fold, drop}
use Rattle.product_decoder.specs.Takings.{rows_with_taken, rows_taken}
use Rattle.product_decoder.proofs.taken.rows_taken.Given as goal

-- the products that are left leave what all of them do
abbrev pub invariant-loop-product : goal.invariant-loop-product
invariant-loop-product l = fold rows_with_taken l.rows (drop l.product-index l.taken) ≡ rows_taken l.taken
