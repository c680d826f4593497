use Rattle.std.proofs.Common.{◌≡◌, drop}
use Rattle.product_template.specs.Lengths.{bullet_length_on}
use Rattle.product_template.proofs.lengths.bullet_length_on.Given as goal

-- what is left decides as the whole does
abbrev pub invariant-loop-entry : goal.invariant-loop-entry
invariant-loop-entry l = bullet_length_on l.told l.fn.event ≡ bullet_length_on (drop l.entry-index l.told) l.fn.event
