use Rattle.std.proofs.Common.{◌≡◌, drop}
use Rattle.product_template.specs.Bodies.{texts_on}
use Rattle.product_template.proofs.bullets.texts_on.Given as goal

-- what is left decides as the whole does
abbrev pub invariant-loop-entry : goal.invariant-loop-entry
invariant-loop-entry l = texts_on l.texts l.fn.event ≡ texts_on (drop l.entry-index l.texts) l.fn.event
