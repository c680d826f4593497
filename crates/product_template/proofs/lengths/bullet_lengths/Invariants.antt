use Rattle.std.proofs.Common.{◌≡◌, ◌++◌, drop, map}
use Rattle.product_template.specs.Lengths.{bullet_length_of}
use Rattle.product_template.proofs.lengths.bullet_lengths.Given as goal

-- what is left follows
abbrev pub invariant-loop-entry : goal.invariant-loop-entry
invariant-loop-entry l = map bullet_length_of l.texts ≡ l.told ++ map bullet_length_of (drop l.entry-index l.texts)
