use Rattle.std.proofs.Common.{◌≡◌, [], drop}
use Rattle.product_frame.specs.Text.{trimmed}
use Rattle.product_frame.proofs.text.trimmed.Given as goal

abbrev pub invariant-loop-last : goal.invariant-loop-last
invariant-loop-last l = trimmed (drop l.last l.line) ≡ []
