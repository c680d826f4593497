use Rattle.std.proofs.Common.{◌≡◌, ◌++◌, drop}
use Rattle.product_frame.specs.Splitting.{spans_to}
use Rattle.product_frame.proofs.split.spans_to.Given as goal

abbrev pub invariant-loop-k : goal.invariant-loop-k
invariant-loop-k l = l.list ++ spans_to l.end (drop l.k l.places) ≡ spans_to l.end l.places
