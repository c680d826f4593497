use Rattle.std.proofs.Common.{◌≡◌, ◌++◌, drop}
use Rattle.product_frame.specs.Splitting.{headings_in}
use Rattle.product_frame.proofs.split.headings_in.Given as goal

abbrev pub invariant-loop-start : goal.invariant-loop-start
invariant-loop-start l = l.list ++ headings_in l.bytes (drop l.start-index l.places) ≡ headings_in l.bytes l.places
