use Rattle.std.proofs.Common.{◌≡◌, drop}
use Rattle.product_frame.specs.Frames.{first_nonempty_index}
use Rattle.product_frame.proofs.read.first_nonempty_index.Given as goal

abbrev pub invariant-loop-k : goal.invariant-loop-k
invariant-loop-k l = first_nonempty_index l.bytes l.k (drop l.k l.places) ≡ first_nonempty_index l.bytes 0 l.places
