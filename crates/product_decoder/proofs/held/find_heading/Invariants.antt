-- the whole lines so far have no heading line, and the line at hand no end
use Rattle.std.proofs.Common.{◌≤◌, ◌-◌, length}
use Rattle.product_decoder.proofs.Holding.{Scanned}
use Rattle.product_decoder.proofs.held.find_heading.Given as goal

abbrev pub invariant-loop-end : goal.invariant-loop-end
invariant-loop-end l = record {
  inside : l.at ≤ length l.bytes;
  scanned : Scanned l.bytes l.from l.start l.at;
}

abbrev pub decreases-loop-end : goal.decreases-loop-end
decreases-loop-end l = length l.bytes - l.at
