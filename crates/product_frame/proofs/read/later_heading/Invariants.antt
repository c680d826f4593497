use Rattle.std.proofs.Common.{◌≡◌, ◌≤◌, ◌-◌, drop, length}
use Rattle.product_frame.specs.Text.{starts_from}
use Rattle.product_frame.specs.Frames.{first_heading}
use Rattle.product_frame.proofs.read.later_heading.Given as goal

-- what is left decides as the whole does
abbrev pub invariant-loop-next : goal.invariant-loop-next
invariant-loop-next l = record {
  inside : l.at ≤ length l.bytes;
  whole : first_heading l.bytes (starts_from l.at (drop l.at l.bytes)) ≡ first_heading l.bytes (starts_from 0 l.bytes);
}

abbrev pub decreases-loop-next : goal.decreases-loop-next
decreases-loop-next l = length l.bytes - l.at
