use Rattle.std.proofs.Common.{◌≡◌, ◌≤◌, ◌-◌, ◌++◌, drop, length}
use Rattle.product_frame.specs.Text.{starts_from}
use Rattle.product_frame.specs.Frames.{first_heading}
use Rattle.product_frame.proofs.read.list_lines.Given as goal

-- what is left decides as the whole does
abbrev pub invariant-loop-next : goal.invariant-loop-next
invariant-loop-next l = record {
  inside : l.at ≤ length l.rest;
  listed : l.places.items ++ starts_from l.at (drop l.at l.rest) ≡ starts_from 0 l.rest;
  whole : first_heading l.rest (starts_from l.at (drop l.at l.rest)) ≡ first_heading l.rest (starts_from 0 l.rest);
}

abbrev pub decreases-loop-next : goal.decreases-loop-next
decreases-loop-next l = length l.rest - l.at
