use Rattle.std.proofs.Common.{◌≡◌, ◌≤◌, ◌-◌, ◌++◌, drop, length}
use Rattle.std.specs.List.{All}
use Rattle.product_frame.specs.Text.{starts_from}
use Rattle.product_frame.proofs.text.add_starts.Given as goal

abbrev pub invariant-loop-next : goal.invariant-loop-next
invariant-loop-next l = record {
  inside : l.at ≤ length l.bytes;
  within : All (λ start. start ≤ length l.bytes) l.list;
  whole : l.list ++ starts_from l.at (drop l.at l.bytes) ≡ l.initial.list ++ starts_from 0 l.bytes;
}

abbrev pub decreases-loop-next : goal.decreases-loop-next
decreases-loop-next l = length l.bytes - l.at
