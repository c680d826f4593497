use Rattle.std.proofs.Common.{◌≡◌, ◌≤◌, ◌+◌, drop}
use Rattle.product_frame.specs.Text.{line_end_count}
use Rattle.product_frame.proofs.text.line_end_count.Given as goal

abbrev pub invariant-loop-c : goal.invariant-loop-c
invariant-loop-c l = record {
  few : l.count ≤ l.c-index;
  whole : l.count + line_end_count (drop l.c-index l.bytes) ≡ line_end_count l.bytes;
}
