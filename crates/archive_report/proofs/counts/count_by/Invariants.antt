use Rattle.std.proofs.Common.{◌≡◌, ◌≤◌, ◌+◌, drop, length}
use Rattle.std.specs.List.{filter}
use Rattle.product_decoder.specs.FrameLines.{is_pair_by}
use Rattle.archive_report.proofs.counts.count_by.Given as goal

-- those that are left make the count whole
abbrev pub invariant-loop-pair : goal.invariant-loop-pair
invariant-loop-pair l = record {
  whole : l.count + length (filter (is_pair_by l.asked.office l.asked.class) (drop l.pair-index l.pairs)) ≡ length (filter (is_pair_by l.asked.office l.asked.class) l.pairs);
  few : l.count ≤ l.pair-index;
}
