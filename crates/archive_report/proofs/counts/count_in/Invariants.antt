use Rattle.std.proofs.Common.{◌≡◌, ◌+◌, drop}
use Rattle.archive_report.specs.Readings.{count_in}
use Rattle.archive_report.proofs.counts.count_in.Given as goal

-- the segments that are left make the count whole
abbrev pub invariant-loop-segment : goal.invariant-loop-segment
invariant-loop-segment l = l.count + count_in l.asked (drop l.segment-index l.segments) ≡ count_in l.asked l.segments
