-- what is left follows
use Rattle.std.proofs.Common.{◌≡◌, ◌++◌, drop, map}
use Rattle.county_notices.specs.Notices.{segment_of}
use Rattle.county_notices.proofs.notice.segments_of.Given as goal

abbrev pub invariant-loop-segment : goal.invariant-loop-segment
invariant-loop-segment l = map (segment_of l.office l.t) l.segments ≡ l.list ++ map (segment_of l.office l.t) (drop l.segment-index l.segments)
