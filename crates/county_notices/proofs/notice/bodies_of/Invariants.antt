-- what is left follows
use Rattle.std.proofs.Common.{◌≡◌, ◌++◌, drop, map}
use Rattle.county_notices.specs.Notices.{body_of}
use Rattle.county_notices.proofs.notice.bodies_of.Given as goal

abbrev pub invariant-loop-segment : goal.invariant-loop-segment
invariant-loop-segment l = map (body_of l.watch) l.segments ≡ l.bodies ++ map (body_of l.watch) (drop l.segment-index l.segments)
