use Rattle.std.proofs.Common.{◌≡◌, ◌++◌, drop, map}
use Rattle.product_template.specs.Text.{segment_of}
use Rattle.product_template.proofs.frame.segments_of.Given as goal

-- what is left follows
abbrev pub invariant-loop-segment : goal.invariant-loop-segment
invariant-loop-segment l =
    map (segment_of l.class l.office l.t) l.segments ≡ l.list ++ map (segment_of l.class l.office l.t) (drop l.segment-index l.segments)
