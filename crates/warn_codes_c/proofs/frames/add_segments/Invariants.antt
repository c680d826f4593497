use Rattle.std.proofs.Common.{◌≡◌, ◌++◌, map, drop}
use Rattle.warn_codes_c.specs.Frames.{segment_fields}
use Rattle.warn_codes_c.proofs.frames.add_segments.Given as goal

-- what is left makes the list whole
abbrev pub invariant-loop-segment : goal.invariant-loop-segment
invariant-loop-segment l = l.rows ++ map segment_fields (drop l.segment-index l.segments) ≡ l.initial.rows ++ map segment_fields l.segments
