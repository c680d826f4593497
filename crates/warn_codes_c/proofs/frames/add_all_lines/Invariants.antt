use Rattle.std.proofs.Common.{◌≡◌, ◌++◌, flat_map, drop}
use Rattle.warn_codes_c.specs.Frames.{lines_in}
use Rattle.warn_codes_c.proofs.frames.add_all_lines.Given as goal

-- what is left makes the list whole
abbrev pub invariant-loop-segment : goal.invariant-loop-segment
invariant-loop-segment l = l.rows ++ flat_map lines_in (drop l.segment-index l.segments) ≡ l.initial.rows ++ flat_map lines_in l.segments
