use Rattle.std.proofs.Common.{◌≡◌, ◌++◌, flat_map, drop}
use Rattle.warn_codes_c.specs.Frames.{zones_in}
use Rattle.warn_codes_c.proofs.frames.add_all_zones.Given as goal

-- what is left makes the list whole
abbrev pub invariant-loop-segment : goal.invariant-loop-segment
invariant-loop-segment l = l.rows ++ flat_map zones_in (drop l.segment-index l.segments) ≡ l.initial.rows ++ flat_map zones_in l.segments
