use Rattle.std.proofs.Common.{◌≡◌, ◌++◌, map, drop}
use Rattle.warn_codes_c.specs.Frames.{line_fields}
use Rattle.warn_codes_c.proofs.frames.add_lines.Given as goal

-- what is left makes the list whole
abbrev pub invariant-loop-pair : goal.invariant-loop-pair
invariant-loop-pair l = l.rows ++ map line_fields (drop l.pair-index l.pairs) ≡ l.initial.rows ++ map line_fields l.pairs
