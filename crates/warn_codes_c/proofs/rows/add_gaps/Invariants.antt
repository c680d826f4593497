use Rattle.std.proofs.Common.{◌≡◌, ◌++◌, map, drop}
use Rattle.warn_codes_c.specs.Rows.{gap_row}
use Rattle.warn_codes_c.proofs.rows.add_gaps.Given as goal

-- what is left makes the list whole
abbrev pub invariant-loop-gap : goal.invariant-loop-gap
invariant-loop-gap l = l.rows ++ map gap_row (drop l.gap-index l.gaps) ≡ l.initial.rows ++ map gap_row l.gaps
