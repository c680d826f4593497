use Rattle.std.proofs.Common.{◌≡◌, ◌++◌, map, drop}
use Rattle.warn_codes_c.specs.Rows.{live_row}
use Rattle.warn_codes_c.proofs.rows.add_live_rows.Given as goal

-- what is left makes the list whole
abbrev pub invariant-loop-row : goal.invariant-loop-row
invariant-loop-row l = l.rows ++ map live_row (drop l.row-index l.shown) ≡ l.initial.rows ++ map live_row l.shown
