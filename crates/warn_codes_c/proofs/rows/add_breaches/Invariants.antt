use Rattle.std.proofs.Common.{◌≡◌, ◌++◌, map, drop}
use Rattle.warn_codes_c.specs.Rows.{breach_row}
use Rattle.warn_codes_c.proofs.rows.add_breaches.Given as goal

-- what is left makes the list whole
abbrev pub invariant-loop-found : goal.invariant-loop-found
invariant-loop-found l = l.rows ++ map (breach_row l.numbers) (drop l.found-index l.breaches) ≡ l.initial.rows ++ map (breach_row l.numbers) l.breaches
