use Rattle.std.proofs.Common.{◌≡◌, drop}
use Rattle.hazard_types.specs.Codes.{value_for_code}
use Rattle.hazard_types.proofs.table.find.Given as goal

-- the rows that are left decide as the whole table does
abbrev pub invariant-loop-row : goal.invariant-loop-row
invariant-loop-row g l = value_for_code l.rows l.code ≡ value_for_code (drop l.row-index l.rows) l.code
