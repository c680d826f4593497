use Rattle.std.proofs.Common.{◌≡◌, drop}
use Rattle.hazard_types.specs.Codes.{code_for_value}
use Rattle.hazard_types.proofs.table.code_of.Given as goal

-- the rows that are left decide as the whole table does
abbrev pub invariant-loop-row : goal.invariant-loop-row
invariant-loop-row g l = code_for_value g.T.PartialEq.eq l.rows l.value ≡ code_for_value g.T.PartialEq.eq (drop l.row-index l.rows) l.value
