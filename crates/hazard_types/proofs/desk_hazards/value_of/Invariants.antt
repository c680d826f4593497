use Rattle.std.proofs.Common.{◌≡◌, drop}
use Rattle.hazard_types.specs.Known.{known_for}
use Rattle.hazard_types.proofs.desk_hazards.value_of.Given as goal

-- the rows that are left decide as the whole table does
abbrev pub invariant-loop-row : goal.invariant-loop-row
invariant-loop-row g l = known_for l.rows l.h ≡ known_for (drop l.row-index l.rows) l.h
