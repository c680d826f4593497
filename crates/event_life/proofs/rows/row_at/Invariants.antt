use Rattle.std.proofs.Common.{◌≡◌, drop}
use Rattle.event_life.specs.Products.{row_at}
use Rattle.event_life.proofs.rows.row_at.Given as goal

-- the rows that are left decide as all of them do
abbrev pub invariant-loop-row : goal.invariant-loop-row
invariant-loop-row l = row_at (drop l.row-index l.rows) l.event l.zone ≡ row_at l.rows l.event l.zone
