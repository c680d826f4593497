-- the rows so far, with those of the zones that are left, are those of all
use Rattle.std.proofs.Common.{◌≡◌, ◌++◌, drop}
use Rattle.std.specs.Map.{values_of}
use Rattle.row_index.specs.Sharing.{lives_told, rows_with}
use Rattle.row_index.proofs.lives.rows_at.Given as goal

abbrev pub invariant-loop-seat : goal.invariant-loop-seat
invariant-loop-seat l = l.rows.items ++ values_of (rows_with l.event (lives_told l.lives (drop l.seat-index l.seats))) ≡ values_of (rows_with l.event (lives_told l.lives l.seats))
