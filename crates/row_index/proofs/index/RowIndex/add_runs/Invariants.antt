-- the rows of the runs that are left come into their places as those of all of them do
use Rattle.std.proofs.Common.{◌≡◌, drop}
use Rattle.row_index.specs.LineRows.{rows_of_runs}
use Rattle.row_index.specs.Steps.{add_each}
use Rattle.row_index.proofs.index.RowIndex.add_runs.Given as goal

abbrev pub invariant-loop-run : goal.invariant-loop-run
invariant-loop-run l = add_each (rows_of_runs l.t (drop l.run-index l.runs)) l.index ≡ add_each (rows_of_runs l.t l.runs) l.initial.index
