-- the rows of the lines that are left come into their places as those of all of them do
use Rattle.std.proofs.Common.{◌≡◌, drop}
use Rattle.std.specs.Prelude.{flat_map}
use Rattle.row_index.specs.LineRows.{rows_of_line}
use Rattle.row_index.specs.Steps.{add_each}
use Rattle.row_index.proofs.index.RowIndex.add_run.Given as goal

abbrev pub invariant-loop-verdict : goal.invariant-loop-verdict
invariant-loop-verdict l = add_each (flat_map (rows_of_line l.t l.run.zones) (drop l.verdict-index l.run.verdicts)) l.index ≡ add_each (flat_map (rows_of_line l.t l.run.zones) l.run.verdicts) l.initial.index
