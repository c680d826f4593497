-- The rows that the lines of runs leave, line by line.
use Rattle.std.specs.Prelude.{ℕ, List, [], flat_map, if◌then◌else◌}
use Rattle.hazard_types.specs.Places.{Place}
use Rattle.hazard_types.specs.declared.line.Row.{Row}
use Rattle.row_index.specs.declared.verdicts.Run.{Run}
use Rattle.row_index.specs.declared.verdicts.Verdict.{Verdict}
use Rattle.row_index.specs.Runs.{rows_along}
use Rattle.row_index.specs.Verdicts.{leaves_row, left_by}

-- the rows that a line leaves in these zones, where it is lawful
abbrev pub rows_of_line : ℕ → List Place → Verdict → List Row
rows_of_line t zones v = if leaves_row v then rows_along v.line.event (left_by t v) zones else []

-- those of the lines of a run, and of all runs
abbrev pub rows_of_run : ℕ → Run → List Row
rows_of_run t r = flat_map (rows_of_line t r.zones) r.verdicts

abbrev pub rows_of_runs : ℕ → List Run → List Row
rows_of_runs t runs = flat_map (rows_of_run t) runs
