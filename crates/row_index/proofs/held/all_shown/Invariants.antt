-- the rows so far, with those of the events that are left, are those of all
use Rattle.std.proofs.Common.{◌≡◌, ◌++◌}
use Rattle.std.specs.Prelude.{flat_map}
use Rattle.std.specs.Map.{values_of}
use Rattle.event_life.specs.Shown.{shown_at}
use Rattle.row_index.proofs.held.all_shown.Given as goal

abbrev pub invariant-loop-rows : goal.invariant-loop-rows
invariant-loop-rows l = l.all.items ++ flat_map (shown_at l.t) l.rows-iterator ≡ flat_map (shown_at l.t) (values_of l.held.entries)
