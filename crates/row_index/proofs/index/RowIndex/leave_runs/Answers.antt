-- The rows that the runs leave line by line are those of their lines in the order of the text.
use Rattle.std.proofs.Common.{◌≡◌, List, IfOk, subst}
use Rattle.std.specs.List.Sorted.{IsStrictlySortedBy}
use Rattle.hazard_types.specs.declared.line.Row.{Row}
use Rattle.event_life.specs.Products.{by_key}
use Rattle.row_index.proofs.HeldRows.{told-sorted}
use Rattle.row_index.proofs.Turning.{runs_left}
use Rattle.row_index.proofs.index.RowIndex.leave_runs.Goals as goal

pub returns : goal.returns
returns c =
    let rows = c.args.self in
    let up : IsStrictlySortedBy by_key rows = subst (λ (all : List Row). IsStrictlySortedBy by_key all) c.self.view_is (told-sorted c.self.inside.held.entries) in
    subst (λ (after : List Row). IfOk c.add_runs.result (λ index. index ≡ after)) (runs_left rows c.args.t c.args.runs.now rows up c.requires.found c.requires.apart) c.add_runs.ensures
