-- The event's rows are those that the map has of it.
use Rattle.std.proofs.Common.{List, subst}
use Rattle.hazard_types.specs.declared.line.Row.{Row}
use Rattle.row_index.specs.Holding.{AreRowsOf}
use Rattle.row_index.proofs.HeldRows.{held-part}
use Rattle.row_index.proofs.index.RowIndex.rows_of.Goals as goal

pub returns : goal.returns
returns c =
    let event = c.args.event.now in
    let part = c.rows_of.result in
    subst (λ (rows : List Row). AreRowsOf rows event part) c.self.view_is
    (held-part c.self.inside.held.entries event part c.self.invariant.held c.rows_of.ensures.rows c.rows_of.ensures.order)
