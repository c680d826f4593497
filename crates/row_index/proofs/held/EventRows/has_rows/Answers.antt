-- All rows are of one event, so the first tells it.
use Rattle.std.proofs.Common.{◌∙◌, List, ap}
use Rattle.hazard_types.specs.declared.line.Row.{Row}
use Rattle.event_life.specs.Products.{has_rows}
use Rattle.row_index.proofs.EventRows.{first-tells}
use Rattle.row_index.proofs.held.EventRows.has_rows.Goals as goal

pub returns : goal.returns
returns c =
    c.is_of.ensures
    ∙ first-tells c.args.event.now c.self.inside.rows c.self.invariant.of_first
    ∙ ap (λ (rows : List Row). has_rows rows c.args.event.now) c.self.view_is
