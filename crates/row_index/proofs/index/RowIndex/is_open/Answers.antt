-- The event's rows tell whether it is open.
use Rattle.std.proofs.Common.{◌∙◌, List, ap}
use Rattle.hazard_types.specs.declared.line.Row.{Row}
use Rattle.event_life.specs.Products.{is_open}
use Rattle.row_index.proofs.EventRows.{open-held}
use Rattle.row_index.proofs.index.RowIndex.is_open.Goals as goal

pub returns : goal.returns
returns c =
    c.is_open.ensures.open
    ∙ open-held c.self.inside.held.entries c.args.t c.args.event.now c.self.invariant.held c.is_open.ensures.order
    ∙ ap (λ (rows : List Row). is_open rows c.args.t c.args.event.now) c.self.view_is
