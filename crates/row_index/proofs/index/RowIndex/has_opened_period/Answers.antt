-- The event's rows that no line has ended tell whether one has the period.
use Rattle.std.proofs.Common.{◌∙◌, ◌&&◌, List, ap}
use Rattle.std.specs.List.{list_any}
use Rattle.hazard_types.specs.Orders.{by_event}
use Rattle.hazard_types.specs.declared.line.Row.{Row}
use Rattle.hazard_types.specs.declared.period.Period.{Period}
use Rattle.event_life.specs.Periods.{is_live, same_at}
use Rattle.event_life.specs.Products.{has_opened_period}
use Rattle.row_index.specs.Listing.{list_at}
use Rattle.row_index.proofs.EventRows.{same-held}
use Rattle.row_index.proofs.index.RowIndex.has_opened_period.Goals as goal

pub returns : goal.returns
returns c =
    let t = c.args.t in
    let rows = list_at by_event c.self.inside.held.entries c.args.line.now.event in
    c.has_period.ensures.same
    ∙ ap (λ (p : Period). list_any (λ (r : Row). is_live t r && same_at t r.period p) rows) c.opened_period.ensures
    ∙ same-held c.self.inside.held.entries t c.args.line.now c.self.invariant.held c.has_period.ensures.order
    ∙ ap (λ (all : List Row). has_opened_period all t c.args.line.now) c.self.view_is
