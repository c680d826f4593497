-- The events of a number tell which open one is of the latest year.
use Rattle.std.proofs.Common.{◌∙◌, List, ap, sym}
use Rattle.hazard_types.specs.declared.hazard.Event.{Event}
use Rattle.hazard_types.specs.declared.line.Row.{Row}
use Rattle.event_life.specs.Products.{latest_open_event}
use Rattle.row_index.specs.Listing.{lists_of, list_at}
use Rattle.row_index.specs.Numbers.{by_number}
use Rattle.row_index.specs.Steps.{latest_open}
use Rattle.row_index.proofs.Opened.{going-told}
use Rattle.row_index.proofs.index.RowIndex.latest_open_event.Goals as goal

pub returns : goal.returns
returns c =
    let t = c.args.t in
    let number = c.args.number.now in
    c.latest_open.ensures
    ∙ ap (λ (events : List Event). latest_open c.args.self.now t events) c.events_at.ensures
    ∙ ap (λ (rows : List Row). latest_open rows t (list_at by_number (lists_of c.self.inside.events.entries) number)) (sym c.self.view_is)
    ∙ going-told (lists_of c.self.inside.events.entries) _ t number c.self.invariant.opened
    ∙ ap (λ (rows : List Row). latest_open_event rows number.hazard number.etn t) c.self.view_is
