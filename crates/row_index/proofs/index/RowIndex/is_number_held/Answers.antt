-- The events of a number tell whether one of an earlier year is open.
use Rattle.std.proofs.Common.{◌∙◌, ◌&&◌, List, ap, sym}
use Rattle.std.specs.Prelude.{nat_lt}
use Rattle.std.specs.List.{list_any}
use Rattle.hazard_types.specs.declared.hazard.Event.{Event}
use Rattle.hazard_types.specs.declared.line.Row.{Row}
use Rattle.event_life.specs.Products.{is_open, is_number_held}
use Rattle.row_index.specs.Listing.{lists_of, list_at}
use Rattle.row_index.specs.Numbers.{number_of, by_number}
use Rattle.row_index.specs.declared.numbers.Number.{Number}
use Rattle.row_index.proofs.Opened.{is_number_held-told}
use Rattle.row_index.proofs.index.RowIndex.is_number_held.Goals as goal

pub returns : goal.returns
returns c =
    let t = c.args.t in
    let event = c.args.event.now in
    c.any_held.ensures
    ∙ ap (λ (events : List Event). list_any (λ (d : Event). nat_lt d.year event.year && is_open c.args.self.now t d) events) (c.events_at.ensures ∙ ap (λ (k : Number). list_at by_number (lists_of c.self.inside.events.entries) k) c.number_of.ensures)
    ∙ ap (λ (rows : List Row). list_any (λ (d : Event). nat_lt d.year event.year && is_open rows t d) (list_at by_number (lists_of c.self.inside.events.entries) (number_of event))) (sym c.self.view_is)
    ∙ is_number_held-told (lists_of c.self.inside.events.entries) _ t event c.self.invariant.opened
    ∙ ap (λ (rows : List Row). is_number_held rows t event) c.self.view_is
