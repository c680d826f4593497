-- The rows of all events that are shown, each at its seat, are those of all rows.
use Rattle.std.proofs.Common.{◌∙◌, [], List, ap}
use Rattle.std.specs.List.{filter}
use Rattle.hazard_types.specs.declared.line.Row.{Row}
use Rattle.event_life.specs.Periods.{is_live}
use Rattle.row_index.specs.Holding.{puts}
use Rattle.row_index.proofs.Shown.{shown-told}
use Rattle.row_index.proofs.index.RowIndex.shown.Goals as goal

pub returns : goal.returns
returns c =
    c.from_vec.ensures ∙ c.in_ok-rows-2.ensures ∙ c.in_ok-seated.ensures ∙ ap (λ (rows : List Row). puts rows []) (c.deref.ensures.value ∙ c.in_ok-rows.ensures)
    ∙ shown-told (is_live c.args.t) c.self.inside.held.entries c.self.invariant.held ∙ ap (filter (is_live c.args.t)) c.self.view_is
