-- The rows that no line has ended tell whether the event is open.
use Rattle.std.proofs.Common.{◌∙◌, List, ap}
use Rattle.std.specs.List.{list_any}
use Rattle.std.specs.Map.{values_of}
use Rattle.hazard_types.specs.declared.line.Row.{Row}
use Rattle.event_life.specs.Periods.{keeps_open}
use Rattle.row_index.proofs.Stood.{open-told}
use Rattle.row_index.proofs.held.EventRows.is_open.Goals as goal

pub returns-clause-open : goal.returns-clause-open
returns-clause-open c =
    c.is_open_among.ensures
    ∙ open-told (values_of c.self.inside.rows) c.self.inside.standing.entries c.args.t c.self.invariant.standing
    ∙ ap (λ (rows : List Row). list_any (keeps_open c.args.t) rows) c.self.view_is
