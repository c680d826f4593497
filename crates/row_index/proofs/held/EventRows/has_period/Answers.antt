-- The rows that no line has ended tell whether one is live and has the period.
use Rattle.std.proofs.Common.{◌∙◌, ◌&&◌, List, ap}
use Rattle.std.specs.List.{list_any}
use Rattle.std.specs.Map.{values_of}
use Rattle.hazard_types.specs.declared.line.Row.{Row}
use Rattle.event_life.specs.Periods.{is_live, same_at}
use Rattle.row_index.proofs.Stood.{period-told}
use Rattle.row_index.proofs.held.EventRows.has_period.Goals as goal

pub returns-clause-same : goal.returns-clause-same
returns-clause-same c =
    c.has_same_among.ensures
    ∙ period-told (values_of c.self.inside.rows) c.self.inside.standing.entries c.args.t c.args.period.now c.self.invariant.standing
    ∙ ap (λ (rows : List Row). list_any (λ (r : Row). is_live c.args.t r && same_at c.args.t r.period c.args.period.now) rows) c.self.view_is
