-- The row is told by its event, its zone and its life.
use Rattle.std.proofs.Common.{◌∙◌, Option, Some, ap}
use Rattle.std.specs.Prelude.{option_map}
use Rattle.hazard_types.specs.declared.line.Row.{Row}
use Rattle.event_life.specs.declared.life.Life.{Life}
use Rattle.row_index.specs.Sharing.{row_with}
use Rattle.row_index.proofs.SharedRows.{row-again}
use Rattle.row_index.proofs.held.RowsOf.row_at.Goals as goal

pub returns-in-Some : goal.returns-in-Some
returns-in-Some c =
    ap (λ (r : Row). Some r) c.row_with.ensures
    ∙ ap (λ (o : Option Life). option_map (row_with c.args.event.now c.args.zone.now) o) c.in-Some.ensures
    ∙ row-again c.args.event.now c.args.zone.now c.args.self.now
