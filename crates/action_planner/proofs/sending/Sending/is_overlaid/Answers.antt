-- the rows of its zone decide whether a row is overlaid
use Rattle.std.proofs.Common.{◌∙◌, ◌&&◌, ◌||◌, Bool, List, ap}
use Rattle.std.specs.List.{list_any}
use Rattle.hazard_types.specs.declared.line.Row.{Row}
use Rattle.hazard_board.specs.Board.{slice_of}
use Rattle.action_planner.specs.Lines.{overlays, is_left, is_overlaid}
use Rattle.action_planner.specs.Sending.{Sending, have_finish}
use Rattle.action_planner.proofs.LiveLemmas.{overlaid_live}
use Rattle.action_planner.proofs.SendingLemmas.{overlaid_in_zone}
use Rattle.action_planner.proofs.sending.Sending.is_overlaid.Goals as goal

pub returns : goal.returns
returns c =
    let row = c.args.row.now in
    let t = c.self.inside.minute in
    let ps = c.self.inside.spoken.now in
    let rows = c.self.inside.board.now.rows in
    c.is_overlaid_by.ensures
    ∙ ap (λ (stands : Bool). stands || list_any (overlays t row) c.rows_in-put.result.now) (overlaid_live t ps row rows c.rows_in_zone_with_live-stand.result.now c.rows_in_zone_with_live-stand.ensures.rows)
    ∙ ap (λ (put : List Row). list_any (λ (r : Row). overlays t row r && is_left ps r) (slice_of row.zone rows) || list_any (overlays t row) put) c.rows_in-put.ensures
    ∙ overlaid_in_zone rows t ps row c.self.inside.put.entries (c.self.invariant (ap (λ (x : Sending). have_finish x.intents) c.self.view_is ∙ c.requires))
    ∙ ap (λ (x : Sending). is_overlaid x.rows x.minute x.intents row) c.self.view_is
