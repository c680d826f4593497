-- An event has rows where a first one is found.
use Rattle.std.proofs.Common.{◌∙◌, is_some, ap}
use Rattle.event_life.specs.Products.{has_rows}
use Rattle.hazard_board.specs.Board.{Posted}
use Rattle.hazard_board.proofs.EventRows.{found_has}
use Rattle.hazard_board.proofs.Board.has.Goals as goal

pub returns : goal.returns
returns c =
    c.is_some.ensures
    ∙ ap is_some c.first_row.ensures
    ∙ found_has c.args.e c.self.inside.rows.rows
    ∙ ap (λ (p : Posted). has_rows p.rows c.args.e) c.self.view_is
