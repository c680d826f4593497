-- The rows of the zone that are live are among them.
use Rattle.std.proofs.Common.{◌∙◌, ap}
use Rattle.hazard_board.specs.Board.{Posted, live_in}
use Rattle.hazard_board.proofs.Places.{live_in_zone}
use Rattle.hazard_board.proofs.Board.rows_in_zone_with_live.Goals as goal

pub returns-clause-rows : goal.returns-clause-rows
returns-clause-rows c =
    c.rows_in_zone_with_live.ensures.alike
    ∙ live_in_zone c.args.z c.args.t c.self.inside.rows.rows
    ∙ ap (λ (p : Posted). live_in c.args.z c.args.t p.rows) c.self.view_is
