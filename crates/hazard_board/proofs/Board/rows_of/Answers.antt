-- The rows of one zone that are live, which stand by event.
use Rattle.std.proofs.Common.{◌≡◌, ◌∙◌, ap}
use Rattle.event_life.specs.Periods.{is_live}
use Rattle.hazard_board.specs.Board.{Posted, live_in}
use Rattle.hazard_board.proofs.ZoneLemmas.{zone_by_event}
use Rattle.hazard_board.proofs.Places.{live_in_zone}
use Rattle.hazard_board.proofs.Board.rows_of.Goals as goal
use Rattle.hazard_board.proofs.Board.rows_of.Goals.{After-from_vec}

kept : (c : After-from_vec) → c.from_vec.result ≡ live_in c.args.z c.args.t c.self.inside.rows.rows
kept c =
    c.from_vec.ensures ∙ c.in_ok-live.ensures
    ∙ c.rows_in_zone_with_live.ensures.alike
    ∙ live_in_zone c.args.z c.args.t c.self.inside.rows.rows

pub returns-clause-rows : goal.returns-clause-rows
returns-clause-rows c = kept c ∙ ap (λ (p : Posted). live_in c.args.z c.args.t p.rows) c.self.view_is

pub returns-clause-order : goal.returns-clause-order
returns-clause-order c = rw (kept c) (zone_by_event c.args.z (is_live c.args.t) c.self.inside.rows.rows c.self.invariant.0)
