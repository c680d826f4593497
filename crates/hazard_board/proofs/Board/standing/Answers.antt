-- Those of one hazard among all that stand.
use Rattle.std.proofs.Common.{◌∙◌, List, ap}
use Rattle.hazard_board.specs.Standing.{of_hazard}
use Rattle.hazard_board.specs.declared.standing.Standing.{Standing}
use Rattle.hazard_board.proofs.GoingLemmas.{standing_of}
use Rattle.hazard_board.proofs.Board.standing.Goals as goal

pub returns : goal.returns
returns c =
    let events = c.of_hazard.ensures.events ∙ ap (λ (standing : List Standing). of_hazard c.args.h standing) c.deref.ensures.value in
    rw (events, ← c.self.view_is) (standing_of c.self.inside.rows.rows c.self.inside.standing.items c.self.invariant.1 c.args.h)
