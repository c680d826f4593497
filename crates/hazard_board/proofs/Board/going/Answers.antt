-- An event is open exactly where it stands with an end that is at most half an hour past.
use Rattle.std.proofs.Common.{◌∙◌, List, ap, sym}
use Rattle.hazard_board.specs.Board.{Posted}
use Rattle.hazard_board.specs.Standing.{of_hazard, of_number, last_open}
use Rattle.hazard_board.specs.declared.standing.Standing.{Standing}
use Rattle.event_life.specs.Products.{latest_open_event}
use Rattle.hazard_board.proofs.GoingLemmas.{going_is}
use Rattle.hazard_board.proofs.Board.going.Goals as goal

pub returns : goal.returns
returns c =
    c.open_event.ensures
    ∙ ap (λ (standing : List Standing). last_open c.args.t (of_number c.args.etn (of_hazard c.args.h standing))) c.deref.ensures.value
    ∙ sym (going_is c.self.inside.rows.rows c.self.inside.standing.items c.self.invariant.1 c.args.h c.args.etn c.args.t)
    ∙ ap (λ (p : Posted). latest_open_event p.rows c.args.h c.args.etn c.args.t) c.self.view_is
