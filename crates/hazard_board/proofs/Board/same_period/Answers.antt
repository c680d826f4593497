-- The counts tell of the rows that no line has ended.
use Rattle.std.proofs.Common.{◌∙◌, List, ap}
use Rattle.hazard_board.specs.Board.{Posted, has_period}
use Rattle.hazard_board.specs.Periods.{same_in}
use Rattle.hazard_board.specs.declared.periods.PeriodCount.{PeriodCount}
use Rattle.hazard_board.proofs.PeriodLemmas.{period_is}
use Rattle.hazard_board.proofs.Board.same_period.Goals as goal

pub returns : goal.returns
returns c =
    c.has_period.ensures
    ∙ ap (λ (xs : List PeriodCount). same_in xs c.args.e c.args.p c.args.t) c.deref.ensures.value
    ∙ period_is c.self.inside.rows.rows c.self.inside.periods.items c.self.invariant.3 c.args.e c.args.p c.args.t
    ∙ ap (λ (posted : Posted). has_period posted.rows c.args.e c.args.p c.args.t) c.self.view_is
