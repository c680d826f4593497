-- What stood at the last minute stands now.
use Rattle.std.proofs.Common.{ap}
use Rattle.action_planner.specs.Lines.{planned_lines}
use Rattle.action_planner.specs.Placed.{placed}
use Rattle.action_planner.specs.Standing.{Stands}
use Rattle.worked_rows.specs.Days.{Standing}
use Rattle.worked_rows.proofs.DayLemmas.{may_plan}
use Rattle.worked_rows.proofs.SegmentLemmas.{can_be_written}
use Rattle.worked_rows.proofs.board.days.Day.plan.Goals as goal

pub plan-requires : goal.plan-requires
plan-requires c =
    let stands : Stands c.self.inside.board.rows c.self.inside.numbers.counts c.args.t =
    c.standing_conditions_persist.ensures c.self.inside.board.rows c.self.inside.numbers.counts c.self.inside.last c.args.t (rw (ap (λ (d : Standing). d.last) c.self.view_is) c.requires.later) c.self.invariant.0 in
    may_plan c.self.inside.board.rows c.self.inside.numbers.counts c.args.draft.now.category c.args.draft.now.intents _ c.args.t c.requires stands

pub returns-clause-written : goal.returns-clause-written
returns-clause-written c =
    let stands : Stands c.self.inside.board.rows c.self.inside.numbers.counts c.args.t =
    c.standing_conditions_persist.ensures c.self.inside.board.rows c.self.inside.numbers.counts c.self.inside.last c.args.t (rw (ap (λ (d : Standing). d.last) c.self.view_is) c.requires.later) c.self.invariant.0 in
    can_be_written (planned_lines c.args.draft.now.category c.self.inside.board.rows c.args.t (placed c.self.inside.numbers.counts c.args.t c.args.draft.now.intents))
    c.in_ok-plan.plan.segments c.in_ok-plan.ensures.plan.segments
    (c.lines_have_four_digits.ensures.planned c.args.draft.now.category c.self.inside.board.rows c.self.inside.numbers.counts c.args.draft.now.intents c.args.t
    (may_plan c.self.inside.board.rows c.self.inside.numbers.counts c.args.draft.now.category c.args.draft.now.intents _ c.args.t c.requires stands) stands.digits c.in_ok-plan.ensures.kept)
