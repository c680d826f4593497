-- What stood at the last minute stands now, and after the draft.
use Rattle.std.proofs.Common.{◌≡◌, ◌∙◌, ◌+◌, List, count_by, ap, sym, subst}
use Rattle.std.specs.List.{AllPairs}
use Rattle.std.specs.List.Sorted.{IsStrictlySortedBy}
use Rattle.hazard_types.specs.declared.hazard.Event.{Event}
use Rattle.hazard_types.specs.declared.line.Line.{Line}
use Rattle.hazard_types.specs.declared.line.Row.{Row}
use Rattle.office_types.specs.declared.request.Sent.{Sent}
use Rattle.event_life.specs.Openings.{is_numbered}
use Rattle.event_life.specs.Products.{by_key, rows_after}
use Rattle.event_numbers.specs.declared.Count.{Count}
use Rattle.event_numbers.specs.Counts.{count_of, DrawsAll}
use Rattle.segmenter.specs.Said.{IsApart}
use Rattle.action_planner.specs.Conditions.{CanPlan}
use Rattle.action_planner.specs.Lines.{planned_lines}
use Rattle.action_planner.specs.Placed.{placed, opened}
use Rattle.action_planner.specs.Standing.{Stands}
use Rattle.worked_rows.specs.Days.{Standing}
use Rattle.worked_rows.proofs.DayLemmas.{may_plan, one_more}
use Rattle.worked_rows.proofs.SegmentLemmas.{can_be_written}
use Rattle.worked_rows.proofs.board.days.Day.send.Goals as goal

pub plan-requires : goal.plan-requires
plan-requires c =
    let stands : Stands c.self.inside.board.rows c.self.inside.numbers.counts c.args.t =
    c.standing_conditions_persist.ensures c.self.inside.board.rows c.self.inside.numbers.counts c.self.inside.last c.args.t (rw (ap (λ (d : Standing). d.last) c.self.view_is) c.requires.later) c.self.invariant.0 in
    may_plan c.self.inside.board.rows c.self.inside.numbers.counts c.args.draft.now.category c.args.draft.now.intents _ c.args.t c.requires stands

pub returns-clause-written : goal.returns-clause-written
returns-clause-written c =
    let rows = c.self.inside.board.rows in
    let counts = c.self.inside.numbers.counts in
    let stands : Stands c.self.inside.board.rows c.self.inside.numbers.counts c.args.t =
    c.standing_conditions_persist.ensures c.self.inside.board.rows c.self.inside.numbers.counts c.self.inside.last c.args.t (rw (ap (λ (d : Standing). d.last) c.self.view_is) c.requires.later) c.self.invariant.0 in
    let can : CanPlan rows counts c.args.draft.now.category c.args.draft.now.intents c.args.t = may_plan rows counts c.args.draft.now.category c.args.draft.now.intents _ c.args.t c.requires stands in
    let lines = planned_lines c.args.draft.now.category rows c.args.t (placed counts c.args.t c.args.draft.now.intents) in
    can_be_written lines c.in_ok-plan.plan.segments c.in_ok-plan.ensures.plan.segments
    (c.lines_have_four_digits.ensures.planned c.args.draft.now.category rows counts c.args.draft.now.intents c.args.t can stands.digits c.in_ok-plan.ensures.kept)

pub invariant_of-self-2 : goal.invariant_of-self-2
invariant_of-self-2 c =
    let rows = c.self.inside.board.rows in
    let counts = c.self.inside.numbers.counts in
    let ps = placed counts c.args.t c.args.draft.now.intents in
    let lines = planned_lines c.args.draft.now.category rows c.args.t ps in
    let stands : Stands c.self.inside.board.rows c.self.inside.numbers.counts c.args.t =
    c.standing_conditions_persist.ensures c.self.inside.board.rows c.self.inside.numbers.counts c.self.inside.last c.args.t (rw (ap (λ (d : Standing). d.last) c.self.view_is) c.requires.later) c.self.invariant.0 in
    let can : CanPlan rows counts c.args.draft.now.category c.args.draft.now.intents c.args.t = may_plan rows counts c.args.draft.now.category c.args.draft.now.intents _ c.args.t c.requires stands in
    let opens : c.as_slice-2.result.now ≡ opened ps = c.as_slice-2.ensures ∙ c.in_ok-plan.ensures.plan.opened in
    let drawn : DrawsAll counts c.draw.new.self.counts (opened ps) = λ h year.
    c.draw.ensures.drawn h year
    ∙ ap (λ (old : List Count). count_of old h year + count_by (is_numbered h year) c.as_slice-2.result.now) c.reserve-2.ensures.counts
    ∙ ap (λ (events : List Event). count_of counts h year + count_by (is_numbered h year) events) opens in
    let kept = c.plans_keep_what_stands.ensures c.args.draft.now.category rows counts c.draw.new.self.counts c.args.draft.now.intents c.args.t can stands c.self.invariant.1 c.in_ok-plan.ensures.kept drawn in
    let after : c.apply.new.self.rows ≡ rows_after rows c.args.t lines =
    c.apply.ensures.rows ∙ ap (λ (old : List Row). rows_after old c.args.t c.in_ok-plan.plan.lines) c.reserve.ensures.rows ∙ ap (rows_after rows c.args.t) c.in_ok-plan.ensures.plan.lines in
    let apart : AllPairs IsApart c.in_ok-sent.sent.lines = subst (λ (ls : List Line). AllPairs IsApart ls) (sym (ap (λ (s : Sent). s.lines) c.in_ok-sent.ensures ∙ c.in_ok-plan.ensures.plan.lines)) (c.planned_lines_are_distinct.ensures c.args.draft.now.category rows counts c.args.draft.now.intents c.args.t can c.self.invariant.1 c.in_ok-plan.ensures.kept) in (
      subst (λ (rs : List Row). Stands rs c.draw.new.self.counts c.args.t) (sym after) kept,
      subst (λ (rs : List Row). IsStrictlySortedBy by_key rs) (sym after) (c.rows_stay_in_order.ensures rows c.args.t lines c.self.invariant.1),
      rw c.in_ok-push.ensures.ok (one_more c.self.inside.products c.in_ok-sent.sent c.self.invariant.2 apart),
    )
