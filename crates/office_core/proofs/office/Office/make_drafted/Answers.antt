-- The plan of a draft is written; the rule that is named is the first that is broken.
use Rattle.std.proofs.Common.{◌≡◌, List, Some, None, inl, inr, subst, sym, rules}
use Rattle.hazard_types.specs.declared.hazard.Event.{Event}
use Rattle.event_numbers.specs.Counts.{AreDrawnInOrder}
use Rattle.action_planner.specs.Conditions.{CanPlan}
use Rattle.action_planner.specs.Offences.{broken}
use Rattle.action_planner.specs.Placed.{opened, placed}
use Rattle.action_planner.specs.Told.{counts_in}
use Rattle.office_core.specs.Making.{Making, IsPlanOf, broken_lines}
use Rattle.office_core.specs.Sound.{IsSound}
use Rattle.office_core.specs.Views.{OfficeView}
use Rattle.office_core.specs.WellMade.{IsWellMade}
use Rattle.office_core.specs.declared.made.Made.{Made}
use Rattle.office_core.proofs.MakingLemmas.{IsPlanned, drafted_lines, drafted_plan, drafted_well, if_written, next_drawn, AreNext}
use Rattle.office_core.proofs.office.Office.make_drafted.Goals as goal
use Rattle.office_core.proofs.office.Office.make_drafted.Goals.{In_ok-plan}

abbrev making : In_ok-plan → Making
making c = Making.drafted c.args.draft.now.category c.args.draft.now.intents

sound : (c : In_ok-plan) → IsSound c.args.self.now.state c.args.self.now.counts
sound c = subst (λ (o : OfficeView). IsSound o.state o.counts) c.self.view_is c.self.invariant.0

same : (c : In_ok-plan) → placed (counts_in c.args.self.now.state.rows) c.args.t c.args.draft.now.intents ≡ placed c.args.self.now.counts c.args.t c.args.draft.now.intents
same c = c.rows_tell_the_numbers.ensures.placed c.args.self.now.state.rows c.args.self.now.counts c.args.draft.now.intents c.args.t (sound c).stands.numbered

planned : (c : In_ok-plan) → IsPlanned c.args.self.now c.args.draft.now.category c.args.draft.now.intents c.args.t c.in_ok-plan.plan
planned c = subst (λ (o : OfficeView). IsPlanned o c.args.draft.now.category c.args.draft.now.intents c.args.t c.in_ok-plan.plan) c.self.view_is (record { is = c.in_ok-plan.ensures.plan; lawful = c.in_ok-plan.ensures.lawful; kept = c.in_ok-plan.ensures.kept })

kept : (c : In_ok-plan) → broken_lines c.args.self.now.state c.args.t (making c) ≡ None
kept c = drafted_lines c.args.self.now.state c.args.self.now.counts c.args.t c.args.draft.now.category c.args.draft.now.intents None (same c) (planned c).kept

is_plan : (c : In_ok-plan) → IsPlanOf c.args.self.now.state c.args.t (making c) c.in_ok-plan.plan
is_plan c = drafted_plan c.args.self.now.state c.args.self.now.counts c.args.t c.args.draft.now.category c.args.draft.now.intents c.in_ok-plan.plan (same c) (planned c).is

numbers : (c : In_ok-plan) → AreDrawnInOrder c.args.self.now.counts c.in_ok-plan.plan.opened
numbers c =
    let o = c.args.self.now in
    let next : AreNext o.counts (opened (placed o.counts c.args.t c.args.draft.now.intents)) =
    λ earlier later e. c.opened_events_are_drawn_in_order.ensures c.args.draft.now.category o.state.rows o.counts c.args.draft.now.intents c.args.t earlier later e (planned c).kept in
    subst (λ (events : List Event). AreDrawnInOrder o.counts events) (sym (planned c).is.opened) (next_drawn o.counts (opened (placed o.counts c.args.t c.args.draft.now.intents)) next)

pub plan-requires : goal.plan-requires
plan-requires c =
    let o = c.args.self.now in
    let stands = subst (λ (v : OfficeView). IsSound v.state v.counts) c.self.view_is c.self.invariant.0 in
    let may = c.sound_products_may_be_planned.ensures o.state o.counts c.args.t (Making.drafted c.args.draft.now.category c.args.draft.now.intents) stands c.requires.last c.requires.minute c.requires.sound in
    subst (λ (v : OfficeView). CanPlan v.state.rows v.counts c.args.draft.now.category c.args.draft.now.intents c.args.t) (sym c.self.view_is) may

pub returns-in_err-plan-clause-refused : goal.returns-in_err-plan-clause-refused
returns-in_err-plan-clause-refused c x e =
    let o = c.args.self.now in
    let stands = subst (λ (v : OfficeView). IsSound v.state v.counts) c.self.view_is c.self.invariant.0 in
    let told = c.rows_tell_the_numbers.ensures.placed o.state.rows o.counts c.args.draft.now.intents c.args.t stands.stands.numbered in
    let named : broken c.args.draft.now.category c.self.inside.board.rows c.args.t (placed c.self.inside.numbers.counts c.args.t c.args.draft.now.intents) ≡ Some x = search rules in
    let first = subst (λ (v : OfficeView). broken c.args.draft.now.category v.state.rows c.args.t (placed v.counts c.args.t c.args.draft.now.intents) ≡ Some x) c.self.view_is named in
    inl (drafted_lines o.state o.counts c.args.t c.args.draft.now.category c.args.draft.now.intents (Some x) told first)

pub write-requires : goal.write-requires
write-requires c =
    let o = c.args.self.now in
    c.sound_plans_may_be_written.ensures o.state o.counts c.args.t (making c) c.in_ok-plan.plan (sound c) c.requires.last c.requires.minute c.requires.sound (kept c) (is_plan c)

pub returns-clause-made : goal.returns-clause-made
returns-clause-made c =
    let o = c.args.self.now in
    let d = (goal.at.returns-clause-made c).In_ok-plan in
    if_written o.state c.args.t None c.in_ok-plan.plan (λ (made : Made). IsWellMade o.state o.counts c.args.t (making d) made) c.write.result
    c.write.ensures.made c.write.ensures.kept c.write.ensures.frame c.write.ensures.one
    (λ made written. drafted_well o.state o.counts c.args.t c.args.draft.now.category c.args.draft.now.intents c.in_ok-plan.plan made (kept d) (is_plan d) (planned d).lawful (numbers d) written)

pub returns-clause-refused : goal.returns-clause-refused
returns-clause-refused c x e =
    let d = (goal.at.returns-clause-refused c).In_ok-plan in
    inr (kept d, c.in_ok-plan.plan, is_plan d, c.write.ensures.refused x e)
