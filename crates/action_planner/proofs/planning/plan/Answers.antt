-- Where no rule is broken the lines are those of the cases, and lawful; a rule that is named is the first that is broken.
use Rattle.std.proofs.Common.{◌≡◌, ◌∙◌, Option, Some, None, ap, rules}
use Rattle.office_types.specs.declared.refusal.Refusal.{Refusal}
use Rattle.action_planner.specs.Placed.{placed}
use Rattle.action_planner.specs.Lines.{planned_lines}
use Rattle.action_planner.specs.Rules.{broken_early, broken_late}
use Rattle.action_planner.proofs.PlanLemmas.{lawful_plan, cases_of_plan}
use Rattle.action_planner.proofs.RulesLemmas.{early_named, late_named}
use Rattle.action_planner.proofs.planning.plan.Goals as goal

pub returns-in-Some-clause-refused : goal.returns-in-Some-clause-refused
returns-in-Some-clause-refused c r e =
    let same : c.in-Some.refusal ≡ r = cc in
    let named : broken_early c.args.board.now.rows c.args.t (placed c.args.numbers.now.counts c.args.t c.args.draft.now.intents) ≡ Some c.in-Some.refusal = search rules in
    early_named c.args.draft.now.category c.args.board.now.rows c.args.t (placed c.args.numbers.now.counts c.args.t c.args.draft.now.intents) r (named ∙ ap Some same)

pub returns-in-Some-2-clause-refused : goal.returns-in-Some-2-clause-refused
returns-in-Some-2-clause-refused c r e =
    let same : c.in-Some-2.refusal ≡ r = cc in
    let early : broken_early c.args.board.now.rows c.args.t (placed c.args.numbers.now.counts c.args.t c.args.draft.now.intents) ≡ None = search rules in
    let planned : c.in_ok-lines.lines ≡ planned_lines c.args.draft.now.category c.args.board.now.rows c.args.t (placed c.args.numbers.now.counts c.args.t c.args.draft.now.intents) = search rules in
    let late : Some c.in-Some-2.refusal ≡ broken_late c.args.board.now.rows c.args.t (placed c.args.numbers.now.counts c.args.t c.args.draft.now.intents) c.in_ok-lines.lines = search rules in
    late_named c.args.draft.now.category c.args.board.now.rows c.args.t (placed c.args.numbers.now.counts c.args.t c.args.draft.now.intents) c.in_ok-lines.lines (Some c.in-Some-2.refusal) planned early late ∙ ap Some same

kept_of : goal.returns-clause-kept
kept_of c =
    let early : broken_early c.args.board.now.rows c.args.t (placed c.args.numbers.now.counts c.args.t c.args.draft.now.intents) ≡ None = search rules in
    let planned : c.in_ok-lines.lines ≡ planned_lines c.args.draft.now.category c.args.board.now.rows c.args.t (placed c.args.numbers.now.counts c.args.t c.args.draft.now.intents) = search rules in
    let late : ◌≡◌ {A = Option Refusal} None (broken_late c.args.board.now.rows c.args.t (placed c.args.numbers.now.counts c.args.t c.args.draft.now.intents) c.in_ok-lines.lines) = search rules in
    late_named c.args.draft.now.category c.args.board.now.rows c.args.t (placed c.args.numbers.now.counts c.args.t c.args.draft.now.intents) c.in_ok-lines.lines None planned early late

pub returns-clause-kept : goal.returns-clause-kept
returns-clause-kept = kept_of

pub returns-clause-cases : goal.returns-clause-cases
returns-clause-cases c =
    let planned : c.in_ok-plan_of.field-0.lines ≡ planned_lines c.args.draft.now.category c.args.board.now.rows c.args.t (placed c.args.numbers.now.counts c.args.t c.args.draft.now.intents) = search rules in
    cases_of_plan c.args.draft.now.category c.args.board.now.rows c.args.numbers.now.counts c.args.draft.now.intents c.args.t c.in_ok-plan_of.field-0.lines c.requires c.broken_late.ensures.order (kept_of c) planned

pub returns-clause-lawful : goal.returns-clause-lawful
returns-clause-lawful c =
    let planned : c.in_ok-plan_of.field-0.lines ≡ planned_lines c.args.draft.now.category c.args.board.now.rows c.args.t (placed c.args.numbers.now.counts c.args.t c.args.draft.now.intents) = search rules in
    lawful_plan c.args.draft.now.category c.args.board.now.rows c.args.numbers.now.counts c.args.draft.now.intents c.args.t c.in_ok-plan_of.field-0.lines c.requires c.broken_late.ensures.order (kept_of c) planned
