-- The plan of a correction is written; the rule that is named is the first that is broken.
use Rattle.std.proofs.Common.{◌≡◌, ◌∙◌, ℕ, List, Option, Some, None, inl, inr, ap, subst, sym, rules}
use Rattle.hazard_types.specs.declared.hazard.Event.{Event}
use Rattle.office_types.specs.declared.refusal.Refusal.{Refusal}
use Rattle.office_types.specs.declared.request.Plan.{Plan}
use Rattle.office_types.specs.declared.request.Sent.{Sent}
use Rattle.event_numbers.specs.Counts.{AreDrawnInOrder}
use Rattle.action_planner.specs.Corrections.{CanCorrect, IsCorrection, broken_correction}
use Rattle.office_core.specs.Making.{Making, IsPlanOf, broken_lines, last_of_category, letters_of, original_of}
use Rattle.office_core.specs.Sound.{IsSound}
use Rattle.office_core.specs.Views.{OfficeView}
use Rattle.office_core.specs.WellMade.{IsWellMade}
use Rattle.office_core.specs.declared.made.Made.{Made}
use Rattle.office_core.proofs.MakingLemmas.{IsCorrectionPlanned, IsWritten, corrected_lines, corrected_well, if_written, none_drawn}
use Rattle.office_core.proofs.office.Office.make_corrected.Goals as goal
use Rattle.office_core.proofs.office.Office.make_corrected.Goals.{After-letters_of-letters, In_ok-plan}

abbrev making : After-letters_of-letters → Making
making c = Making.corrected c.args.sent.now c.args.given.now

sound : (c : After-letters_of-letters) → IsSound c.args.self.now.state c.args.self.now.counts
sound c = subst (λ (o : OfficeView). IsSound o.state o.counts) c.self.view_is c.self.invariant.0

last : (c : After-letters_of-letters) → c.last_of_category-last.result ≡ last_of_category c.args.self.now.state.products c.args.sent.now.category
last c = c.last_of_category-last.ensures ∙ ap (λ (ps : List Sent). last_of_category ps c.args.sent.now.category) (c.deref.ensures.value ∙ ap (λ (v : OfficeView). v.state.products) c.self.view_is)

letters : (c : After-letters_of-letters) → c.letters_of-letters.result ≡ letters_of c.args.self.now.state.products (original_of c.args.sent.now)
letters c =
    c.letters_of-letters.ensures.letters
    ∙ ap (λ (ps : List Sent). letters_of ps c.original_of-original.result) (c.deref-2.ensures.value ∙ ap (λ (v : OfficeView). v.state.products) c.self.view_is)
    ∙ ap (letters_of c.args.self.now.state.products) c.original_of-original.ensures

named : (c : After-letters_of-letters) (x : Option Refusal) → broken_correction c.args.self.now.state.rows c.args.t c.args.sent.now c.last_of_category-last.result c.letters_of-letters.result c.args.given.now ≡ x →
    broken_lines c.args.self.now.state c.args.t (making c) ≡ x
named c x e = corrected_lines c.args.self.now.state c.args.t c.args.sent.now c.args.given.now c.last_of_category-last.result c.letters_of-letters.result x (last c) (letters c) e

planned : (c : In_ok-plan) → IsCorrectionPlanned c.args.self.now c.args.sent.now c.args.given.now c.last_of_category-last.result c.letters_of-letters.result c.args.t c.in_ok-plan.plan
planned c = subst (λ (o : OfficeView). IsCorrectionPlanned o c.args.sent.now c.args.given.now c.last_of_category-last.result c.letters_of-letters.result c.args.t c.in_ok-plan.plan) c.self.view_is (record { is = c.in_ok-plan.ensures.plan; lawful = c.in_ok-plan.ensures.lawful; kept = c.in_ok-plan.ensures.kept })

pub plan_correction-requires : goal.plan_correction-requires
plan_correction-requires c =
    let o = c.args.self.now in
    let may = c.sound_products_may_be_planned.ensures o.state o.counts c.args.t (making c) (sound c) c.requires.last c.requires.minute c.requires.sound in
    let counted = subst (λ (n : ℕ). CanCorrect o.state.rows c.args.sent.now n c.args.t) (sym (letters c)) may in
    subst (λ (v : OfficeView). CanCorrect v.state.rows c.args.sent.now c.letters_of-letters.result c.args.t) (sym c.self.view_is) counted

pub returns-in_err-plan-clause-refused : goal.returns-in_err-plan-clause-refused
returns-in_err-plan-clause-refused c x e =
    let d = (goal.at.returns-in_err-plan-clause-refused c).After-letters_of-letters in
    let said : broken_correction c.self.inside.board.rows c.args.t c.args.sent.now c.last_of_category-last.result c.letters_of-letters.result c.args.given.now ≡ Some x = search rules in
    let first = subst (λ (v : OfficeView). broken_correction v.state.rows c.args.t c.args.sent.now c.last_of_category-last.result c.letters_of-letters.result c.args.given.now ≡ Some x) c.self.view_is said in
    inl (named d (Some x) first)

is_plan : (d : After-letters_of-letters) (plan : Plan) → IsCorrection d.args.self.now.state.rows d.args.t d.args.sent.now d.letters_of-letters.result d.args.given.now plan → IsPlanOf d.args.self.now.state d.args.t (making d) plan
is_plan d plan p = subst (λ (n : ℕ). IsCorrection d.args.self.now.state.rows d.args.t d.args.sent.now n d.args.given.now plan) (letters d) p

pub write-requires : goal.write-requires
write-requires c =
    let o = c.args.self.now in
    let d = (goal.at.write-requires c).After-letters_of-letters in
    let p = planned (goal.at.write-requires c).In_ok-plan in
    c.sound_plans_may_be_written.ensures o.state o.counts c.args.t (making d) c.in_ok-plan.plan (sound d) c.requires.last c.requires.minute c.requires.sound (named d None p.kept) (is_plan d c.in_ok-plan.plan p.is)

pub returns-clause-made : goal.returns-clause-made
returns-clause-made c =
    let o = c.args.self.now in
    let d = (goal.at.returns-clause-made c).After-letters_of-letters in
    let p = planned (goal.at.returns-clause-made c).In_ok-plan in
    let numbers = subst (λ (events : List Event). AreDrawnInOrder o.counts events) (sym p.is.opened) (none_drawn o.counts) in
    if_written o.state c.args.t (Some c.original_of-original.result) c.in_ok-plan.plan (λ (made : Made). IsWellMade o.state o.counts c.args.t (making d) made) c.write.result
    c.write.ensures.made c.write.ensures.kept c.write.ensures.frame c.write.ensures.one
    (λ made written. corrected_well o.state o.counts c.args.t c.args.sent.now c.args.given.now c.in_ok-plan.plan made (named d None p.kept) (is_plan d c.in_ok-plan.plan p.is) p.lawful numbers
    (subst (λ (n : ℕ). IsWritten o.state c.args.t (Some n) c.in_ok-plan.plan made) c.original_of-original.ensures written))

pub returns-clause-refused : goal.returns-clause-refused
returns-clause-refused c x e =
    let d = (goal.at.returns-clause-refused c).After-letters_of-letters in
    let p = planned (goal.at.returns-clause-refused c).In_ok-plan in
    inr (named d None p.kept, c.in_ok-plan.plan, is_plan d c.in_ok-plan.plan p.is, c.write.ensures.refused x e)
