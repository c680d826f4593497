use Rattle.std.proofs.Common.{rules, ◌∙◌, ◌+◌, ℕ, List, Ok, ap, subst, to_z, of_z, w64}
use Rattle.office_types.specs.declared.request.Request.TheVariants.{Issue}
use Rattle.office_core.specs.Step.{Accepts}
use Rattle.desk_drill.proofs.Keeping.{has_made, is_some}
use Rattle.desk_program.specs.Training.{dry_desk}
use Rattle.desk_program.proofs.TrainingLemmas.{answers_if, trains_if}
use Rattle.desk_program.proofs.training_desk.answer_issue.Goals as goal

pub accept-requires-clause-may : goal.accept-requires-clause-may
accept-requires-clause-may c = (c.prepare.ensures.ready c.in-New.prepared (c.in-Ok.is ∙ ap (λ z. Ok z) c.in-New.is)).may

pub accept-requires-clause-made : goal.accept-requires-clause-made
accept-requires-clause-made c =
    let r = c.prepare.ensures.ready c.in-New.prepared (c.in-Ok.is ∙ ap (λ z. Ok z) c.in-New.is) in
    let a = subst (λ (d : List ℕ). Accepts c.prepare.new.self.state d (c.products-number.result + 1) (Issue c.args.part) (to_z w64 (of_z w64 c.from-reading.result)) c.in-New.prepared.entry.minute c.in-New.prepared.made) c.dry_desk.ensures r.accepted in
    let m = has_made c.prepare.new.self.state dry_desk (c.products-number.result + 1) c.args.part (to_z w64 (of_z w64 c.from-reading.result)) c.in-New.prepared.entry.minute c.in-New.prepared.made a in
    is_some c.in-New.prepared.made m.one m.is

pub returns-clause-answered : goal.returns-clause-answered
returns-clause-answered c =
    let r = c.prepare.ensures.ready c.in-New.prepared (c.in-Ok.is ∙ ap (λ z. Ok z) c.in-New.is) in
    answers_if c.accept.result c.prepare.new.self.state c.args.office.now.state c.accept.new.office.state c.dry_desk.result (c.products-number.result + 1) c.args.at (to_z w64 (of_z w64 c.from-reading.result)) c.args.part c.in-New.prepared.entry c.in-New.prepared.made
    c.prepare.ensures.state c.dry_desk.ensures (ap (λ (n : ℕ). n + 1) c.products-number.ensures) (search rules) c.requires.training r.accepted r.entry c.accept.ensures.text c.accept.ensures.state

pub returns-clause-training : goal.returns-clause-training
returns-clause-training c =
    let r = c.prepare.ensures.ready c.in-New.prepared (c.in-Ok.is ∙ ap (λ z. Ok z) c.in-New.is) in
    trains_if c.accept.result c.prepare.new.self.state c.args.office.now.state c.accept.new.office.state c.dry_desk.result (c.products-number.result + 1) c.args.at (to_z w64 (of_z w64 c.from-reading.result)) c.args.part c.in-New.prepared.entry c.in-New.prepared.made
    c.prepare.ensures.state c.dry_desk.ensures (ap (λ (n : ℕ). n + 1) c.products-number.ensures) (search rules) c.requires.training r.accepted r.entry c.accept.ensures.text c.accept.ensures.state c.accept.ensures.number c.accept.ensures.reads c.accept.ensures.lacked
