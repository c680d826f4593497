use Rattle.std.proofs.Common.{rules, ◌≡◌, ℤ, pos, w64, to_z, of_z, Ok, Err, ◌∙◌, ap, subst}
use Rattle.std.proofs.lemmas.Int.{to_z-of_z}
use mir.Val.{SFits}
use Rattle.office_core.specs.Prepared.{IsReady}
use Rattle.office_core.specs.Step.{Refuses}
use Rattle.office_journal.proofs.replay.prepared.Goals.{After-prepare}
use Rattle.office_journal.proofs.replay.prepared.Goals as goal

-- the reading is the minute
at : (c : After-prepare) → to_z w64 (of_z w64 c.from-reading.result) ≡ pos c.args.minute
at c =
    let fits : SFits w64 c.from-reading.result = search rules in
    to_z-of_z w64 c.from-reading.result fits ∙ c.from-reading.ensures ∙ ap pos c.get.ensures.value

pub returns-in-New-clause-prepares : goal.returns-in-New-clause-prepares
returns-in-New-clause-prepares c =
    let a = c.args.asked.now in
    let ready = c.prepare.ensures.ready c.in-New.p (c.in-Ok.is ∙ ap Ok c.in-New.is) in
    subst (λ (reading : ℤ). IsReady c.prepare.new.self a.desk a.seq a.request reading c.in-New.p) (at (goal.at.returns-in-New-clause-prepares c).After-prepare) ready

pub returns-in-Ok-clause-prepares : goal.returns-in-Ok-clause-prepares
returns-in-Ok-clause-prepares c t made accepts =
    let again = c.prepare.ensures.again (c.in-Ok.is ∙ ap Ok c.in-Again.is) in
    c.a_request_has_one_answer.ensures.repeated _ _ _ _ _ _ _ _ again.1 accepts

pub returns-in-Err-No-clause-prepares : goal.returns-in-Err-No-clause-prepares
returns-in-Err-No-clause-prepares c t made accepts =
    let a = c.args.asked.now in
    let x = c.in-Err-No.field-0-0 in
    let refused = c.prepare.ensures.refused x (c.in-Err-No.is ∙ ap Err c.in-Err-No.field-0-is) in
    let here = subst (λ (reading : ℤ). Refuses c.args.office.now.state a.desk a.seq a.request reading x) (at (goal.at.returns-in-Err-No-clause-prepares c).After-prepare) refused in
    c.a_request_has_one_answer.ensures.apart _ _ _ _ _ _ _ _ accepts here
