use Rattle.std.proofs.Common.{refl, subst, inl, inr}
use Rattle.hazard_types.specs.Given.{Refuses}
use Rattle.hazard_types.specs.declared.or.Or.{Or}
use Rattle.office_types.specs.declared.refusal.Refusal.{Refusal}
use Rattle.request_json.specs.Form.{asked_of}
use Rattle.warn_serve.specs.Answers.{refused_answer}
use Rattle.warn_serve.proofs.service.Service.answer_post.Goals as goal

pub returns-in-Err-No-clause-posted : goal.returns-in-Err-No-clause-posted
returns-in-Err-No-clause-posted g c =
    let read = subst (λ (z : Or Refusal). Refuses z (asked_of c.args.posted.now)) c.in-Err-No.field-0-is c.in-Err-No.ensures.exact in (
      refused_answer c.in-Err-No.refusal c.args.last,
      inr (inl (record { broken = c.in-Err-No.refusal; read = read; told = refl; unused = refl })),
      c.refused_answer.ensures,
    )
