use Rattle.std.proofs.Common.{◌≡◌, refl}
use Rattle.warn_serve.specs.Answers.{MayBeLost, submit_answer}
use Rattle.warn_serve.proofs.Losing.{on_err, submit_lost}
use Rattle.warn_serve.proofs.service.Service.answer_request.Goals as goal

pub returns-clause-submitted : goal.returns-clause-submitted
returns-clause-submitted g c = (
  submit_answer c.submit_in_turn-outcome.result c.args.last,
  record { outcome = c.submit_in_turn-outcome.result; turn = c.submit_in_turn-outcome.ensures; told = refl },
  c.submit_answer.ensures.bytes,
)

pub returns-clause-lost : goal.returns-clause-lost
returns-clause-lost g c =
    let old = c.args.pass.now in
    let new = c.submit_in_turn-outcome.new.pass in
    on_err c.submit_answer.result (MayBeLost c.submit_in_turn-outcome.result) (new.mine ≡ old.mine)
    (submit_lost old new _ c.args.asked.now c.submit_in_turn-outcome.result c.submit_in_turn-outcome.ensures) c.submit_answer.ensures.lost
