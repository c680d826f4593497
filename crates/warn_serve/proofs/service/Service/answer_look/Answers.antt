use Rattle.std.proofs.Common.{refl}
use Rattle.warn_serve.specs.Answers.{look_answer}
use Rattle.warn_serve.proofs.Losing.{always_on_err, look_adds_none}
use Rattle.warn_serve.proofs.service.Service.answer_look.Goals as goal

pub returns-clause-looked : goal.returns-clause-looked
returns-clause-looked g c = (
  look_answer c.args.query c.look_in_turn-shown.result c.args.last,
  record { shown = c.look_in_turn-shown.result; turn = c.look_in_turn-shown.ensures; told = refl },
  c.look_answer.ensures,
)

pub returns-clause-lost : goal.returns-clause-lost
returns-clause-lost g c = always_on_err c.look_answer.result _ (look_adds_none c.args.pass.now c.look_in_turn-shown.new.pass _ c.args.query c.look_in_turn-shown.result c.look_in_turn-shown.ensures)
