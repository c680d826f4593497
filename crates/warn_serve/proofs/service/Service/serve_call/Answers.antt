use Rattle.std.proofs.Common.{◌≡◌, ℕ, List, subst}
use Rattle.warn_serve.specs.Answers.{bytes_of}
use Rattle.warn_serve.specs.Steps.{Sends}
use Rattle.warn_serve.proofs.Saying.{sends_anyway}
use Rattle.warn_serve.proofs.service.Service.serve_call.Goals as goal

pub returns-in-Ok-clause-sent : goal.returns-in-Ok-clause-sent
returns-in-Ok-clause-sent g c =
    let state = g.L.Link.state in
    let judged = c.in-Ok.ensures.judged in
    let may = c.answer_call.new.pass.mine ≡ c.args.pass.now.mine in (
      judged.0,
      judged.1,
      subst (λ (bytes : List ℕ). Sends may (state c.args.link.now) (state c.finish.new.link) bytes c.args.last c.finish.result) judged.2
          (sends_anyway may (state c.args.link.now) (state c.finish.new.link) (bytes_of c.in-Ok.answer) c.args.last c.finish.result c.finish.ensures),
    )
