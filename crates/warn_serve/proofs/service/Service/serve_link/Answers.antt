use Rattle.warn_serve.specs.Calls.{AnswersCall, LosesCall}
use Rattle.warn_serve.proofs.Calling.{whole_link}
use Rattle.warn_serve.proofs.service.Service.serve_link.Goals as goal

pub returns-clause-whole : goal.returns-clause-whole
returns-clause-whole g c =
    let state = g.L.Link.state in
    whole_link (AnswersCall (g.C.Clock.gives c.args.self.now.clock.now)) (LosesCall (g.C.Clock.gives c.args.self.now.clock.now)) (state c.args.link.now) (state c.serve_calls.new.link) c.args.pass.now c.serve_calls.new.pass c.serve_calls.result c.serve_calls.ensures.served
