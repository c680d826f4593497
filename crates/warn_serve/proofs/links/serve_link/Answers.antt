use Rattle.warn_serve.specs.Calls.{AnswersCall, LosesCall}
use Rattle.warn_serve.proofs.Going.{not_begun}
use Rattle.warn_serve.proofs.links.serve_link.Goals as goal

pub returns-in_default-clause-served : goal.returns-in_default-clause-served
returns-in_default-clause-served g c = not_begun (AnswersCall (g.C.Clock.gives c.args.clock.now)) (LosesCall (g.C.Clock.gives c.args.clock.now)) (g.L.Link.state c.args.link.now) c.args.pass.now

pub returns-in_default-new-clause-served : goal.returns-in_default-new-clause-served
returns-in_default-new-clause-served g c = not_begun (AnswersCall (g.C.Clock.gives c.args.clock.now)) (LosesCall (g.C.Clock.gives c.args.clock.now)) (g.L.Link.state c.args.link.now) c.args.pass.now
