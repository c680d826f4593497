use Rattle.std.proofs.Common.{ℕ, List, subst, true}
use Rattle.warn_serve.specs.Answers.{bytes_of}
use Rattle.warn_serve.specs.Steps.{Sends}
use Rattle.warn_serve.proofs.Saying.{sends_anyway}
use Rattle.warn_serve.proofs.links.refuse.Goals as goal

pub returns-in-Ok : goal.returns-in-Ok
returns-in-Ok g c =
    let state = g.L.Link.state in
    subst (λ (bytes : List ℕ). Sends (Unit {0}) (state c.args.link.now) (state c.finish.new.link) bytes true c.finish.result) c.in-Ok.ensures
    (sends_anyway (Unit {0}) (state c.args.link.now) (state c.finish.new.link) (bytes_of c.in-Ok.answer) true c.finish.result c.finish.ensures)
