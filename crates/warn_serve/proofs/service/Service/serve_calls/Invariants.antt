use Rattle.std.proofs.Common.{◌≤◌}
use Rattle.turn_lock.specs.Passes.{KeepsRights}
use Rattle.warn_serve.specs.Calls.{AnswersCall}
use Rattle.warn_serve.specs.Steps.{HasGone}
use Rattle.warn_serve.proofs.service.Service.serve_calls.Given as goal

-- so many calls were answered, and the link is open
abbrev pub invariant-loop-index : goal.invariant-loop-index
invariant-loop-index g l =
    let state = g.L.Link.state in
    record {
      within : l.index ≤ 10000;
      kept : KeepsRights l.fn.pass l.pass;
      gone : HasGone (AnswersCall (g.C.Clock.gives l.fn.self.clock.now)) (state l.fn.link) (state l.link) l.fn.pass l.pass l.inbox l.index;
    }
