use Rattle.std.proofs.Common.{◌≡◌, ◌+◌, ◌++◌, length, map}
use Rattle.warn_serve.specs.Calls.{AnswersCall, LosesCall}
use Rattle.warn_serve.specs.Gathered.{IsGathered}
use Rattle.warn_serve.specs.Shares.{total_of}
use Rattle.warn_serve.proofs.service.Service.gather.Given as goal

abbrev pub invariant-loop-worker : goal.invariant-loop-worker
invariant-loop-worker g l =
    let port = g.P.Port.state in
    record {
      can : (goal.iterator-loop-worker g).can_next l.worker-iterator;
      ends : (goal.iterator-loop-worker g).is_finite l.worker-iterator;
      items : l.fn.workers.items ≡ l.yielded ++ l.worker-iterator.rest.items;
      shares : l.pass.shares ≡ l.initial.pass.shares + length l.yielded;
      gathered : IsGathered (AnswersCall (g.C.Clock.gives l.fn.self.clock.now)) (LosesCall (g.C.Clock.gives l.fn.self.clock.now)) (map (λ w. w.share) l.yielded) (total_of (map (λ w. w.share) l.yielded)) (port l.initial.port) (port l.port) l.initial.pass l.pass l.end;
      numbers : (g.P.Port.state l.port).numbers ≡ (g.P.Port.state l.initial.port).numbers;
    }
