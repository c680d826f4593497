use Rattle.std.proofs.Common.{◌≡◌, ◌≤◌}
use Rattle.turn_lock.specs.Passes.{KeepsRights}
use Rattle.warn_serve.specs.Calls.{AnswersCall, LosesCall}
use Rattle.warn_serve.specs.Workers.{HasServed}
use Rattle.warn_serve.proofs.service.Service.worker.Given as goal

-- so many links of the door were served, and went back
abbrev pub invariant-loop-served : goal.invariant-loop-served
invariant-loop-served g l =
    let door = g.Dr.Door in
    let state = door.state in
    record {
      within : l._served ≤ l.fn.share;
      lacked : l.lacks ≤ l._served;
      kept : KeepsRights l.fn.pass l.pass;
      none_out : (state l.door).given ≡ (state l.door).returned;
      returned : (state l.door).returned ≡ l._served;
      served : HasServed (AnswersCall (g.C.Clock.gives l.fn.self.clock.now)) (LosesCall (g.C.Clock.gives l.fn.self.clock.now)) l._served l.lacks (state l.fn.door) (state l.door) l.fn.pass l.pass;
    }
