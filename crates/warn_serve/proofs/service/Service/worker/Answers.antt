use Rattle.std.proofs.Common.{sym, ◌∙◌, arith}
use Rattle.warn_serve.specs.Calls.{AnswersCall, LosesCall}
use Rattle.warn_serve.proofs.Going.{keeps_none, keeps_on}
use Rattle.warn_serve.proofs.Working.{served_none, served_on, worked_all, worked_part}
use Rattle.warn_serve.proofs.service.Service.worker.Goals as goal

pub loop-served-init : goal.loop-served-init
loop-served-init g c =
    let door = g.Dr.Door in
    record {
      within = omega arith;
      lacked = omega arith;
      kept = keeps_none c.args.pass.now;
      none_out = c.requires.none_given ∙ sym c.requires.none_returned;
      returned = c.requires.none_returned;
      served = served_none (AnswersCall (g.C.Clock.gives c.args.self.now.clock.now)) (LosesCall (g.C.Clock.gives c.args.self.now.clock.now)) (door.state c.args.door.now) c.args.pass.now;
    }

pub serve_one-requires-clause-few : goal.serve_one-requires-clause-few
serve_one-requires-clause-few g c = omega (arith, c.loop-served.invariant.returned, c.loop-served.invariant.within, c.requires.share)

pub loop-served-preserved : goal.loop-served-preserved
loop-served-preserved g c =
    let door = g.Dr.Door in
    let state = door.state in
    let was = c.loop-served.invariant in
    let one = c.in-Ok.ensures.served in
    record {
      within = omega (arith, c.loop-served-test.true);
      lacked = omega (arith, was.lacked, c.count_if_out_of_memory-lacks.ensures.most);
      kept = keeps_on c.args.pass.now c.loop-served.pass c.serve_one.new.pass was.kept c.in-Ok.ensures.kept;
      none_out = omega (arith, was.none_out, one.gives_back.given, one.gives_back.returned);
      returned = omega (arith, was.returned, one.gives_back.returned);
      served = served_on (AnswersCall (g.C.Clock.gives c.args.self.now.clock.now)) (LosesCall (g.C.Clock.gives c.args.self.now.clock.now)) c.loop-served._served c.loop-served.lacks c.count_if_out_of_memory-lacks.result (state c.args.door.now) (state c.loop-served.door) (state c.serve_one.new.door) c.args.pass.now c.loop-served.pass c.serve_one.new.pass c.in-Ok.end c.count_if_out_of_memory-lacks.ensures.value was.served one;
    }

pub returns-in-Err-clause-kept : goal.returns-in-Err-clause-kept
returns-in-Err-clause-kept g c = keeps_on c.args.pass.now c.loop-served.pass c.serve_one.new.pass c.loop-served.invariant.kept c.in-Err.ensures.kept

pub returns-in-Err-clause-none_out : goal.returns-in-Err-clause-none_out
returns-in-Err-clause-none_out g c =
    let none = c.in-Err.ensures.failed in
    none.given ∙ (c.loop-served.invariant.none_out ∙ sym none.returned)

pub returns-in-Err-clause-few : goal.returns-in-Err-clause-few
returns-in-Err-clause-few g c = omega (arith, c.in-Err.ensures.failed.returned, c.loop-served.invariant.returned, c.loop-served.invariant.within)

pub returns-in-Err-clause-worked : goal.returns-in-Err-clause-worked
returns-in-Err-clause-worked g c =
    let door = g.Dr.Door in
    let state = door.state in
    worked_part (AnswersCall (g.C.Clock.gives c.args.self.now.clock.now)) (LosesCall (g.C.Clock.gives c.args.self.now.clock.now)) c.args.share c.loop-served._served c.loop-served.lacks (state c.args.door.now) (state c.loop-served.door) (state c.serve_one.new.door) c.args.pass.now c.loop-served.pass c.serve_one.new.pass
    c.loop-served.invariant.served (omega (arith, c.loop-served-test.true)) c.in-Err.ensures.failed

pub returns-clause-kept : goal.returns-clause-kept
returns-clause-kept g c = c.loop-served.invariant.kept

pub returns-clause-none_out : goal.returns-clause-none_out
returns-clause-none_out g c = c.loop-served.invariant.none_out

pub returns-clause-few : goal.returns-clause-few
returns-clause-few g c = omega (arith, c.loop-served.invariant.returned, c.loop-served.invariant.within)

pub returns-clause-worked : goal.returns-clause-worked
returns-clause-worked g c =
    let door = g.Dr.Door in
    let state = door.state in
    worked_all (AnswersCall (g.C.Clock.gives c.args.self.now.clock.now)) (LosesCall (g.C.Clock.gives c.args.self.now.clock.now)) c.args.share c.loop-served._served c.loop-served.lacks (state c.args.door.now) (state c.loop-served.door) c.args.pass.now c.loop-served.pass
    c.loop-served.invariant.served (omega (arith, c.loop-served-test.false, c.loop-served.invariant.within))
