use Rattle.std.proofs.Common.{arith}
use Rattle.desk_drill.specs.Keeping.{drilled_of, issued_by}
use Rattle.desk_drill.proofs.Running.{ends_there, goes_left}
use Rattle.desk_drill.proofs.drill.drilled.Goals as goal

pub loop-i-preserved : goal.loop-i-preserved
loop-i-preserved c =
    let l = c.loop-i in
    record {
      left = λ z rest. l.invariant.left z (goes_left (drilled_of l.desk) (drilled_of c.answer.new.self) z (issued_by c.in_ok-request.request) l.i l.draws.state c.request_at.new.draws.state c.args.drill.now.count
          c.loop-i-test.true c.in_ok-request.ensures.value c.request_at.ensures.state c.in_ok-answer.ensures.answered rest);
      kept = c.in_ok-answer.ensures.kept;
      refused = omega (arith, c.in_ok-answer.ensures.refused, l.invariant.refused);
    }

pub returns-clause-run : goal.returns-clause-run
returns-clause-run c =
    let l = c.loop-i in
    l.invariant.left (drilled_of l.desk) (ends_there (drilled_of l.desk) l.i l.draws.state c.args.drill.now.count (omega (arith, c.loop-i-test.false)))
