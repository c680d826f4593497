use Rattle.std.proofs.Common.{Ok, Err, Some, subst}
use Rattle.byte_streams.specs.Flows.{streams}
use Rattle.program_ends.specs.declared.ends.End.{End}
use Rattle.program_ends.proofs.Finishing.{Tells, run_told}
use Rattle.program_ends.proofs.lines.run_lines.Goals as goal

pub returns-in-Ok : goal.returns-in-Ok
returns-in-Ok g c =
    let reads = g.S.Source.inflow in
    let writes = g.K.Sink.outflow in
    run_told g.A.Answers.answers g.A.Answers.out_of_memory c.args.limit c.args.answers.now c.answer_lines.new.answers
    (streams (reads c.args.input.now) (writes c.args.output.now)) (streams (reads c.answer_lines.new.input) (writes c.end_run.new.output))
    (writes c.answer_lines.new.output) (Ok c.in-Ok.field-0) c.end_run.result
    c.in-Ok.ensures.run c.in-Ok.ensures.read c.in-Ok.ensures.write c.end_run.ensures

pub returns-in-Err : goal.returns-in-Err
returns-in-Err g c =
    let reads = g.S.Source.inflow in
    let writes = g.K.Sink.outflow in
    let mid = writes c.answer_lines.new.output in
    let after = writes c.end_run-in-Err.new.output in
    let status = c.end_run-in-Err.result in
    run_told g.A.Answers.answers g.A.Answers.out_of_memory c.args.limit c.args.answers.now c.answer_lines.new.answers
    (streams (reads c.args.input.now) (writes c.args.output.now)) (streams (reads c.answer_lines.new.input) after)
    mid (Err c.in-Err.stop) status c.in-Err.ensures.run c.in-Err.ensures.read c.in-Err.ensures.write
    (subst (λ (e : End). Tells mid after (Some e) status) c.from.ensures c.end_run-in-Err.ensures)
