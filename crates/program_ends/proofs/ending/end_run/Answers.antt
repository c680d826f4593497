use Rattle.std.proofs.Common.{sym, ◌∙◌}
use Rattle.program_ends.proofs.Telling.{told_own, told_cut, told_write_fault}
use Rattle.program_ends.proofs.ending.end_run.Goals as goal

pub returns-then-is_write_fault : goal.returns-then-is_write_fault
returns-then-is_write_fault g c = λ begun defined written has.
    let shows = g.K.Sink.outflow in
    rw (c.in-Some.is, c.write_fault_of_write.ensures.status)
    (told_write_fault begun (shows c.args.output.now) defined written c.in-Some.end (shows c.write_fault_of_write.new.output)
    (sym c.is_write_fault.ensures ∙ c.if-is_write_fault.true) (rw c.in-Some.is at has) c.write_fault_of_write.ensures.tried)

pub returns-in-Ok : goal.returns-in-Ok
returns-in-Ok g c = λ begun defined written has.
    let shows = g.K.Sink.outflow in
    rw (c.in-Some.is, c.status.ensures)
    (told_own begun (shows c.args.output.now) defined written c.in-Some.end (shows c.write_fault.new.output)
    (sym c.is_write_fault.ensures ∙ c.if-is_write_fault.false) (rw c.in-Some.is at has) c.in-Ok.ensures.whole c.in-Ok.ensures.steady)

pub returns : goal.returns
returns g c = λ begun defined written has.
    let shows = g.K.Sink.outflow in
    rw (c.in-Some.is, c.write_fault_of_write-in-Err.ensures.status)
    (told_cut begun (shows c.args.output.now) defined written c.in-Some.end (shows c.write_fault.new.output) (shows c.write_fault_of_write-in-Err.new.output)
    (sym c.is_write_fault.ensures ∙ c.if-is_write_fault.false) (rw c.in-Some.is at has) c.in-Err.ensures.front c.in-Err.ensures.cause.failed c.write_fault_of_write-in-Err.ensures.tried)
