use Rattle.std.proofs.Common.{None, Some, inl, inr, refl, take}
use Rattle.program_ends.specs.declared.ends.End.TheVariants.{WriteFault}
use Rattle.program_ends.proofs.Telling.{has_all, has_cut}
use Rattle.program_ends.proofs.ending.tell.Goals as goal

pub returns-in-Ok : goal.returns-in-Ok
returns-in-Ok g c =
    let begun = g.K.Sink.outflow c.args.output.now in
    let text = c.args.text.now in
    let written = c.in-Ok.ensures.written in
    (None, inl refl, c.end_run.ensures begun text text (has_all text begun (g.K.Sink.outflow c.write_whole.new.sink) written.ok written.steady))

pub returns-in-Err : goal.returns-in-Err
returns-in-Err g c =
    let begun = g.K.Sink.outflow c.args.output.now in
    let text = c.args.text.now in
    let written = c.in-Err.ensures.written in
    let part = written.part in
    (Some WriteFault, inr refl, c.end_run-in-Err.ensures begun text (take part.0 text) (has_cut text part.0 begun (g.K.Sink.outflow c.write_whole.new.sink) part.2 written.cause.failed))
