use Rattle.std.proofs.Common.{take}
use Rattle.program_ends.proofs.Telling.{has_cut}
use Rattle.follow_links.proofs.telling.write_text.Goals as goal

pub returns-in-Err-clause-written : goal.returns-in-Err-clause-written
returns-in-Err-clause-written g c =
    let written = c.in-Err.ensures.written in
    let part = written.part in
    (take part.0 c.args.text.now, has_cut c.args.text.now part.0 (g.K.Sink.outflow c.args.output.now) (g.K.Sink.outflow c.write_whole.new.sink) part.2 written.cause.failed)
