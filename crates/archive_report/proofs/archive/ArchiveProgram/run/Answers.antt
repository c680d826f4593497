use Rattle.byte_streams.specs.Flows.{streams}
use Rattle.archive_report.proofs.Ending.{does_ended}
use Rattle.archive_report.proofs.archive.ArchiveProgram.run.Goals as goal

pub returns-in-Err : goal.returns-in-Err
returns-in-Err g c =
    does_ended c.args.words.now c.in-Some.asked c.args.limit (streams (g.S.Source.inflow c.args.input.now) (g.K.Sink.outflow c.args.output.now)) (streams (g.S.Source.inflow c.write_report.new.input) (g.K.Sink.outflow c.end_run.new.output))
    (g.K.Sink.outflow c.write_report.new.output) c.end_run.result c.in-Err.stop c.from.result c.in-Some.ensures
    c.in-Err.ensures.run c.in-Err.ensures.read c.in-Err.ensures.write c.from.ensures c.end_run.ensures
