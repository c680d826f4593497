use Rattle.archive_report.proofs.Paging.{pages_flushed, halts_write}
use Rattle.archive_report.proofs.page.flush.Goals as goal

pub returns-in-Ok-clause-told : goal.returns-in-Ok-clause-told
returns-in-Ok-clause-told g c =
    pages_flushed (g.K.Sink.outflow c.args.output.now) (g.K.Sink.outflow c.write_whole.new.sink) c.args.out.now c.as_slice.result.now c.new.result c.in-Ok.ensures.written.ok c.as_slice.ensures c.new.ensures

pub returns-in-Err-clause-halted : goal.returns-in-Err-clause-halted
returns-in-Err-clause-halted g c =
    halts_write (g.K.Sink.outflow c.args.output.now) (g.K.Sink.outflow c.write_whole.new.sink) c.args.out.now c.as_slice.result.now c.as_slice.ensures c.in-Err.ensures.written.part
