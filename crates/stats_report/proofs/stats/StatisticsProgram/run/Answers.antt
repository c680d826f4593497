use Rattle.byte_streams.specs.Flows.{streams}
use Rattle.stats_report.proofs.Ending.{does_ended}
use Rattle.stats_report.proofs.stats.StatisticsProgram.run.Goals as goal

pub returns-in-Err : goal.returns-in-Err
returns-in-Err g c =
    does_ended c.args.words.now c.in-Some.asked c.args.limit (streams (g.S.Source.inflow c.args.input.now) (g.K.Sink.outflow c.args.output.now)) (streams (g.S.Source.inflow c.write_stats.new.input) (g.K.Sink.outflow c.end_run.new.output))
    (g.K.Sink.outflow c.write_stats.new.output) c.end_run.result c.in-Err.stop c.from.result c.in-Some.ensures
    c.in-Err.ensures.run c.in-Err.ensures.read c.in-Err.ensures.write c.from.ensures c.end_run.ensures
