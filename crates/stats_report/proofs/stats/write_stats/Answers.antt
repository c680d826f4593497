use Rattle.std.proofs.Common.{◌∙◌, sym, take, drop}
use Rattle.std.proofs.lemmas.List.{take-append-drop}
use Rattle.program_ends.specs.declared.reading.Stop.TheVariants as stop
use Rattle.program_ends.proofs.Piecewise.{stops_by}
use Rattle.stats_report.proofs.Ending.{ends_reading, ends_texting, ends_whole, ends_writing}
use Rattle.stats_report.proofs.stats.write_stats.Goals as goal

pub count_input-requires-clause-fresh : goal.count_input-requires-clause-fresh
count_input-requires-clause-fresh g c = (c.new-tally.ensures.kept c.args.asked.now.minute, c.new-tally.ensures.count, c.new-tally.ensures.faults)

pub returns-in_err-count_input-clause-run : goal.returns-in_err-count_input-clause-run
returns-in_err-count_input-clause-run g c =
    rw (stops_by c.from_residual.result c.in_err-count_input.field-0.0 c.from_residual.ensures.1)
    (ends_reading c.args.asked.now c.args.limit (g.S.Source.inflow c.args.input.now).left (g.S.Source.inflow c.count_input.new.input).left (g.K.Sink.outflow c.args.output.now).taken c.count_input.new.tally c.in_err-count_input.field-0.0 c.in_err-count_input.ensures.run)

pub returns-in_err-text-clause-run : goal.returns-in_err-text-clause-run
returns-in_err-text-clause-run g c =
    rw (stops_by c.from_residual-in_err-text.result stop.OutOfMemory c.from_residual-in_err-text.ensures.1)
    (ends_texting c.args.asked.now c.args.limit (g.S.Source.inflow c.args.input.now).left (g.S.Source.inflow c.count_input.new.input).left (g.K.Sink.outflow c.args.output.now).taken c.count_input.new.tally tt c.in_ok-count_input.ensures.run)

pub returns-in-Ok-clause-run : goal.returns-in-Ok-clause-run
returns-in-Ok-clause-run g c =
    ends_whole c.args.asked.now c.args.limit (g.S.Source.inflow c.args.input.now).left (g.S.Source.inflow c.count_input.new.input).left (g.K.Sink.outflow c.args.output.now).taken c.count_input.new.tally tt c.in_ok-count_input.ensures.run
    c.as_slice.result.now (g.K.Sink.outflow c.write_whole.new.sink).taken (λ stamp products kept. c.as_slice.ensures ∙ c.in_ok-text.ensures stamp products kept) tt c.in-Ok.ensures.written.ok

pub returns-clause-run : goal.returns-clause-run
returns-clause-run g c =
    let text = c.as_slice.result.now in
    let part = c.in-Err.ensures.written.part in
    ends_writing c.args.asked.now c.args.limit (g.S.Source.inflow c.args.input.now).left (g.S.Source.inflow c.count_input.new.input).left (g.K.Sink.outflow c.args.output.now).taken c.count_input.new.tally tt c.in_ok-count_input.ensures.run
    text (g.K.Sink.outflow c.write_whole.new.sink).taken (λ stamp products kept. c.as_slice.ensures ∙ c.in_ok-text.ensures stamp products kept) (take part.0 text) (drop part.0 text, sym (take-append-drop part.0 text)) part.2
