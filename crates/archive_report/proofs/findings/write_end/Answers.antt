use Rattle.event_life.specs.Products.{rows_of}
use Rattle.event_life.specs.Shown.{shown_at}
use Rattle.archive_report.specs.Pieces.{count_listed}
use Rattle.archive_report.specs.Report.{shown_text, last_line}
use Rattle.archive_report.proofs.Paging.{halts_longer, halts_then, if_err_weaker}
use Rattle.program_ends.proofs.Piecewise.{stops_by}
use Rattle.archive_report.proofs.findings.write_end.Goals as goal

pub returns-in_err-write_shown-clause-halted : goal.returns-in_err-write_shown-clause-halted
returns-in_err-write_shown-clause-halted g c =
    let minute = c.args.asked.now.minute in
    rw (stops_by c.from_residual.result c.in_err-write_shown.field-0.0 c.from_residual.ensures.1)
    (halts_longer (g.K.Sink.outflow c.args.output.now) (g.K.Sink.outflow c.write_shown.new.output) c.args.out.now (shown_text minute (shown_at minute (rows_of c.args.tally.now.reader.products))) (last_line (count_listed c.args.tally.now))
    c.in_err-write_shown.field-0.0 c.in_err-write_shown.ensures.halted)

pub returns-clause-halted : goal.returns-clause-halted
returns-clause-halted g c =
    let minute = c.args.asked.now.minute in
    if_err_weaker c.write_last.result _ _ (λ why h. halts_then (g.K.Sink.outflow c.args.output.now) (g.K.Sink.outflow c.write_shown.new.output) (g.K.Sink.outflow c.write_last.new.output) c.args.out.now c.write_shown.new.out
    (shown_text minute (shown_at minute (rows_of c.args.tally.now.reader.products))) (last_line (count_listed c.args.tally.now)) why c.in_ok-write_shown.ensures.told (rw c.requires at h)) c.write_last.ensures.halted
