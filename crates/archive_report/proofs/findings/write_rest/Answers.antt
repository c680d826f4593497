use Rattle.std.proofs.Common.{[]}
use Rattle.archive_report.specs.Pieces.{end_text}
use Rattle.archive_report.specs.Report.{findings_text}
use Rattle.archive_report.proofs.Paging.{halts_then}
use Rattle.program_ends.proofs.Piecewise.{stops_by}
use Rattle.archive_report.proofs.findings.write_rest.Goals as goal

pub returns-in_err-write_end-clause-halted : goal.returns-in_err-write_end-clause-halted
returns-in_err-write_end-clause-halted g c =
    let tally = c.args.tally.now in
    let why = c.in_err-write_end.field-0.0 in
    rw (stops_by c.from_residual-in_err-write_end.result why c.from_residual-in_err-write_end.ensures.1)
    (halts_then (g.K.Sink.outflow c.args.output.now) (g.K.Sink.outflow c.write_findings.new.output) (g.K.Sink.outflow c.write_end.new.output) [] c.write_findings.new.out (findings_text tally.numbers tally.reader.products) (end_text c.args.asked.now tally) why
    (rw c.new-out.ensures at c.in_ok-listed.ensures.told) c.in_err-write_end.ensures.halted)
