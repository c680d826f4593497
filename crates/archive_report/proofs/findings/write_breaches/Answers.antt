use Rattle.std.proofs.Common.{◌∙◌}
use Rattle.program_ends.specs.declared.reading.Stop.TheVariants as stop
use Rattle.archive_report.specs.Report.{breach_line}
use Rattle.archive_report.proofs.Paging.{line_next, line_lacks, line_halts}
use Rattle.program_ends.proofs.Piecewise.{stops_by}
use Rattle.archive_report.proofs.findings.write_breaches.Goals as goal

pub loop-found-preserved : goal.loop-found-preserved
loop-found-preserved g c =
    record {
      pages = line_next (breach_line c.args.numbers.now) c.args.breaches.now c.loop-found.found-index (g.K.Sink.outflow c.args.output.now) (g.K.Sink.outflow c.loop-found.output) c.args.out.now c.loop-found.out c.loop-found.invariant.pages
          c.found-item.result c.write_breach.new.out c.flush_if_full.new.out (g.K.Sink.outflow c.flush_if_full.new.output) c.loop-found-test.true c.found-item.is c.in_ok-write_breach.ensures c.in_ok-flush_if_full.ensures.told;
      steady = c.in_ok-flush_if_full.ensures.cause.steady (λ e. absurd (cc)) ∙ c.loop-found.invariant.steady;
    }

pub returns-in_err-write_breach-clause-halted : goal.returns-in_err-write_breach-clause-halted
returns-in_err-write_breach-clause-halted g c =
    rw (stops_by c.from_residual.result stop.OutOfMemory c.from_residual.ensures.1)
    (line_lacks (breach_line c.args.numbers.now) c.args.breaches.now c.loop-found.found-index (g.K.Sink.outflow c.args.output.now) (g.K.Sink.outflow c.loop-found.output) c.args.out.now c.loop-found.out c.loop-found.invariant.pages)

pub returns-in_err-flush_if_full-clause-halted : goal.returns-in_err-flush_if_full-clause-halted
returns-in_err-flush_if_full-clause-halted g c =
    rw (stops_by c.from_residual-in_err-flush_if_full.result c.in_err-flush_if_full.field-0.0 c.from_residual-in_err-flush_if_full.ensures.1)
    (line_halts (breach_line c.args.numbers.now) c.args.breaches.now c.loop-found.found-index (g.K.Sink.outflow c.args.output.now) (g.K.Sink.outflow c.loop-found.output) c.args.out.now c.loop-found.out c.loop-found.invariant.pages
    c.found-item.result c.write_breach.new.out (g.K.Sink.outflow c.flush_if_full.new.output) c.in_err-flush_if_full.field-0.0 c.loop-found-test.true c.found-item.is c.in_ok-write_breach.ensures c.in_err-flush_if_full.ensures.halted)
