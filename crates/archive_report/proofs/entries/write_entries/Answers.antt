use Rattle.std.proofs.Common.{◌∙◌, refl}
use Rattle.program_ends.specs.declared.reading.Stop.TheVariants as stop
use Rattle.archive_report.proofs.Paging.{pages_none, line_next, line_lacks, line_halts}
use Rattle.program_ends.proofs.Piecewise.{stops_by}
use Rattle.archive_report.proofs.entries.write_entries.Goals as goal

pub loop-entry-init : goal.loop-entry-init
loop-entry-init g c = record { pages = pages_none (g.K.Sink.outflow c.args.output.now) c.args.out.now; steady = refl }

pub loop-entry-preserved : goal.loop-entry-preserved
loop-entry-preserved g c =
    record {
      pages = line_next g.E.Entry.line c.args.entries.now c.loop-entry.entry-index (g.K.Sink.outflow c.args.output.now) (g.K.Sink.outflow c.loop-entry.output) c.args.out.now c.loop-entry.out c.loop-entry.invariant.pages
          c.entry-item.result c.put.new.out c.flush_if_full.new.out (g.K.Sink.outflow c.flush_if_full.new.output) c.loop-entry-test.true c.entry-item.is c.in_ok-put.ensures c.in_ok-flush_if_full.ensures.told;
      steady = c.in_ok-flush_if_full.ensures.cause.steady (λ e. absurd (cc)) ∙ c.loop-entry.invariant.steady;
    }

pub returns-in_err-put-clause-halted : goal.returns-in_err-put-clause-halted
returns-in_err-put-clause-halted g c =
    rw (stops_by c.from_residual.result stop.OutOfMemory c.from_residual.ensures.1)
    (line_lacks g.E.Entry.line c.args.entries.now c.loop-entry.entry-index (g.K.Sink.outflow c.args.output.now) (g.K.Sink.outflow c.loop-entry.output) c.args.out.now c.loop-entry.out c.loop-entry.invariant.pages)

pub returns-in_err-flush_if_full-clause-halted : goal.returns-in_err-flush_if_full-clause-halted
returns-in_err-flush_if_full-clause-halted g c =
    rw (stops_by c.from_residual-in_err-flush_if_full.result c.in_err-flush_if_full.field-0.0 c.from_residual-in_err-flush_if_full.ensures.1)
    (line_halts g.E.Entry.line c.args.entries.now c.loop-entry.entry-index (g.K.Sink.outflow c.args.output.now) (g.K.Sink.outflow c.loop-entry.output) c.args.out.now c.loop-entry.out c.loop-entry.invariant.pages
    c.entry-item.result c.put.new.out (g.K.Sink.outflow c.flush_if_full.new.output) c.in_err-flush_if_full.field-0.0 c.loop-entry-test.true c.entry-item.is c.in_ok-put.ensures c.in_err-flush_if_full.ensures.halted)
