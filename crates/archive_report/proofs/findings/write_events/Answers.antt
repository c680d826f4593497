use Rattle.std.proofs.Common.{◌∙◌, refl}
use Rattle.archive_report.specs.Report.{lives_text}
use Rattle.archive_report.proofs.Paging.{pages_none, part_next, part_halts}
use Rattle.program_ends.proofs.Piecewise.{stops_by}
use Rattle.archive_report.proofs.findings.write_events.Goals as goal

pub loop-event-init : goal.loop-event-init
loop-event-init g c = record { pages = pages_none (g.K.Sink.outflow c.args.output.now) c.args.out.now; steady = refl }

pub loop-event-preserved : goal.loop-event-preserved
loop-event-preserved g c =
    record {
      pages = part_next lives_text c.args.events.now c.loop-event.event-index (g.K.Sink.outflow c.args.output.now) (g.K.Sink.outflow c.loop-event.output) c.args.out.now c.loop-event.out c.loop-event.invariant.pages
          c.event-item.result c.write_event.new.out (g.K.Sink.outflow c.write_event.new.output) c.loop-event-test.true c.event-item.is c.in_ok-write_event.ensures.told;
      steady = c.in_ok-write_event.ensures.cause.steady (λ e. absurd (cc)) ∙ c.loop-event.invariant.steady;
    }

pub returns-in_err-write_event-clause-halted : goal.returns-in_err-write_event-clause-halted
returns-in_err-write_event-clause-halted g c =
    rw (stops_by c.from_residual.result c.in_err-write_event.field-0.0 c.from_residual.ensures.1)
    (part_halts lives_text c.args.events.now c.loop-event.event-index (g.K.Sink.outflow c.args.output.now) (g.K.Sink.outflow c.loop-event.output) c.args.out.now c.loop-event.out c.loop-event.invariant.pages
    c.event-item.result (g.K.Sink.outflow c.write_event.new.output) c.in_err-write_event.field-0.0 c.loop-event-test.true c.event-item.is c.in_err-write_event.ensures.halted)
