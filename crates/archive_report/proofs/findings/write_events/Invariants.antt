use Rattle.std.proofs.Common.{◌≡◌, take, flat_map}
use Rattle.archive_report.specs.Pieces.{Pages}
use Rattle.archive_report.specs.Report.{lives_text}
use Rattle.archive_report.proofs.findings.write_events.Given as goal

-- the lives of the events so far were told, and the count is as before
abbrev pub invariant-loop-event : goal.invariant-loop-event
invariant-loop-event g l = record {
  pages : Pages (g.K.Sink.outflow l.fn.output) (g.K.Sink.outflow l.output) l.fn.out l.out (flat_map lives_text (take l.event-index l.events));
  steady : (g.K.Sink.outflow l.output).faults ≡ (g.K.Sink.outflow l.fn.output).faults;
}
