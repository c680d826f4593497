use Rattle.std.proofs.Common.{◌≡◌, take, flat_map}
use Rattle.archive_report.specs.Pieces.{Pages}
use Rattle.archive_report.specs.Report.{life_line}
use Rattle.archive_report.proofs.findings.write_event.Given as goal

-- the lives so far were told, and the count is as before
abbrev pub invariant-loop-life : goal.invariant-loop-life
invariant-loop-life g l = record {
  pages : Pages (g.K.Sink.outflow l.fn.output) (g.K.Sink.outflow l.output) l.fn.out l.out (flat_map life_line (take l.life-index l.life-items));
  steady : (g.K.Sink.outflow l.output).faults ≡ (g.K.Sink.outflow l.fn.output).faults;
}
