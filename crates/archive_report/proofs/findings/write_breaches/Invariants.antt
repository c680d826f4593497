use Rattle.std.proofs.Common.{◌≡◌, take, flat_map}
use Rattle.archive_report.specs.Pieces.{Pages}
use Rattle.archive_report.specs.Report.{breach_line}
use Rattle.archive_report.proofs.findings.write_breaches.Given as goal

-- the lines so far were told, and the count is as before
abbrev pub invariant-loop-found : goal.invariant-loop-found
invariant-loop-found g l = record {
  pages : Pages (g.K.Sink.outflow l.fn.output) (g.K.Sink.outflow l.output) l.fn.out l.out (flat_map (breach_line l.numbers) (take l.found-index l.breaches));
  steady : (g.K.Sink.outflow l.output).faults ≡ (g.K.Sink.outflow l.fn.output).faults;
}
