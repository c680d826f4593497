use Rattle.std.proofs.Common.{◌≡◌, take, flat_map}
use Rattle.archive_report.specs.Pieces.{Pages}
use Rattle.archive_report.proofs.entries.write_entries.Given as goal

-- the lines so far were told, and the count is as before
abbrev pub invariant-loop-entry : goal.invariant-loop-entry
invariant-loop-entry g l = record {
  pages : Pages (g.K.Sink.outflow l.fn.output) (g.K.Sink.outflow l.output) l.fn.out l.out (flat_map g.E.Entry.line (take l.entry-index l.entries));
  steady : (g.K.Sink.outflow l.output).faults ≡ (g.K.Sink.outflow l.fn.output).faults;
}
