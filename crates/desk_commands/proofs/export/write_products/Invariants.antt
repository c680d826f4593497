use Rattle.std.proofs.Common.{◌≡◌}
use Rattle.office_journal.specs.Kept.{state_of}
use Rattle.desk_commands.proofs.Exporting.{Wrote}
use Rattle.desk_commands.proofs.export.write_products.Given as goal

-- this many texts were written
abbrev pub invariant-loop-index : goal.invariant-loop-index
invariant-loop-index g l =
    let sink = g.K.Sink in
    record {
      wrote : Wrote (state_of l.fn.kept) l.index (sink.outflow l.fn.output).taken (sink.outflow l.output).taken;
      steady : (sink.outflow l.output).faults ≡ (sink.outflow l.fn.output).faults;
    }
