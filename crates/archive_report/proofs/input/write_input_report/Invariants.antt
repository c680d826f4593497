use Rattle.std.proofs.Common.{◌≡◌, ◌+◌, ◌-◌}
use Rattle.byte_streams.specs.Flows.{streams}
use Rattle.archive_report.proofs.Reading.{Ran}
use Rattle.archive_report.proofs.input.write_input_report.Given as goal

-- what was read was told, as far as its products are finished, and the counts are as before
abbrev pub invariant-loop-feed : goal.invariant-loop-feed
invariant-loop-feed g l =
    let source = g.S.Source in
    let sink = g.K.Sink in
    record {
      ran : Ran l.asked l.limit l.tally (streams (source.inflow l.fn.input) (sink.outflow l.fn.output)) (streams (source.inflow l.input) (sink.outflow l.output)) l.feed l.pieces;
      read_steady : (source.inflow l.input).faults ≡ (source.inflow l.fn.input).faults;
      write_steady : (sink.outflow l.output).faults ≡ (sink.outflow l.fn.output).faults;
    }

-- each piece but the last is of a byte or more that was read
abbrev pub decreases-loop-feed : goal.decreases-loop-feed
decreases-loop-feed g l = l.limit + 1 - l.pieces.total
