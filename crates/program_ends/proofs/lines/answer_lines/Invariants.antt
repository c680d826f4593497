use Rattle.std.proofs.Common.{◌≡◌, ◌+◌, ◌-◌}
use Rattle.byte_streams.specs.Flows.{streams}
use Rattle.program_ends.proofs.Running.{Ran}
use Rattle.program_ends.proofs.lines.answer_lines.Given as goal

-- what was read was answered, as far as its lines end, and the counts are as before
abbrev pub invariant-loop-line : goal.invariant-loop-line
invariant-loop-line g l =
    let source = g.S.Source in
    let sink = g.K.Sink in
    record {
      ran : Ran g.A.Answers.answers l.limit l.fn.answers l.answers (streams (source.inflow l.fn.input) (sink.outflow l.fn.output)) (streams (source.inflow l.input) (sink.outflow l.output)) l.line l.pieces;
      read_steady : (source.inflow l.input).faults ≡ (source.inflow l.fn.input).faults;
      write_steady : (sink.outflow l.output).faults ≡ (sink.outflow l.fn.output).faults;
    }

-- each piece but the last is of a byte or more that was read
abbrev pub decreases-loop-line : goal.decreases-loop-line
decreases-loop-line g l = l.limit + 1 - l.pieces.total
