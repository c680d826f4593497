use Rattle.std.proofs.Common.{◌≡◌, ◌+◌, ◌-◌}
use Rattle.stats_report.proofs.Reading.{Ran}
use Rattle.stats_report.proofs.input.count_input.Given as goal

-- what was read was counted, as far as its products are finished, and the count of faults is as before
abbrev pub invariant-loop-feed : goal.invariant-loop-feed
invariant-loop-feed g l =
    let source = g.S.Source in
    record {
      ran : Ran l.asked l.limit l.tally (source.inflow l.fn.input).left (source.inflow l.input).left l.feed l.pieces;
      steady : (source.inflow l.input).faults ≡ (source.inflow l.fn.input).faults;
    }

-- each piece but the last is of a byte or more that was read
abbrev pub decreases-loop-feed : goal.decreases-loop-feed
decreases-loop-feed g l = l.limit + 1 - l.pieces.total
