use Rattle.std.proofs.Common.{◌+◌, cond, length}
use Rattle.stats_report.proofs.Taking.{Looped}
use Rattle.stats_report.proofs.input.take_each.Given as goal

-- the products so far came out and were counted
abbrev pub invariant-loop-more : goal.invariant-loop-more
invariant-loop-more l = record {
  looped : Looped l.asked l.fn.feed l.feed l.fn.tally l.tally l.more;
}

abbrev pub decreases-loop-more : goal.decreases-loop-more
decreases-loop-more l = cond l.more (length l.feed.rest + 1) 0
