use Rattle.std.proofs.Common.{◌+◌, cond, length}
use Rattle.archive_report.proofs.Taking.{Looped}
use Rattle.archive_report.proofs.products.write_each.Given as goal

-- the products so far came out and were told
abbrev pub invariant-loop-more : goal.invariant-loop-more
invariant-loop-more l = record {
  looped : Looped l.asked l.fn.feed l.feed l.fn.tally l.tally l.fn.out l.out l.more;
}

abbrev pub decreases-loop-more : goal.decreases-loop-more
decreases-loop-more l = cond l.more (length l.feed.rest + 1) 0
