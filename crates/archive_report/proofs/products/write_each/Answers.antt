use Rattle.std.proofs.Common.{ap, Ok}
use Rattle.archive_report.proofs.Taking.{looped_none, looped_next}
use Rattle.archive_report.proofs.products.write_each.Goals as goal

pub loop-more-init : goal.loop-more-init
loop-more-init c = record { looped = looped_none c.args.asked.now c.args.feed.now c.args.tally.now c.args.out.now c.requires.tally }

pub loop-more-preserved : goal.loop-more-preserved
loop-more-preserved c =
    let each = c.loop-more.invariant.looped.each c.loop-more-test.true in
    record {
      looped = looped_next c.args.asked.now c.args.feed.now c.loop-more.feed c.write_next.new.feed c.args.tally.now c.loop-more.tally c.write_next.new.tally c.args.out.now c.loop-more.out c.write_next.new.out c.in_ok-more.more each
          (λ e. c.in_ok-more.ensures.some (ap Ok e)) (λ e. c.in_ok-more.ensures.none (ap Ok e)) c.write_next.ensures.ended;
    }
