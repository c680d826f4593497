-- each event draws one number of its hazard and year
use Rattle.std.proofs.Common.{arith}
use Rattle.event_numbers.proofs.DrawLemmas.{drawn_more, number_fits}
use Rattle.event_numbers.proofs.Numbers.draw.Goals as goal

pub commit-requires-clause-number : goal.commit-requires-clause-number
commit-requires-clause-number c =
    let e = c.event-item.result in
    number_fits c.args.self.now.counts c.loop-event.self.counts e c.args.events.now c.loop-event.event-index c.loop-event-test.true c.event-item.is c.requires.numbers (c.loop-event.invariant.drawn e.hazard e.year)

pub loop-event-preserved : goal.loop-event-preserved
loop-event-preserved c =
    record {
      drawn = λ h year. drawn_more h year c.args.self.now.counts c.loop-event.self.counts c.commit.new.self.counts c.event-item.result c.args.events.now c.loop-event.event-index c.loop-event-test.true c.event-item.is (c.loop-event.invariant.drawn h year) (c.commit.ensures.drawn h year);
      spare = omega (arith, c.loop-event.invariant.spare, c.commit.ensures.spare);
    }
