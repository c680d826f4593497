-- One event more: its gap is found by the last numbers, and it is the last of its hazard and year.
use Rattle.std.proofs.Common.{[]}
use Rattle.event_life.specs.Openings.{gaps_from}
use Rattle.event_life.proofs.LastsLemmas.{noted_at, found_at}
use Rattle.event_life.proofs.openings.gaps.Goals as goal

pub loop-event-preserved : goal.loop-event-preserved
loop-event-preserved c = (
  found_at c.loop-event.found.items c.add_gap.new.found.items c.loop-event.lasts.entries c.args.opened.now c.loop-event.event-index c.event-item.result (gaps_from [] c.args.opened.now) c.loop-event-test.true c.event-item.is c.loop-event.invariant.1 c.in_ok-add_gap.ensures c.loop-event.invariant.0,
  noted_at c.loop-event.lasts.entries c.set_last_number.new.lasts.entries c.args.opened.now c.loop-event.event-index c.event-item.result c.loop-event-test.true c.event-item.is c.in_ok-set_last_number.ensures c.loop-event.invariant.1,
)
