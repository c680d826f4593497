-- the numbers so far are those of the events so far, and there is memory for the others
use Rattle.std.proofs.Common.{◌+◌, ◌≤◌, take}
use Rattle.event_numbers.specs.Counts.{DrawsAll}
use Rattle.event_numbers.proofs.Numbers.draw.Given as goal

abbrev pub invariant-loop-event : goal.invariant-loop-event
invariant-loop-event l = record {
  drawn : DrawsAll l.fn.self.counts l.self.counts (take l.event-index l.events);
  spare : l.fn.self.spare ≤ l.self.spare + l.event-index;
}
