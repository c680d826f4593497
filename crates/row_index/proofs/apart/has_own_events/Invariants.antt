-- the lines so far are of an event each, and those are their events
use Rattle.std.proofs.Common.{take}
use Rattle.row_index.specs.Apart.{AreEventsOf}
use Rattle.row_index.specs.Verdicts.{HaveOwnEvents}
use Rattle.row_index.proofs.apart.has_own_events.Given as goal

abbrev pub invariant-loop-line : goal.invariant-loop-line
invariant-loop-line l = record {
  events : AreEventsOf l.events.keys (take l.line-index l.lines);
  own : HaveOwnEvents (take l.line-index l.lines);
}
