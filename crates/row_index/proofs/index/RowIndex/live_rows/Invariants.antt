-- the live rows of the events that are left come over those so far as those of all do over none
use Rattle.std.specs.Map.{values_of}
use Rattle.row_index.specs.Seating.{AreSeated}
use Rattle.row_index.proofs.Gathering.{AreOnTheWay}
use Rattle.row_index.proofs.index.RowIndex.live_rows.Given as goal

abbrev pub invariant-loop-event : goal.invariant-loop-event
invariant-loop-event l = record {
  way : AreOnTheWay l.self l.t l.zones.keys l.event-iterator l.events.keys (values_of l.higher.entries);
  seated : AreSeated l.higher.entries;
}
