-- the rows of the zones that are left come over those so far as those of all zones do over those before
use Rattle.std.specs.Map.{values_of}
use Rattle.row_index.specs.Gathering.{has_zone}
use Rattle.row_index.specs.Seating.{AreSeated}
use Rattle.row_index.proofs.Gathering.{IsOnTheWay}
use Rattle.row_index.proofs.live.add_rows.Given as goal

abbrev pub invariant-loop-zone : goal.invariant-loop-zone
invariant-loop-zone l = record {
  way : IsOnTheWay l.t l.event (has_zone l.zone-iterator) (has_zone l.zones.keys) l.rows (values_of l.initial.higher.entries) (values_of l.higher.entries);
  seated : AreSeated l.higher.entries;
}
