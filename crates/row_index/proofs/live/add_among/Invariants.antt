-- the rows that are left, of those in these zones, come over those so far as all of them do over those before
use Rattle.std.proofs.Common.{drop}
use Rattle.std.specs.Map.{values_of}
use Rattle.row_index.specs.Seating.{AreSeated}
use Rattle.row_index.proofs.Gathering.{IsOnTheWay, is_both}
use Rattle.row_index.proofs.live.add_among.Given as goal

abbrev pub invariant-loop-own : goal.invariant-loop-own
invariant-loop-own l = record {
  way : IsOnTheWay l.t l.event (is_both l.zones.keys (drop l.own-index l.all)) (is_both l.zones.keys l.all) l.rows (values_of l.initial.higher.entries) (values_of l.higher.entries);
  seated : AreSeated l.higher.entries;
}
