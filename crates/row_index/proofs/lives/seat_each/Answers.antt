-- One zone more comes to the life.
use Rattle.std.proofs.Common.{◌+◌}
use Rattle.std.specs.Prelude.{option_map}
use Rattle.row_index.specs.Sharing.{life_at}
use Rattle.row_index.specs.Tallies.{one_of, owed, times}
use Rattle.row_index.proofs.Coming.{seat-shared, seat-told, seat-tallied}
use Rattle.row_index.proofs.SharedRows.{there-found}
use Rattle.row_index.proofs.lives.seat_each.Goals as goal

pub count_zone-requires-clause-place : goal.count_zone-requires-clause-place
count_zone-requires-clause-place c = there-found c.args.lives.now c.loop-zone.seats c.zone-item.result c.set.new.before c.loop-zone.invariant.shared c.in_ok-set.ensures.before

pub loop-zone-preserved : goal.loop-zone-preserved
loop-zone-preserved c =
    let lives = c.args.lives.now in
    let seats = c.loop-zone.seats in
    let zone = c.zone-item.result in
    let i = c.loop-zone.zone-index in
    record {
      told = seat-told lives c.args.place c.requires.place c.args.zones.now i zone seats c.set.new.self _ c.loop-zone-test.true c.zone-item.is c.in_ok-set.ensures.set c.loop-zone.invariant.shared c.loop-zone.invariant.told;
      shared = seat-shared lives c.args.place c.requires.place zone seats c.set.new.self c.in_ok-set.ensures.set c.loop-zone.invariant.shared;
      last = c.in_ok-count_zone.ensures.last;
      tallied = λ p. seat-tallied lives c.args.place c.requires.place p i zone seats c.set.new.self c.set.new.before
          (owed p c.loop-zone.befores.items + times c.loop-zone.count (one_of p (option_map (life_at lives) c.loop-zone.last)))
          (owed p c.count_zone.new.befores.items + times c.count_zone.new.count (one_of p (option_map (life_at lives) c.count_zone.new.last)))
          _ c.in_ok-set.ensures.set c.loop-zone.invariant.shared c.in_ok-set.ensures.before (c.in_ok-count_zone.ensures.counted p) (c.loop-zone.invariant.tallied p);
    }
