-- the zones that are left come to the life as all of them do, each zone names a life, and those so far are counted
use Rattle.std.proofs.Common.{◌≡◌, ◌+◌, Bool, drop}
use Rattle.std.specs.Prelude.{option_map}
use Rattle.std.specs.Map.{values_of}
use Rattle.event_life.specs.declared.life.Life.{Life}
use Rattle.row_index.specs.Sharing.{life_at, lives_put, lives_told, AreShared, IsThere}
use Rattle.row_index.specs.Tallies.{one, one_of, owed, tally, times}
use Rattle.row_index.proofs.lives.seat_each.Given as goal

abbrev pub invariant-loop-zone : goal.invariant-loop-zone
invariant-loop-zone l = record {
  told : lives_put (life_at l.lives l.place) (drop l.zone-index l.zones) (lives_told l.lives l.seats) ≡ lives_put (life_at l.lives l.place) l.zones (lives_told l.lives l.initial.seats);
  shared : AreShared l.lives l.seats;
  last : IsThere l.lives l.last;
  tallied : (p : Life → Bool) → tally p (values_of (lives_told l.lives l.seats)) + (owed p l.befores.items + times l.count (one_of p (option_map (life_at l.lives) l.last)))
      ≡ tally p (values_of (lives_told l.lives l.initial.seats)) + times l.zone-index (one (p (life_at l.lives l.place)));
}
