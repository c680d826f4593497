-- the rows from this place on are at their seats
use Rattle.std.proofs.Common.{◌≡◌, [], drop}
use Rattle.std.specs.Map.{values_of}
use Rattle.row_index.specs.Holding.{puts}
use Rattle.row_index.specs.Seating.{AreSeated}
use Rattle.row_index.proofs.held.seated.Given as goal

abbrev pub invariant-loop-place : goal.invariant-loop-place
invariant-loop-place l = record {
  rows : values_of l.seated.entries ≡ puts (drop l.place l.rows) [];
  seats : AreSeated l.seated.entries;
}
