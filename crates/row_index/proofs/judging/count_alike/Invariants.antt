-- the zones so far have this life
use Rattle.std.proofs.Common.{◌≡◌, take}
use Rattle.std.specs.List.{AllByRecursion}
use Rattle.row_index.specs.Groups.{IsLifeIn}
use Rattle.row_index.proofs.judging.count_alike.Given as goal

abbrev pub invariant-loop-zone : goal.invariant-loop-zone
invariant-loop-zone l = record {
  count : l.count ≡ l.zone-index;
  alike : AllByRecursion (IsLifeIn l.rows l.event l.found) (take l.zone-index l.zones);
}
