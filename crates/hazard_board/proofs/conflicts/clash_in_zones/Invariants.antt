-- the clash is the first in the zones so far, which are those seen
use Rattle.std.proofs.Common.{◌≡◌, take}
use Rattle.std.specs.BTreeMap.{is_at}
use Rattle.std.specs.List.{list_any}
use Rattle.hazard_types.specs.Places.{Place, by_place}
use Rattle.hazard_board.specs.Taken.{rows_taken}
use Rattle.hazard_board.proofs.SliceLemmas.{names_zone}
use Rattle.hazard_board.proofs.ZoneClashes.{IsFirstIn}
use Rattle.hazard_board.proofs.conflicts.clash_in_zones.Given as goal

abbrev pub invariant-loop-line : goal.invariant-loop-line
invariant-loop-line l =
    IsFirstIn l.t (rows_taken l.rows.rows l.t l.lines) (take l.line-index l.lines) l.best
    × ((z : Place) → list_any (is_at (by_place z)) l.seen.keys ≡ names_zone z (take l.line-index l.lines))
