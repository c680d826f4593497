-- with the lines that are left, the lines of the zones become those of all
use Rattle.std.proofs.Common.{◌≡◌, [], drop}
use Rattle.hazard_board.specs.ByZone.{add_to_zones}
use Rattle.hazard_board.proofs.by_zone.lines_by_zone.Given as goal

abbrev pub invariant-loop-line : goal.invariant-loop-line
invariant-loop-line l = add_to_zones l.zones.entries (drop l.line-index l.lines) ≡ add_to_zones [] l.lines
