-- what is left follows
use Rattle.std.proofs.Common.{◌≡◌, ◌++◌, drop}
use Rattle.county_notices.specs.Lines.{lines_in_zones}
use Rattle.county_notices.proofs.lines.lines_in_zones.Given as goal

abbrev pub invariant-loop-zone : goal.invariant-loop-zone
invariant-loop-zone l =
    lines_in_zones l.board.rows l.command.at l.event l.command.deed l.command.zones
    ≡ l.lines ++ lines_in_zones l.board.rows l.command.at l.event l.command.deed (drop l.zone-index l.command.zones)
