-- the zones that are left decide as all do
use Rattle.std.proofs.Common.{◌≡◌, drop, find}
use Rattle.county_notices.specs.Commands.{was_left}
use Rattle.county_notices.proofs.rules.first_left.Given as goal

abbrev pub invariant-loop-zone : goal.invariant-loop-zone
invariant-loop-zone l = find (was_left l.board.rows l.t l.event) (drop l.zone-index l.zones) ≡ find (was_left l.board.rows l.t l.event) l.zones
