-- the zones that are left decide as all do
use Rattle.std.proofs.Common.{◌≡◌, drop, find}
use Rattle.county_notices.specs.Commands.{is_gone}
use Rattle.county_notices.proofs.rules.first_gone.Given as goal

abbrev pub invariant-loop-zone : goal.invariant-loop-zone
invariant-loop-zone l = find (is_gone l.board.rows l.t l.event) (drop l.zone-index l.zones) ≡ find (is_gone l.board.rows l.t l.event) l.zones
