-- the zones that are left decide as all do
use Rattle.std.proofs.Common.{◌≡◌, drop, find}
use Rattle.county_notices.specs.Commands.{is_public}
use Rattle.county_notices.proofs.rules.first_public.Given as goal

abbrev pub invariant-loop-zone : goal.invariant-loop-zone
invariant-loop-zone l = find is_public (drop l.zone-index l.zones) ≡ find is_public l.zones
