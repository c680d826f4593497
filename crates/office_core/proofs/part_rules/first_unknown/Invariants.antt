-- the zones that are left decide as all do
use Rattle.std.proofs.Common.{◌≡◌, drop, find}
use Rattle.office_core.specs.Rules.{is_unknown_zone}
use Rattle.office_core.proofs.part_rules.first_unknown.Given as goal

abbrev pub invariant-loop-zone : goal.invariant-loop-zone
invariant-loop-zone l = find (is_unknown_zone l.settings) (drop l.zone-index l.zones) ≡ find (is_unknown_zone l.settings) l.zones
