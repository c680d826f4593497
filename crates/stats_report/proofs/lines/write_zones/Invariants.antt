use Rattle.std.proofs.Common.{◌≡◌, ◌++◌, drop}
use Rattle.std.specs.List.{flat_map}
use Rattle.std.specs.Map.{keys_of}
use Rattle.stats_report.specs.Spells.{kept_of}
use Rattle.stats_report.specs.Told.{zone_told}
use Rattle.stats_report.proofs.lines.write_zones.Given as goal

-- the lines so far, with those of the zones that are left, are all
abbrev pub invariant-loop-entry : goal.invariant-loop-entry
invariant-loop-entry l = l.out ++ flat_map (zone_told (kept_of l.standing)) (keys_of (drop l.entry-index l.zones)) ≡ l.fn.out ++ flat_map (zone_told (kept_of l.standing)) (keys_of l.zones)
