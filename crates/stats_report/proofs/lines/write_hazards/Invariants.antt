use Rattle.std.proofs.Common.{◌≡◌, ◌++◌}
use Rattle.std.specs.List.{flat_map}
use Rattle.std.specs.Map.{keys_of}
use Rattle.stats_report.specs.Spells.{kept_of}
use Rattle.stats_report.specs.Told.{hazard_told}
use Rattle.stats_report.proofs.lines.write_hazards.Given as goal

-- the lines so far, with those of the hazards that are left, are all
abbrev pub invariant-loop-hazard : goal.invariant-loop-hazard
invariant-loop-hazard l = l.out ++ flat_map (hazard_told l.events.entries (kept_of l.standing)) l.hazard-iterator ≡ l.fn.out ++ flat_map (hazard_told l.events.entries (kept_of l.standing)) (keys_of l.standing.hazards.entries)
