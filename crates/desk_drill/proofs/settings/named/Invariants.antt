use Rattle.std.proofs.Common.{◌≡◌, ◌++◌, map, drop}
use Rattle.desk_drill.specs.Office.{plain}
use Rattle.desk_drill.proofs.settings.named.Given as goal

-- what is left makes the list whole
abbrev pub invariant-loop-zone : goal.invariant-loop-zone
invariant-loop-zone l = l.named ++ map plain (drop l.zone-index l.zones) ≡ map plain l.zones
