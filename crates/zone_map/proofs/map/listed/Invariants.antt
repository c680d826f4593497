-- those so far are in the list, and the others are left
use Rattle.std.proofs.Common.{◌≡◌, ◌++◌}
use Rattle.zone_map.proofs.map.listed.Given as goal

abbrev pub invariant-loop-zone : goal.invariant-loop-zone
invariant-loop-zone g l = l.list.items ++ l.zone-iterator ≡ l.others.entries
