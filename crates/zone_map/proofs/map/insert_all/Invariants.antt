-- those so far are in the tree
use Rattle.std.proofs.Common.{◌≡◌, take}
use Rattle.zone_map.proofs.map.insert_all.Given as goal

abbrev pub invariant-loop-entry : goal.invariant-loop-entry
invariant-loop-entry g l = l.others.entries ≡ take l.entry-index l.list
