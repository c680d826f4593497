use Rattle.std.proofs.Common.{◌≡◌, take}
use Rattle.ugc_codes.proofs.zone_set.insert_all.Given as goal

-- those so far are in the set
abbrev pub invariant-loop-zone : goal.invariant-loop-zone
invariant-loop-zone l = l.mixed.keys ≡ take l.zone-index l.zones
