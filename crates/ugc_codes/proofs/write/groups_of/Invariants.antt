use Rattle.std.proofs.Common.{ℕ, ◌<◌, ◌≡◌, ◌≤◌, ◌++◌, drop}
use Rattle.std.specs.Prelude.{slice_index_or}
use Rattle.std.specs.List.{All}
use Rattle.hazard_types.specs.Places.{Place, IsPlace}
use Rattle.ugc_codes.specs.Written.{groups_from, EndsBelow}
use Rattle.ugc_codes.proofs.write.groups_of.Given as goal

-- the groups so far, and those of the zones that are left
abbrev pub invariant-loop-zone : goal.invariant-loop-zone
invariant-loop-zone l = record {
  range : l.span.last ≤ 999;
  ends : All EndsBelow l.list;
  places : (k : ℕ) (d : Place) → k < l.zone-index → IsPlace (slice_index_or l.zone-items k d);
  whole : l.list ++ groups_from l.span (drop l.zone-index l.zone-items) ≡ groups_from l.initial.span l.zone-items;
}
