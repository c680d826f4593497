use Rattle.std.proofs.Common.{◌≡◌, ◌≤◌, drop, [], None}
use Rattle.ugc_codes.specs.Written.{lay}
use Rattle.ugc_codes.proofs.write.write.Given as goal

-- what the groups that are left add makes the text whole
abbrev pub invariant-loop-span : goal.invariant-loop-span
invariant-loop-span l = record {
  column : l.column ≤ 66;
  whole : lay l.text l.column l.before (drop l.span-index l.span-items) l.expiry ≡ lay [] 0 None l.span-items l.expiry;
}
