-- one of the parts that are left has such a line where one of all has
use Rattle.std.proofs.Common.{◌≡◌, drop}
use Rattle.std.specs.List.{list_any}
use Rattle.row_index.specs.Groups.{has_upgrade}
use Rattle.row_index.proofs.judging.upgrade_in.Given as goal

abbrev pub invariant-loop-part : goal.invariant-loop-part
invariant-loop-part l = list_any has_upgrade (drop l.part-index l.parts) ≡ list_any has_upgrade l.parts
