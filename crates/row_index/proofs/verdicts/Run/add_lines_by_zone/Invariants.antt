-- the zones so far are written
use Rattle.std.proofs.Common.{◌≡◌, ◌++◌, take, flat_map}
use Rattle.row_index.specs.Verdicts.{expand_at}
use Rattle.row_index.proofs.verdicts.Run.add_lines_by_zone.Given as goal

abbrev pub invariant-loop-zone : goal.invariant-loop-zone
invariant-loop-zone l = l.out.items ≡ l.fn.out.items ++ flat_map (expand_at l.self.verdicts) (take l.zone-index l.zone-items)
