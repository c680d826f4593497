-- the zones so far are written
use Rattle.std.proofs.Common.{◌≡◌, ◌++◌, take}
use Rattle.row_index.specs.Verdicts.{said_along}
use Rattle.row_index.proofs.verdicts.add_part.Given as goal

abbrev pub invariant-loop-zone : goal.invariant-loop-zone
invariant-loop-zone l = l.out.items ≡ l.fn.out.items ++ said_along l.part.lines (take l.zone-index l.part.zones.now)
