-- the parts so far are written
use Rattle.std.proofs.Common.{◌≡◌, take}
use Rattle.row_index.specs.Verdicts.{lines_in}
use Rattle.row_index.proofs.verdicts.lines_in.Given as goal

abbrev pub invariant-loop-part : goal.invariant-loop-part
invariant-loop-part l = l.out.items ≡ lines_in (take l.part-index l.parts)
