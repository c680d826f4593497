-- what was found so far is what is found of the parts so far
use Rattle.std.proofs.Common.{take}
use Rattle.row_index.specs.Verdicts.{lines_in}
use Rattle.row_index.proofs.Told.{AreTold}
use Rattle.row_index.proofs.index.RowIndex.judge_apart.Given as goal

abbrev pub invariant-loop-part : goal.invariant-loop-part
invariant-loop-part l = AreTold l.self l.t (lines_in l.parts) (lines_in (take l.part-index l.parts)) l.all.items
