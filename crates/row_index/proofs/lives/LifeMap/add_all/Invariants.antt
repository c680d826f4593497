-- those so far are there
use Rattle.std.proofs.Common.{◌≡◌, take}
use Rattle.row_index.specs.Sharing.{lives_of}
use Rattle.row_index.proofs.lives.LifeMap.add_all.Given as goal

abbrev pub invariant-loop-row : goal.invariant-loop-row
invariant-loop-row l = l.self ≡ take l.row-index (lives_of l.rows)
