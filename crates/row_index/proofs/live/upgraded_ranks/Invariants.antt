-- the ranks so far are those of the UPG lines so far
use Rattle.std.proofs.Common.{take}
use Rattle.row_index.specs.Gathering.{rank_of_line}
use Rattle.row_index.specs.Seating.{upgrades}
use Rattle.row_index.specs.Telling.{Tells}
use Rattle.row_index.proofs.live.upgraded_ranks.Given as goal

abbrev pub invariant-loop-line : goal.invariant-loop-line
invariant-loop-line l = Tells upgrades rank_of_line l.ranks.items (take l.line-index l.lines)
