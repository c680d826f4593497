-- the seats so far are those of the lines so far
use Rattle.std.proofs.Common.{take}
use Rattle.row_index.specs.Seating.{key_of_line, upgrades}
use Rattle.row_index.specs.Telling.{Tells}
use Rattle.row_index.proofs.higher.upgraded_by.Given as goal

abbrev pub invariant-loop-line : goal.invariant-loop-line
invariant-loop-line l = Tells upgrades key_of_line l.seats.keys (take l.line-index l.lines)
