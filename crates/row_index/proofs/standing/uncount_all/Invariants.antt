-- what is left is taken out as all of it is
use Rattle.std.proofs.Common.{◌≡◌, drop}
use Rattle.row_index.specs.Standings.{all_less}
use Rattle.row_index.proofs.standing.uncount_all.Given as goal

abbrev pub invariant-loop-before : goal.invariant-loop-before
invariant-loop-before l = all_less (drop l.before-index l.befores) l.standings.entries ≡ all_less l.befores l.initial.standings.entries
