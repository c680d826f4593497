use Rattle.std.proofs.Common.{All, ◌≤◌}
use Rattle.desk_links.specs.LinkMemory.{IsUntouched}
use Rattle.worked_serve.proofs.follow.runs.links_of.Given as goal

abbrev pub invariant-loop-shape : goal.invariant-loop-shape
invariant-loop-shape l = record {
  some : 1 ≤ l.piece;
  untouched : All IsUntouched l.links;
}
