use Rattle.std.proofs.Common.{All}
use Rattle.desk_links.specs.LinkMemory.{IsUntouched}
use Rattle.worked_serve.proofs.serve.ports.links_of.Given as goal

abbrev pub invariant-loop-bytes : goal.invariant-loop-bytes
invariant-loop-bytes l = record {
  untouched : All IsUntouched l.links;
}
