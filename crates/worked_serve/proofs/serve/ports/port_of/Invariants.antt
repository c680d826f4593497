use Rattle.std.proofs.Common.{All}
use Rattle.desk_links.specs.LinkMemory.{IsUntouched}
use Rattle.worked_serve.proofs.serve.ports.port_of.Given as goal

abbrev pub invariant-loop-door : goal.invariant-loop-door
invariant-loop-door l = record {
  untouched : All (λ list. All IsUntouched list) l.links;
}
