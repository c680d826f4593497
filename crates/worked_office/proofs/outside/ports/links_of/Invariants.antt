use Rattle.std.proofs.Common.{All}
use Rattle.desk_links.specs.LinkMemory.{IsUntouched}
use Rattle.worked_office.proofs.outside.ports.links_of.Given as goal

abbrev pub invariant-loop-word : goal.invariant-loop-word
invariant-loop-word l = record {
  can : (goal.iterator-loop-word).can_next l.word-iterator;
  ends : (goal.iterator-loop-word).is_finite l.word-iterator;
  untouched : All IsUntouched l.links;
}
