use Rattle.std.proofs.Common.{All}
use Rattle.desk_links.specs.LinkMemory.{IsUntouched}
use Rattle.worked_office.proofs.outside.ports.lists_of.Given as goal

abbrev pub invariant-loop-list : goal.invariant-loop-list
invariant-loop-list l = record {
  can : (goal.iterator-loop-list).can_next l.list-iterator;
  ends : (goal.iterator-loop-list).is_finite l.list-iterator;
  untouched : All (λ list. All IsUntouched list) l.lists;
}
