-- the lines of each part so far are of an event each
use Rattle.std.proofs.Common.{take}
use Rattle.std.specs.List.{AllByRecursion}
use Rattle.row_index.specs.Verdicts.{HaveOwnEvents}
use Rattle.row_index.specs.declared.verdicts.Part.{Part}
use Rattle.row_index.proofs.apart.have_own_events.Given as goal

abbrev pub invariant-loop-part : goal.invariant-loop-part
invariant-loop-part l = AllByRecursion (λ (p : Part). HaveOwnEvents p.lines) (take l.part-index l.parts)
