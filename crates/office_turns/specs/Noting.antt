-- What is noted of an answer.
use Rattle.std.specs.Prelude.{◌≡◌, ◌++◌, List, [], ◌∷◌, Option, Some}
use Rattle.std.specs.declared.snapshot.Snapshot.{Snapshot}
use Rattle.office_core.specs.Prepared.{Readied}
use Rattle.office_journal.specs.declared.answers.Answer.{Answer}
use Rattle.office_journal.specs.declared.answers.Answer.TheVariants.{Accepted, Repeated, Refused, DiskFault, OutOfMemory}
use Rattle.office_journal.specs.declared.kept.KeptOffice.{KeptOffice}
use Rattle.office_turns.specs.declared.happening.Happening.{Happening}
use Rattle.office_turns.specs.declared.happening.Happening.TheVariants.{Entry, Fault}

-- an entry for an answer that accepts, with the office of now; a fault for a disk fault; nothing for each other one
module _ {D : Type 0} {d : _} where
  abbrev pub Notes : Answer → Option (Snapshot Readied) → KeptOffice D d → List (Happening D d) → List (Happening D d) → Type 0
  Notes (Accepted text) told kept old new = (p : Snapshot Readied) → told ≡ Some p → (then : Snapshot (KeptOffice D d)) × (then.value ≡ kept) × (new ≡ old ++ Entry p then ∷ [])
  Notes (Repeated text) told kept old new = new ≡ old
  Notes (Refused broken) told kept old new = new ≡ old
  Notes DiskFault told kept old new = (p : Snapshot Readied) → told ≡ Some p → new ≡ old ++ Fault p ∷ []
  Notes OutOfMemory told kept old new = new ≡ old
