-- What contracts see of a journal.
use Rattle.std.specs.Prelude.{ℕ, List, Option}
use Rattle.desk_traits.specs.Crash.{Crashes}
use Rattle.journal_core.specs.Journal.{StandsFor}
use Rattle.journal_core.specs.declared.journal.Journal.{Journal}

-- the disk that holds its file
abbrev pub disk_of : {D : Type 0} {d : _} → Journal D d → D
disk_of journal = journal.disk

-- the place of its last gate
abbrev pub gate_of : {D : Type 0} {d : _} → Journal D d → ℕ
gate_of journal = journal.gate

-- its bodies, and the one that may stand behind an open gate since a fault
abbrev pub Keeps : {D : Type 0} {d : _} → (D → Option (List ℕ)) → (D → Crashes) → Journal D d → List (List ℕ) → Option (List ℕ) → Type 0
Keeps seen crash journal bodies pending = StandsFor seen crash journal.disk journal.gate journal.unsure bodies pending
