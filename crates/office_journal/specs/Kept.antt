-- What contracts see of a kept office.
use Rattle.std.specs.Prelude.{◌≡◌, ℕ, List, Option, length, option_map, IfSome}
use Rattle.desk_traits.specs.Crash.{Crashes}
use Rattle.journal_core.specs.Image.{records}
use Rattle.journal_core.specs.Kept.{Keeps}
use Rattle.journal_core.specs.Kept as journal
use Rattle.office_core.specs.State.{State}
use Rattle.office_journal.specs.Changes.{Change, MayChange, body_of}
use Rattle.office_journal.specs.Histories.{History, IsHistory, bodies}
use Rattle.office_journal.specs.declared.kept.KeptOffice.{KeptOffice}

-- the disk that holds its journal
abbrev pub disk_of : {D : Type 0} {d : _} → KeptOffice D d → D
disk_of kept = journal.disk_of kept.journal

-- the place of the journal's last gate
abbrev pub gate_of : {D : Type 0} {d : _} → KeptOffice D d → ℕ
gate_of kept = journal.gate_of kept.journal

-- the state of the office in memory
abbrev pub state_of : {D : Type 0} {d : _} → KeptOffice D d → State
state_of kept = kept.office.state

-- how many requests were accepted
abbrev pub entries_of : {D : Type 0} {d : _} → KeptOffice D d → ℕ
entries_of kept = kept.entries

-- how many requests met a disk fault since the office was opened
abbrev pub notes_of : {D : Type 0} {d : _} → KeptOffice D d → ℕ
notes_of kept = kept.notes

-- The journal on the disk has the bodies of this history, and perhaps one of a change that met a disk fault behind a gate that may stand open; the office in memory is at the state of the history.
pub record Holds {D : Type 0} {d : _} (seen : D → Option (List ℕ)) (crash : D → Crashes) (kept : KeptOffice D d) (file : List ℕ) (h : History) (pending : Option Change) : Type 0 where
  pub journal : Keeps seen crash kept.journal (bodies file h) (option_map body_of pending)
  pub history : IsHistory file h kept.office.state
  pub entries : kept.entries ≡ length h.entries
  pub change : IfSome pending (MayChange file h)

-- whatever the disk tells: the office in memory is at the state of this history, whose records end at the last gate
pub record HasHistory {D : Type 0} {d : _} (kept : KeptOffice D d) (file : List ℕ) (h : History) : Type 0 where
  pub history : IsHistory file h (state_of kept)
  pub entries : entries_of kept ≡ length h.entries
  pub gate : gate_of kept ≡ length (records (bodies file h))
