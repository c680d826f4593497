-- What becomes of a journal that was read, where its office is opened.
use Rattle.std.specs.Prelude.{◌≡◌, ℕ, List, Result, Ok, Err, length}
use Rattle.journal_core.specs.Kept.{disk_of}
use Rattle.journal_core.specs.declared.journal.Journal.{Journal}
use Rattle.office_core.specs.Agreement.{ReadsAsTheBoard}
use Rattle.office_journal.specs.Damage.{FailsAt}
use Rattle.office_journal.specs.Histories.{History, IsHistory, bodies}
use Rattle.office_journal.specs.declared.faults.KeepFault.{KeepFault}
use Rattle.office_journal.specs.declared.faults.KeepFault.TheVariants.{Damaged, OutOfMemory}
use Rattle.office_journal.specs.declared.kept.KeptOffice.{KeptOffice}

-- it has this journal, the state of the history that the bodies are of, and no note of a fault
pub record IsOpened {D : Type 0} {d : _} (journal : Journal D d) (all : List (List ℕ)) (kept : KeptOffice D d) : Type 0 where
  pub same : kept.journal ≡ journal
  pub file : List ℕ
  pub history : History
  pub are : all ≡ bodies file history
  pub state : IsHistory file history kept.office.state
  pub reads : ReadsAsTheBoard kept.office.state
  pub entries : kept.entries ≡ length history.entries
  pub notes : kept.notes ≡ 0

-- why the bodies give no office
abbrev pub Fails : List (List ℕ) → KeepFault → Type 0
Fails all (Damaged at) = FailsAt all at
Fails all OutOfMemory = Unit {0}
Fails all _ = ⊥

abbrev pub Opens : {D : Type 0} {d : _} → Journal D d → List (List ℕ) → Result (KeptOffice D d) (D × KeepFault) → Type 0
Opens journal all (Ok kept) = IsOpened journal all kept
Opens journal all (Err e) = (e.0 ≡ disk_of journal) × Fails all e.1
