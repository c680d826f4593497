-- How an office is opened from the journal that a disk holds.
use Rattle.std.specs.Prelude.{◌≡◌, ◌≤◌, ◌⊎◌, ℕ, List, [], None, Some}
use Rattle.byte_streams.specs.Flows.{Inflow, Outflow}
use Rattle.desk_traits.specs.Crash.{LeavesOnly}
use Rattle.desk_traits.specs.declared.disk.Disk.{Ghosts as Disks}
use Rattle.desk_traits.specs.Faults.{Rose}
use Rattle.journal_core.specs.Adopt.{Settles}
use Rattle.journal_core.specs.Image.{Fresh}
use Rattle.office_core.specs.Agreement.{ReadsAsTheBoard}
use Rattle.office_journal.specs.Damage.{IsDamagedAt}
use Rattle.office_journal.specs.Histories.{History, ImageOf}
use Rattle.office_journal.specs.Kept.{HasHistory, Holds, disk_of, state_of}
use Rattle.office_journal.specs.declared.kept.KeptOffice.{KeptOffice}
use Rattle.program_ends.specs.Ends.{Telling}
use Rattle.program_ends.specs.declared.ends.End.{End}
use Rattle.program_ends.specs.declared.ends.End.TheVariants.{NoJournal, Damaged, DiskFault, OutOfMemory}

module _ {D : Type 0} (d : Disks D) where
  -- The file is an image of one history, and the office is at its state; nothing is pending. A read gives the same, and no crash leaves what one at the start might not have left.
  pub record IsOpened (disk : D) (kept : KeptOffice D d) : Type 0 where
    pub found : (bytes : List ℕ) → d.seen disk ≡ Some bytes → (file : List ℕ) × (h : History) × ImageOf bytes file h × Holds d.seen d.crash kept file h None
    pub reads : ReadsAsTheBoard (state_of kept)
    pub same : d.seen (disk_of kept) ≡ d.seen disk
    -- whatever the disk tells
    pub legal : (file : List ℕ) × (h : History) × HasHistory kept file h
    pub steady : d.faults (disk_of kept) ≡ d.faults disk
    pub later : d.faults disk ≤ d.faults (disk_of kept)
    pub moments : LeavesOnly (d.crash disk) (d.crash (disk_of kept)) (d.crash disk).may_leave
    -- what a crash since the first sync that answered might have left is what a read gives
    pub settled : (bytes before : List ℕ) → d.seen disk ≡ Some bytes → d.syncs disk ≡ Some before → Settles d.crash d.syncs before bytes (disk_of kept)

  -- Why no office is opened: the file is fresh, it is damaged at this byte, the disk failed in this call, or memory lacked, and the count of faults is as before.
  abbrev pub IsWhy : D → D → End → Type 0
  IsWhy disk next NoJournal = (bytes : List ℕ) → d.seen disk ≡ Some bytes → Fresh bytes
  IsWhy disk next (Damaged at) = (bytes : List ℕ) → d.seen disk ≡ Some bytes → IsDamagedAt bytes at
  IsWhy disk next DiskFault = Rose (d.faults disk) (d.faults next)
  IsWhy disk next OutOfMemory = d.faults next ≡ d.faults disk
  IsWhy disk next _ = ⊥

  -- the disk is as it was
  pub record IsUnopened (disk next : D) (end : End) : Type 0 where
    pub why : IsWhy disk next end
    pub same : d.seen next ≡ d.seen disk
    pub later : d.faults disk ≤ d.faults next
    pub moments : LeavesOnly (d.crash disk) (d.crash next) (d.crash disk).may_leave

  -- no office was opened, and the reason alone is told
  pub record IsUnopenedRun (disk next : D) (old new : Outflow) (status : ℕ) : Type 0 where
    pub end : End
    pub unopened : IsUnopened disk next end
    pub telling : Telling [] old new (Some end) status

  -- no office was opened, or a run over an opened one
  abbrev pub UnopenedOr : (D → D → Outflow → Outflow → ℕ → Type 0) → D → D → Outflow → Outflow → ℕ → Type 0
  UnopenedOr IsRun disk next old new status = IsUnopenedRun disk next old new status ⊎ IsRun disk next old new status

-- nothing was read
pub record IsUnread (old new : Inflow) : Type 0 where
  pub unread : new.left ≡ old.left
  pub steady : new.faults ≡ old.faults
