-- What becomes of a kept office and its journal where a request is answered.
use Rattle.std.specs.Prelude.{◌≡◌, ◌⊎◌, ◌+◌, ◌-◌, ◌^◌, ℕ, List, Option, None, Some, IfSome, length, min}
use Rattle.desk_traits.specs.Crash.{Crashes, LeavesOnly}
use Rattle.desk_traits.specs.Faults.{Rose}
use Rattle.desk_traits.specs.File.{Only}
use Rattle.office_types.specs.declared.refusal.Refusal.{Refusal}
use Rattle.office_types.specs.declared.refusal.Refusal.TheVariants.{JournalFull}
use Rattle.request_json.specs.Replies.{reply_text}
use Rattle.office_core.specs.Agreement.{ReadsAsTheBoard}
use Rattle.office_core.specs.Histories.{Entered}
use Rattle.office_core.specs.Prepared.{Readied}
use Rattle.office_core.specs.Step.{state_after}
use Rattle.office_core.specs.declared.heard.LastRequest.{LastRequest}
use Rattle.office_journal.specs.Bodies.{entry_body}
use Rattle.office_journal.specs.Changes.{Change, Leaves, changed}
use Rattle.office_journal.specs.Histories.{History}
use Rattle.office_journal.specs.Kept.{HasHistory, Holds, disk_of, entries_of, gate_of, notes_of, state_of}
use Rattle.office_journal.specs.Submitting.{IsTooLong, MayTouch, entered}
use Rattle.office_journal.specs.declared.answers.Answer.{Answer}
use Rattle.office_journal.specs.declared.answers.Answer.TheVariants.{Accepted, Repeated, Refused, DiskFault, OutOfMemory}
use Rattle.office_journal.specs.declared.kept.KeptOffice.{KeptOffice}

-- A crash at any moment of a call leaves the history that the journal held, or it with the change that was pending, or with one that the call gives.
abbrev pub AtAnyMoment : {D : Type 0} {d : _} → (D → Option (List ℕ)) → (D → Crashes) → KeptOffice D d → KeptOffice D d → (Change → Type 0) → Type 0
AtAnyMoment seen crash old new gives = (file : List ℕ) (h : History) (pending : Option Change) → Holds seen crash old file h pending
    → LeavesOnly (crash (disk_of old)) (crash (disk_of new)) (Leaves file h (λ change. (pending ≡ Some change) ⊎ gives change))

-- the office and its disk are as they were
pub record IsAsBefore {D : Type 0} {d : _} (seen : D → Option (List ℕ)) (crash : D → Crashes) (old new : KeptOffice D d) : Type 0 where
  pub disk : disk_of new ≡ disk_of old
  pub gate : gate_of new ≡ gate_of old
  pub state : state_of new ≡ state_of old
  pub entries : entries_of new ≡ entries_of old
  pub notes : notes_of new ≡ notes_of old
  pub held : (file : List ℕ) (h : History) (pending : Option Change) → Holds seen crash old file h pending → Holds seen crash new file h pending
  pub moments : AtAnyMoment seen crash old new (λ change. ⊥)

-- the entry stands in the journal, durably, and the office is in the state behind it
pub record HasEntered {D : Type 0} {d : _} (seen : D → Option (List ℕ)) (crash : D → Crashes) (faults : D → ℕ) (old new : KeptOffice D d) (x : Entered) : Type 0 where
  pub steady : faults (disk_of new) ≡ faults (disk_of old)
  pub gate : gate_of new ≡ gate_of old + (5 + length (entry_body x))
  pub state : state_of new ≡ state_after (state_of old) x.entry x.made
  pub entries : entries_of new ≡ entries_of old + 1
  pub notes : notes_of new ≡ notes_of old
  pub reads : ReadsAsTheBoard (state_of new)
  -- whatever the disk tells, a history goes on by the entry
  pub legal : (file : List ℕ) (h : History) → HasHistory old file h → HasHistory new file (changed h (Change.entry x))
  pub held : (file : List ℕ) (h : History) (pending : Option Change) → Holds seen crash old file h pending
      → Holds seen crash new file (changed h (Change.entry x)) None × Only (seen (disk_of new)) (crash (disk_of new)).may_leave
  pub moments : AtAnyMoment seen crash old new (λ change. change ≡ Change.entry x)

-- the disk failed under an entry that has room, and the office is as it was but for one note
pub record HasFailed {D : Type 0} {d : _} (seen : D → Option (List ℕ)) (crash : D → Crashes) (faults : D → ℕ) (old new : KeptOffice D d) (x : Entered) : Type 0 where
  pub cause : Rose (faults (disk_of old)) (faults (disk_of new))
  pub room : IsTooLong (gate_of old) x → ⊥
  pub gate : gate_of new ≡ gate_of old
  pub state : state_of new ≡ state_of old
  pub entries : entries_of new ≡ entries_of old
  pub notes : notes_of new ≡ min (notes_of old + 1) (2 ^ 64 - 1)
  pub held : (file : List ℕ) (h : History) (pending : Option Change) → Holds seen crash old file h pending
      → (next : Option Change) × MayTouch pending (Change.entry x) next × Holds seen crash new file h next
  pub moments : AtAnyMoment seen crash old new (λ change. change ≡ Change.entry x)

-- why an entry is not appended: it has no room, or there is no memory
abbrev pub IsUnkept : ℕ → Entered → Answer → Type 0
IsUnkept gate x (Accepted text) = ⊥
IsUnkept gate x (Repeated text) = ⊥
IsUnkept gate x (Refused broken) = (broken ≡ JournalFull) × IsTooLong gate x
IsUnkept gate x DiskFault = ⊥
IsUnkept gate x OutOfMemory = Unit {0}

-- the kept reply, or no memory
abbrev pub IsAgain : Option LastRequest → Answer → Type 0
IsAgain said (Accepted text) = ⊥
IsAgain said (Repeated text) = IfSome said (λ (s : LastRequest). text ≡ reply_text s.reply)
IsAgain said (Refused broken) = ⊥
IsAgain said DiskFault = ⊥
IsAgain said OutOfMemory = Unit {0}

-- what an answer says, where entries of these may be offered, these texts may be kept replies, and these rules may be broken
module _ {D : Type 0} {d : _} (seen : D → Option (List ℕ)) (crash : D → Crashes) (faults : D → ℕ) (old new : KeptOffice D d) (offered : Entered → Type 0) (kept : List ℕ → Type 0) (broken : Refusal → Type 0) where
  abbrev pub Becomes : Answer → Type 0
  Becomes (Accepted text) = (x : Entered) × offered x × (text ≡ reply_text x.entry.reply) × HasEntered seen crash faults old new x
  Becomes (Repeated text) = kept text × IsAsBefore seen crash old new
  Becomes (Refused x) = (broken x ⊎ ((x ≡ JournalFull) × (e : Entered) × offered e × IsTooLong (gate_of old) e)) × IsAsBefore seen crash old new
  Becomes DiskFault = (x : Entered) × offered x × HasFailed seen crash faults old new x
  Becomes OutOfMemory = IsAsBefore seen crash old new

  -- Beside an answer that accepts stands what was prepared, and its entry is the one that was added; beside a disk fault as well, and it is the one under which the disk failed. Beside another answer nothing stands.
  abbrev pub Names : Answer → Option Readied → Type 0
  Names (Accepted text) told = (p : Readied) × (told ≡ Some p) × offered (entered p) × (text ≡ reply_text p.entry.reply) × HasEntered seen crash faults old new (entered p)
  Names (Repeated text) told = told ≡ None
  Names (Refused x) told = told ≡ None
  Names DiskFault told = (p : Readied) × (told ≡ Some p) × offered (entered p) × HasFailed seen crash faults old new (entered p)
  Names OutOfMemory told = told ≡ None

-- what was prepared, beside an answer that accepts and beside a disk fault
abbrev pub ComesWith : Answer → Readied → Option Readied → Type 0
ComesWith (Accepted text) p told = told ≡ Some p
ComesWith (Repeated text) p told = told ≡ None
ComesWith (Refused x) p told = told ≡ None
ComesWith DiskFault p told = told ≡ Some p
ComesWith OutOfMemory p told = told ≡ None
