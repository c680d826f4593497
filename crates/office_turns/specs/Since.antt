-- What has become of a kept office since it was opened.
use Rattle.std.specs.Prelude.{◌≡◌, ◌+◌, ◌-◌, ◌^◌, ◌≤◌, ℕ, ℤ, All, List, [], ◌∷◌, Option, Some, IfSome, length, min}
use Rattle.desk_traits.specs.Crash.{LeavesOnly}
use Rattle.desk_traits.specs.declared.disk.Disk.{Ghosts as Disks}
use Rattle.office_types.specs.declared.request.Request.{Request}
use Rattle.office_core.specs.Agreement.{ReadsAsTheBoard}
use Rattle.office_core.specs.Histories.{Entered}
use Rattle.office_core.specs.State.{State}
use Rattle.office_core.specs.Step.{state_after}
use Rattle.office_journal.specs.Changes.{Change}
use Rattle.office_journal.specs.Given.{IsFront, MayPend, history_after}
use Rattle.office_journal.specs.Grown.{StaysSince}
use Rattle.office_journal.specs.Histories.{History}
use Rattle.office_journal.specs.Kept.{HasHistory, Holds, disk_of, entries_of, gate_of, state_of}
use Rattle.office_journal.specs.Submitting.{IsOffered, entered}
use Rattle.office_journal.specs.declared.kept.KeptOffice.{KeptOffice}
use Rattle.office_turns.specs.Happenings.{entries_in, faults_in, gate_at, given_by, state_at, stood_by}
use Rattle.office_turns.specs.declared.happening.Happening.{Happening}
use Rattle.office_turns.specs.declared.happening.Happening.TheVariants.{Entry, Fault}

-- a request is accepted at the state at some reading of the clock, and this is its entry
pub record IsEntryAt (s : State) (x : Entered) : Type 0 where
  pub desk : List ℕ
  pub seq : ℕ
  pub request : Request
  pub reading : ℤ
  pub offered : IsOffered s desk seq request reading x

-- each request that was accepted, or under which the disk failed, is one at the state of the entries before it
abbrev pub AreEntriesAt : {D : Type 0} {d : _} → State → List (Happening D d) → Type 0
AreEntriesAt s [] = Unit {0}
AreEntriesAt s (Entry p then ∷ more) = IsEntryAt s (entered p.value) × AreEntriesAt (state_after s p.value.entry p.value.made) more
AreEntriesAt s (Fault p ∷ more) = IsEntryAt s (entered p.value) × AreEntriesAt s more

module _ {D : Type 0} (d : Disks D) (opened kept : KeptOffice D d) where
  -- The history that the journal held at the opening, with this change pending, has grown by what has happened; and what was answered stays.
  pub record IsHeld (file : List ℕ) (h : History) (happenings : List (Happening D d)) (was : Option Change) : Type 0 where
    pub pending : Option Change
    pub holds : Holds d.seen d.crash kept file (history_after h (given_by happenings)) pending
    pub which : IfSome pending (MayPend (λ change. was ≡ Some change) (given_by happenings))
    -- a crash at any moment since leaves a front of it that holds the first, with at most one change behind it, which was given there
    pub crashes : LeavesOnly (d.crash (disk_of opened)) (d.crash (disk_of kept)) (IsFront (λ change. was ≡ Some change) (given_by happenings) [] file h)
    pub stays : All (λ then. StaysSince d then (disk_of kept) (λ change. was ≡ Some change) (given_by happenings) file h) (stood_by [] happenings)

  -- the office is what was opened, after what has happened
  pub record IsSince (happenings : List (Happening D d)) : Type 0 where
    pub state : state_of kept ≡ state_at opened happenings
    pub gate : gate_of kept ≡ gate_at opened happenings
    pub entries : entries_of kept ≡ entries_of opened + length (entries_in happenings)
    pub lawful : AreEntriesAt (state_of opened) happenings
    -- whatever the disk tells, the history has grown by the entries
    pub legal : (file : List ℕ) (h : History) → HasHistory opened file h → HasHistory kept file (history_after h (given_by happenings))
    pub reads : ReadsAsTheBoard (state_of opened) → ReadsAsTheBoard (state_of kept)
    -- the disk's count of faults has risen by those that happened, and by them alone
    pub later : d.faults (disk_of opened) ≤ d.faults (disk_of kept)
    pub counted : min (d.faults (disk_of opened) + faults_in happenings) (2 ^ 64 - 1) ≤ d.faults (disk_of kept)
    pub steady : faults_in happenings ≡ 0 → d.faults (disk_of kept) ≡ d.faults (disk_of opened)
    -- where the disk tells what it holds
    pub held : (file : List ℕ) (h : History) (was : Option Change) → Holds d.seen d.crash opened file h was → IsHeld file h happenings was
