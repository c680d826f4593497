-- What a run over a kept office leaves of its history, and what a crash leaves of it: the promise of the program.
use Rattle.std.specs.Prelude.{◌≡◌, ◌⊎◌, ◌++◌, ◌≤◌, ℕ, All, List, [], Option, Some, IfSome, IsSome}
use Rattle.desk_traits.specs.Crash.{LeavesOnly}
use Rattle.desk_traits.specs.Faults.{Rose}
use Rattle.desk_traits.specs.declared.disk.Disk.{Ghosts as Disks}
use Rattle.journal_core.specs.Adopt.{Settles}
use Rattle.office_core.specs.Agreement.{ReadsAsTheBoard}
use Rattle.office_core.specs.Histories.{Entered, MayFollow, StandOnce, entries_of}
use Rattle.office_core.specs.State.{State}
use Rattle.office_journal.specs.Changes.{Change, Leaves}
use Rattle.office_journal.specs.Given.{Gave, IsFront, MayPend, history_after}
use Rattle.office_journal.specs.Histories.{History, ImageOf, IsHistory}

-- a later history begins with the earlier one
pub record Follows (h last : History) : Type 0 where
  pub entries : List Entered
  pub behind : last.entries ≡ h.entries ++ entries
  pub edition : MayFollow h.edition last.edition

-- nothing is pending
abbrev pub NonePends : Change → Type 0
NonePends change = ⊥

-- the disk as it stood when this had been given to it, and was answered
pub record Stood (D : Type 0) : Type 0 where
  pub held : List Gave
  pub disk : D

-- What the disk held then stays, of all that was given: each crash from that moment on leaves a front of the history that holds it.
pub record StaysSince {D : Type 0} (d : Disks D) (then : Stood D) (next : D) (may : Change → Type 0) (given : List Gave) (file : List ℕ) (h : History) : Type 0 where
  pub more : List Gave
  pub are : given ≡ then.held ++ more
  pub later : (d.crash then.disk).moment ≤ (d.crash next).moment
  pub leaves : (c : List ℕ) → (d.crash next).left_since (d.crash then.disk).moment c → IsFront may given then.held file h c

-- Whatever was asked: what the history was and has become by what was given to the disk, what its texts say, and what the disk holds of it. The disk is told as the run began, as the office was opened, and as it is next; and as it stood at each answer.
pub record KeepsHistory {D : Type 0} (d : Disks D) (disk opened next : D) (bytes file : List ℕ) (h : History) (given : List Gave) (answered : List (Stood D)) (s : State) : Type 0 where
  -- the file that was found is an image of the first history
  pub found : ImageOf bytes file h
  -- the one behind what was given is a legal history, which leads to this state
  pub legal : IsHistory file (history_after h given) s
  -- it begins with the first
  pub follows : Follows h (history_after h given)
  -- each request stands in it once
  pub once : StandOnce (entries_of (history_after h given).entries)
  -- someone who has the texts alone finds lawful lives, numbers from 1 without gaps, and the rows of the board
  pub reads : ReadsAsTheBoard s
  -- At most one change more is in the file: one under which the disk failed, since a change was last added.
  pub pending : Option Change
  pub which : IfSome pending (MayPend NonePends given)
  pub cause : IsSome pending → Rose (d.faults disk) (d.faults next)
  -- a read gives an image of the last history, or of it with that change
  pub now : List ℕ
  pub told : d.seen next ≡ Some now
  pub image : Leaves file (history_after h given) (λ change. pending ≡ Some change) now
  -- and so does a crash now
  pub left : (c : List ℕ) → (d.crash next).may_leave c → Leaves file (history_after h given) (λ change. pending ≡ Some change) c
  -- A crash at any moment since the start leaves what one at the start might have left, or a front of the last history that holds the first, with at most one change behind it, which was given there.
  pub crashes : LeavesOnly (d.crash disk) (d.crash next) (λ c. (d.crash disk).may_leave c ⊎ IsFront NonePends given [] file h c)
  -- Since the first sync that answered while the office was opened it leaves such a front alone.
  pub settled : (before : List ℕ) (sync : Settles d.crash d.syncs before bytes opened) (c : List ℕ) → (d.crash next).left_since sync.at c → IsFront NonePends given [] file h c
  -- what was answered stays
  pub stays : All (λ then. StaysSince d then next NonePends given file h) answered
