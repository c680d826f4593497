-- The promise of the program: "Whatever requests the desks send, interleaved and repeated, their
-- accepted requests stand in one legal history, each once; a reader of the transmitted texts alone
-- finds for every event and zone a lawful life, numbers from 1 without gaps, and exactly the hazards
-- on the board; and a crash at any moment leaves a prefix of that history holding every acknowledged
-- request." Each phrase stands in quotes over the fields that say what is proved of it.
use Rattle.std.specs.Prelude.{◌≡◌, ◌≢◌, ◌≤◌, ◌⊎◌, ◌++◌, ℕ, List, [], None, Some, IfSome, IsOk}
use Rattle.std.specs.List.{All}
use Rattle.desk_traits.specs.Crash.{LeavesOnly}
use Rattle.desk_traits.specs.Faults.{Rose}
use Rattle.desk_traits.specs.declared.clocks.Clock.{Ghosts as Clocks}
use Rattle.desk_traits.specs.declared.disk.Disk.{Ghosts as Disks}
use Rattle.hazard_types.specs.Places.{Place}
use Rattle.hazard_types.specs.declared.hazard.Event.{Event}
use Rattle.event_life.specs.Lives.{IsLawfulLife}
use Rattle.event_life.specs.Openings.{IsGapless, opened_of}
use Rattle.event_life.specs.Products.{rows_of}
use Rattle.product_decoder.specs.Decoded.{decode}
use Rattle.product_frame.specs.Splitting.{IsOneProduct}
use Rattle.office_core.specs.Agreement.{products_read, texts_of}
use Rattle.office_core.specs.Histories.{StandOnce, entries_of}
use Rattle.office_journal.specs.Changes.{Leaves}
use Rattle.office_journal.specs.Given.{IsFront, MayPend, entries_given, history_after}
use Rattle.office_journal.specs.Grown.{NonePends, StaysSince}
use Rattle.office_journal.specs.Histories.{History, ImageOf, IsHistory}
use Rattle.office_journal.specs.Kept.{HasHistory, disk_of}
use Rattle.office_journal.specs.Making.{IsMakingOf}
use Rattle.desk_program.specs.Words.{command_of}
use Rattle.desk_program.specs.declared.words.Command.TheVariants.{Init, Upgrade}
use Rattle.warn_main.specs.Offices.{Office, office_of}
use Rattle.warn_main.specs.Runs.{DoesAsAsked}
use Rattle.warn_main.specs.Worlds.{World}

-- Of an office that a run opened, whose journal has this settings' file and held this history when it
-- was found. The one at the end is `history_behind found office.given`.
pub record IsOneHistory {D : Type 0} {d : Disks D} (office : Office d) (file : List ℕ) (found : History) : Type 0 where
  -- "their accepted requests": those of this run, in order, and no others, behind what was found
  pub accepted : (history_after found office.given).entries ≡ found.entries ++ entries_given office.given
  -- "stand in one legal history": each is accepted at the state of those before it
  pub legal : IsHistory file (history_after found office.given) office.state
  -- "each once"
  pub once : StandOnce (entries_of (history_after found office.given).entries)
  -- "a reader of the transmitted texts alone": each text decodes, and is one product
  pub decoded : All (λ (text : List ℕ). IsOk (decode text)) (texts_of office.state)
  pub parted : All IsOneProduct (texts_of office.state)
  -- "finds for every event and zone a lawful life"
  pub lives : (event : Event) (zone : Place) → IsLawfulLife (products_read office.state) event zone
  -- "numbers from 1 without gaps"
  pub numbers : IsGapless (opened_of (products_read office.state))
  -- "and exactly the hazards on the board"
  pub board : rows_of (products_read office.state) ≡ office.state.rows

-- The same, where the disk told the bytes of the journal, and what crashes leave of it.
pub record OutlastsCrashes {D C : Type 0} (d : Disks D) (before after : World D C) (office : Office d) (bytes : List ℕ) : Type 0 where
  pub file : List ℕ
  pub found : History
  pub image : ImageOf bytes file found
  pub history : IsOneHistory office file found
  -- "and a crash at any moment leaves a prefix of that history": one at any moment of the run leaves
  -- what one at the start might have left, or a prefix that holds all that was found. At most one
  -- change stands behind it, and that was sent in this run: it is what the next request gave to the
  -- disk, or one under which the disk failed since the prefix's last.
  pub crash : LeavesOnly (d.crash before.disk) (d.crash after.disk)
      (λ c. (d.crash before.disk).may_leave c ⊎ IsFront NonePends office.given [] file found c)
  -- On a disk that tells its syncs: from a moment of the opening on such a prefix alone.
  pub settled : (earlier : List ℕ) → d.syncs before.disk ≡ Some earlier
      → (at : ℕ) × (at ≤ (d.crash (disk_of office.opened)).moment)
      × ((c : List ℕ) → (d.crash after.disk).left_since at c
      → IsFront NonePends office.given [] file found c)
  -- "holding every acknowledged request": from each answer on, whatever crash comes later in the run
  -- leaves a prefix that holds all that had been answered then,
  pub stays : All (λ then. StaysSince d then after.disk NonePends office.given file found) office.answered
  -- and at the end of the run all of them, with one change more only where the disk failed under it.
  pub held : (c : List ℕ) → (d.crash after.disk).may_leave c
      → Leaves file (history_after found office.given)
      (λ change. MayPend NonePends office.given change × Rose (d.faults before.disk) (d.faults after.disk)) c

module _ {D C : Type 0} (d : Disks D) (k : Clocks C) where
  -- Of one run of the program.
  pub record Promise (words : List (List ℕ)) (limit : ℕ) (before after : World D C) (status : ℕ) : Type 0 where
    -- "Whatever requests the desks send, interleaved and repeated": whatever the words, the bytes of
    -- the input and those of all links, what the words ask for was done.
    pub done : DoesAsAsked d k words limit before after status
    -- Of the office that the run opened, if it opened one, at the history that was found: the phrases
    -- up to the board, whatever the disk tells, and so over a file; but under `upgrade`,
    pub lawful : command_of words ≢ Some Upgrade
        → IfSome (office_of d k before after status words limit done)
        (λ office. (file : List ℕ) × (found : History)
        × HasHistory office.opened file found × IsOneHistory office file found)
    -- and all phrases, under each command, where the disk tells the bytes of its journal.
    pub kept : IfSome (office_of d k before after status words limit done)
        (λ office. (bytes : List ℕ) → d.seen before.disk ≡ Some bytes
        → OutlastsCrashes d before after office bytes)
    -- If the run opened none it accepted nothing: a crash at any moment leaves what one at the start
    -- might have left, or, under `init`, a journal that is being made.
    pub unopened : office_of d k before after status words limit done ≡ None
        → (bytes : List ℕ) → d.seen before.disk ≡ Some bytes
        → LeavesOnly (d.crash before.disk) (d.crash after.disk)
        (λ c. (d.crash before.disk).may_leave c
        ⊎ ((command_of words ≡ Some Init) × (settings : List ℕ) × IsMakingOf settings c))
