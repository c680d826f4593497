-- What the commands over a journal read, write and leave.
use Rattle.std.specs.Prelude.{◌≡◌, ◌⊎◌, ◌++◌, ◌≤◌, ◌<◌, ◌+◌, ◌-◌, ◌^◌, min, ℕ, ℤ, pos, nat_abs, true, false, List, [], ◌∷◌, length, Option, None, Some, Result, Ok, Err, IfSome, codes}
use Rattle.std.specs.List.{flat_map}
use Rattle.std.proofs.Common.{inl, inr}
use Rattle.desk_settings.specs.Reading.{settings_of}
use Rattle.desk_settings.specs.declared.fault.SettingsFault.{SettingsFault}
use Rattle.desk_settings.specs.declared.settings.Settings.{Settings}
use Rattle.desk_settings.specs.declared.fault.SettingsFault.TheVariants.{NotToml, Missing, BadValue, Twice, TooLong}
use Rattle.desk_traits.specs.Crash.{LeavesOnly}
use Rattle.desk_traits.specs.declared.clocks.Clock.{Ghosts as Clocks}
use Rattle.desk_traits.specs.declared.disk.Disk.{Ghosts as Disks}
use Rattle.desk_traits.specs.Faults.{Rose}
use Rattle.desk_traits.specs.File.{Only}
use Rattle.byte_streams.specs.Flows.{Inflow, IsAtEnd, Outflow, Streams, Takes}
use Rattle.office_types.specs.declared.request.Edition.{Edition}
use Rattle.office_types.specs.declared.request.Edition.TheVariants.{One, Two}
use Rattle.journal_core.specs.Image.{Fresh}
use Rattle.office_core.specs.Agreement.{texts_of}
use Rattle.office_core.specs.Rules.{is_out}
use Rattle.office_core.specs.State.{State}
use Rattle.board_text.specs.Rows.{board_text}
use Rattle.event_life.specs.Shown.{shown_at}
use Rattle.office_journal.specs.Changes.{Change, Leaves}
use Rattle.office_journal.specs.Given.{Gave, history_after}
use Rattle.office_journal.specs.Grown.{KeepsHistory}
use Rattle.office_journal.specs.Histories.{History, ImageOf, empty}
use Rattle.office_journal.specs.Kept.{Holds, disk_of, gate_of, state_of}
use Rattle.office_journal.specs.Making.{IsMakingOf}
use Rattle.office_journal.specs.declared.answers.Upgrade.{Upgrade}
use Rattle.office_journal.specs.declared.answers.Upgrade.TheVariants as upgrade
use Rattle.office_journal.specs.declared.kept.KeptOffice.{KeptOffice}
use Rattle.program_ends.specs.Ends.{HasWritten, Telling, TellsText}
use Rattle.program_ends.specs.Runs.{IsLinesRun, IsUnbegun}
use Rattle.program_ends.specs.declared.ends.End.{End}
use Rattle.program_ends.specs.declared.reading.Stop.{Stop}
use Rattle.program_ends.specs.declared.reading.Stop.TheVariants as stop
use Rattle.program_ends.specs.declared.ends.End.TheVariants.{WriteFault, OutOfMemory, ClockOut, DiskFault, JournalFull, SettingsRefused, AlreadyKept, ReadFault}
use Rattle.desk_commands.specs.Opening.{IsOpened}
use Rattle.desk_commands.specs.Scripts.{Answers, Goes, HaveReadings, IsRead, Said, Scripted, faults_in, given_by, stood_in, texts_in}

-- texts one after another
abbrev pub joined : List (List ℕ) → List ℕ
joined texts = flat_map (λ (text : List ℕ). text) texts

-- the first of the texts were written one after another: all of them, those up to a write fault, or those before memory lacked
pub record Exported (texts : List (List ℕ)) (old new : Outflow) (end : Option End) : Type 0 where
  pub first : List (List ℕ)
  pub rest : List (List ℕ)
  pub are : texts ≡ first ++ rest
  pub reasons : ((end ≡ None) × (rest ≡ [])) ⊎ (end ≡ Some WriteFault) ⊎ (end ≡ Some OutOfMemory)
  pub written : List ℕ
  pub has : HasWritten (joined first) written old new end

-- the same, with the end of the run
pub record AreTold (texts : List (List ℕ)) (old new : Outflow) (status : ℕ) : Type 0 where
  pub first : List (List ℕ)
  pub rest : List (List ℕ)
  pub are : texts ≡ first ++ rest
  pub end : Option End
  pub reasons : ((end ≡ None) × (rest ≡ [])) ⊎ (end ≡ Some WriteFault) ⊎ (end ≡ Some OutOfMemory)
  pub telling : Telling (joined first) old new end status

-- The settings were read to the input's end, or to the byte behind the last that settings may have; or a read failed, or memory lacked, somewhere within.
abbrev pub SettingsRead : Inflow → Inflow → Result (List ℕ) Stop → Type 0
SettingsRead old new (Ok text) = Takes old.left new.left text × (length text ≤ 1048577) × ((length text ≡ 1048577) ⊎ IsAtEnd new.left) × (new.faults ≡ old.faults)
SettingsRead old new (Err why) = ((text : List ℕ) × Takes old.left new.left text × (length text ≤ 1048577)) × (((why ≡ stop.OutOfMemory) × (new.faults ≡ old.faults)) ⊎ ((why ≡ stop.Read) × Rose old.faults new.faults))

-- a fault of settings, and its key
abbrev pub fault_text : SettingsFault → List ℕ
fault_text NotToml = codes "NotToml"
fault_text (Missing key) = codes "Missing " ++ key
fault_text (BadValue key) = codes "BadValue " ++ key
fault_text (Twice key) = codes "Twice " ++ key
fault_text TooLong = codes "TooLong"

-- what is told of an upgrade
abbrev pub WritesUpgrade : Upgrade → Outflow → Outflow → ℕ → Type 0
WritesUpgrade upgrade.Done old new status = TellsText (codes "edition 2\n") old new status
WritesUpgrade upgrade.Already old new status = TellsText (codes "edition 2\n") old new status
WritesUpgrade upgrade.Full old new status = Telling [] old new (Some JournalFull) status
WritesUpgrade upgrade.DiskFault old new status = Telling [] old new (Some DiskFault) status
WritesUpgrade upgrade.OutOfMemory old new status = Telling [] old new (Some OutOfMemory) status

-- What becomes of an upgrade: the edition is Two, and was before, so that the disk is as it was, or the mark has room; it has none, the disk failed in this call, or memory lacked, and the edition is as it was. But for the disk's fault the disk is as it was then.
abbrev pub UpgradeOutcome : {D : Type 0} (d : Disks D) → D → KeptOffice D d → KeptOffice D d → Outflow → Outflow → ℕ → Type 0
UpgradeOutcome d next opened after old new status =
    (((state_of after).edition ≡ Two) × ((((state_of opened).edition ≡ Two) × (next ≡ disk_of opened)) ⊎ (gate_of opened + 15 ≤ 268435456)) × TellsText (codes "edition 2\n") old new status)
    ⊎ (((state_of after).edition ≡ One) × ((state_of opened).edition ≡ One) × (268435456 < gate_of opened + 15) × (next ≡ disk_of opened) × Telling [] old new (Some JournalFull) status)
    ⊎ (((state_of after).edition ≡ One) × ((state_of opened).edition ≡ One) × Rose (d.faults (disk_of opened)) (d.faults next) × Telling [] old new (Some DiskFault) status)
    ⊎ (((state_of after).edition ≡ (state_of opened).edition) × (next ≡ disk_of opened) × Telling [] old new (Some OutOfMemory) status)

-- what an upgrade gives to the disk, from an edition to Two
abbrev pub marks_from : Edition → List Gave
marks_from One = Gave.added Change.marked ∷ []
marks_from Two = []

-- what an upgrade gave to the disk: the mark, unless it was there, had no room, or memory lacked
module _ {D : Type 0} (d : Disks D) (next : D) (opened after : KeptOffice D d) (old new : Outflow) (status : ℕ) where
  abbrev pub mark_given : UpgradeOutcome d next opened after old new status → List Gave
  mark_given (inl done) = marks_from (state_of opened).edition
  mark_given (inr (inl full)) = []
  mark_given (inr (inr (inl failed))) = Gave.faulted Change.marked ∷ []
  mark_given (inr (inr (inr lacks))) = []

-- The board at a minute: its text, or the clock's fault where the minute is out; or memory lacked.
abbrev pub WritesBoard : State → ℤ → Outflow → Outflow → ℕ → Type 0
WritesBoard s at old new status =
    ((is_out at ≡ false) × TellsText (board_text (shown_at (nat_abs at) s.rows)) old new status)
    ⊎ ((is_out at ≡ true) × Telling [] old new (Some ClockOut) status)
    ⊎ Telling [] old new (Some OutOfMemory) status

-- the minute of the board: the one that is named, or a reading of the clock
abbrev pub IsBoardAt : {C : Type 0} (k : Clocks C) → Option ℕ → C → C → ℤ → Type 0
IsBoardAt k None clock next at = IsRead k clock next at
IsBoardAt k (Some minute) clock next at = (at ≡ pos minute) × (next ≡ clock)

-- a run over lines in which memory never lacks for an answer
abbrev pub AnswersLines : {D C : Type 0} (d : Disks D) (k : Clocks C) → ℕ → Scripted (KeptOffice D d) C → Scripted (KeptOffice D d) C → Streams → Streams → ℕ → Type 0
AnswersLines d k limit s z old new status = IsLinesRun (Answers d k) (λ x line y. ⊥) limit s z old new status

module _ {D : Type 0} (d : Disks D) where
  -- Nothing was added: the history is the one that was found, and the disk stands as it did.
  abbrev pub Stays : D → D → KeptOffice D d → Type 0
  Stays disk next kept = (bytes : List ℕ) → d.seen disk ≡ Some bytes → (file : List ℕ) × (h : History) × KeepsHistory d disk (disk_of kept) next bytes file h [] [] (state_of kept)

  -- the input's lines were answered one after another by the office that was found
  pub record IsScriptRun {C : Type 0} (k : Clocks C) (disk next : D) (clock clock' : C) (limit : ℕ) (old new : Streams) (status : ℕ) : Type 0 where
    pub opened : KeptOffice D d
    pub first : IsOpened d disk opened
    -- office and clock at the end
    pub after : Scripted (KeptOffice D d) C
    pub clock_is : after.clock ≡ clock'
    pub run : AnswersLines d k limit (record { kept = opened; clock = clock }) after old new status
    -- what came of each line that was answered, in order
    pub said : List Said
    pub goes : Goes d k (record { kept = opened; clock = clock }) run.run.lines said after
    pub told : run.told ≡ texts_in said
    pub handed : next ≡ disk_of after.kept
    -- one legal history, which holds the entries of the accepted lines behind what was found, and the disk; and what was answered stays, line by line
    pub history : (bytes : List ℕ) → d.seen disk ≡ Some bytes → (file : List ℕ) × (h : History)
        × KeepsHistory d disk (disk_of opened) next bytes file h (given_by said) (stood_in d k [] (record { kept = opened; clock = clock }) run.run.lines said after goes) (state_of after.kept)
    -- no more lines are told that the disk failed than its count rose
    pub faults : min (d.faults disk + faults_in said) (2 ^ 64 - 1) ≤ d.faults next
    pub later : d.faults disk ≤ d.faults next
    -- the first line that is not empty has the first reading ahead, and so on
    pub readings : (ahead : List ℤ) → k.ahead clock ≡ Some ahead → HaveReadings ahead said
    -- memory lacks before the first line alone, and then the disk's count is as before
    pub no_memory : status ≡ 12 → IsUnbegun (record { kept = opened; clock = clock }) after old.input.left new.input.left run.run.read run.run.lines × (d.faults next ≡ d.faults disk)

  -- the texts of the products were written one after another
  pub record IsExportRun (disk next : D) (old new : Outflow) (status : ℕ) : Type 0 where
    pub opened : KeptOffice D d
    pub first : IsOpened d disk opened
    pub told : AreTold (texts_of (state_of opened)) old new status
    pub handed : next ≡ disk_of opened
    pub history : Stays disk next opened
    pub later : d.faults disk ≤ d.faults next

  -- the board at a minute was written
  pub record IsBoardRun {C : Type 0} (k : Clocks C) (minute : Option ℕ) (disk next : D) (clock clock' : C) (old new : Outflow) (status : ℕ) : Type 0 where
    pub opened : KeptOffice D d
    pub first : IsOpened d disk opened
    pub at : ℤ
    pub reading : IsBoardAt k minute clock clock' at
    pub told : WritesBoard (state_of opened) at old new status
    pub handed : next ≡ disk_of opened
    pub history : Stays disk next opened
    pub later : d.faults disk ≤ d.faults next

  -- Nothing but the mark was given to the disk: it stands behind the history, or may be pending; where the edition is Two nothing is. A crash at any moment leaves the history, or that with the mark.
  pub record IsMarked (opened after : KeptOffice D d) (file : List ℕ) (h : History) : Type 0 where
    pub pending : Option Change
    pub mark : IfSome pending (λ change. change ≡ Change.marked)
    pub none : (state_of after).edition ≡ Two → pending ≡ None
    pub holds : Holds d.seen d.crash after file (record { entries = h.entries; edition = (state_of after).edition }) pending
    pub moments : LeavesOnly (d.crash (disk_of opened)) (d.crash (disk_of after)) (Leaves file h (λ change. (change ≡ Change.marked) × (h.edition ≡ One)))

  -- the journal has the mark
  pub record IsUpgradeRun (disk next : D) (old new : Outflow) (status : ℕ) : Type 0 where
    pub opened : KeptOffice D d
    pub first : IsOpened d disk opened
    pub after : KeptOffice D d
    pub outcome : UpgradeOutcome d next opened after old new status
    pub handed : next ≡ disk_of after
    pub marked : (file : List ℕ) (h : History) → Holds d.seen d.crash opened file h None → IsMarked opened after file h
    pub later : d.faults disk ≤ d.faults next
    pub history : (bytes : List ℕ) → d.seen disk ≡ Some bytes → (file : List ℕ) × (h : History)
        × KeepsHistory d disk (disk_of opened) next bytes file h (mark_given d next opened after old new status outcome) [] (state_of after) × ((history_after h (mark_given d next opened after old new status outcome)).edition ≡ (state_of after).edition)

  -- the file is as it was, and so are what a crash leaves, at any moment, and the count of faults
  abbrev pub IsLeft : D → D → Type 0
  IsLeft disk next = (d.seen next ≡ d.seen disk) × LeavesOnly (d.crash disk) (d.crash next) (d.crash disk).may_leave × (d.faults next ≡ d.faults disk)

  -- Why no journal is made of settings that were read: they have this fault first, and the file is fresh; the file is not fresh; the disk failed in this call; or memory lacked. But for the disk's fault the file is left as it was.
  abbrev pub IsWhyUnmade : D → D → List ℕ → End → Type 0
  IsWhyUnmade disk next read (SettingsRefused what) = (fault : SettingsFault) × (settings_of read ≡ Err fault) × (what ≡ fault_text fault) × ((bytes : List ℕ) → d.seen disk ≡ Some bytes → Fresh bytes) × IsLeft disk next
  IsWhyUnmade disk next read AlreadyKept = ((bytes : List ℕ) → d.seen disk ≡ Some bytes → Fresh bytes → ⊥) × IsLeft disk next
  IsWhyUnmade disk next read DiskFault = Rose (d.faults disk) (d.faults next)
  IsWhyUnmade disk next read OutOfMemory = IsLeft disk next
  IsWhyUnmade disk next read _ = ⊥

  -- the disk reads as the image of the empty history in edition Two, and so does what a crash leaves
  pub record IsMade (disk next : D) (read : List ℕ) : Type 0 where
    -- what was read are settings, whatever the disk tells
    pub settings : (settings : Settings) × (settings_of read ≡ Ok settings)
    pub fresh : (bytes : List ℕ) → d.seen disk ≡ Some bytes → Fresh bytes
    pub image : (bytes : List ℕ) → d.seen disk ≡ Some bytes → (now : List ℕ) × (d.seen next ≡ Some now) × ImageOf now read (empty Two)
    pub only : (bytes : List ℕ) → d.seen disk ≡ Some bytes → Only (d.seen next) (d.crash next).may_leave

  -- the settings were read whole, or as far as they can be settings, and a journal was made of them or not
  pub record IsInitRun (disk next : D) (old new : Streams) (status : ℕ) : Type 0 where
    pub read : List ℕ
    pub takes : Takes old.input.left new.input.left read
    pub within : length read ≤ 1048577
    pub outcome :
        ((length read ≡ 1048577) ⊎ IsAtEnd new.input.left) × (new.input.faults ≡ old.input.faults)
        × ((IsMade disk next read × IsAtEnd new.input.left × TellsText (codes "ready\n") old.output new.output status)
        ⊎ ((end : End) × IsWhyUnmade disk next read end × Telling [] old.output new.output (Some end) status))
        ⊎ (next ≡ disk) × (((new.input.faults ≡ old.input.faults) × Telling [] old.output new.output (Some OutOfMemory) status)
        ⊎ (Rose old.input.faults new.input.faults × Telling [] old.output new.output (Some ReadFault) status))
    pub later : d.faults disk ≤ d.faults next
    -- what a crash leaves: what one at the start might have left, or a file that is being made
    pub crashes : (bytes : List ℕ) → d.seen disk ≡ Some bytes → LeavesOnly (d.crash disk) (d.crash next) (λ c. (d.crash disk).may_leave c ⊎ IsMakingOf read c)
