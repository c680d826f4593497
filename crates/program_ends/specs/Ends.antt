-- How a program ends: its status, the line of its fault, and what stands in its output.
use Rattle.std.specs.Prelude.{◌≡◌, ◌≢◌, ◌≤◌, ◌⊎◌, ℕ, ◌+◌, ◌-◌, ◌^◌, min, Bool, true, false, List, [], ◌++◌, Option, None, Some, Result, OnOk, OnErr, codes, decimal}
use Rattle.desk_traits.specs.Faults.{HasCause, Rose}
use Rattle.byte_streams.specs.Flows.{Adds, Outflow, Streams}
use Rattle.program_ends.specs.declared.ends.End.{End}
use Rattle.program_ends.specs.declared.ends.End.TheVariants.{Usage, SettingsRefused, AlreadyKept, NoJournal, Damaged, ReadFault, WriteFault, DiskFault, PortFault, ClockOut, OutOfMemory, InputTooLong, JournalFull}

abbrev pub status_of : End → ℕ
status_of Usage = 2
status_of (SettingsRefused what) = 3
status_of AlreadyKept = 4
status_of NoJournal = 5
status_of (Damaged at) = 6
status_of ReadFault = 7
status_of WriteFault = 8
status_of DiskFault = 9
status_of PortFault = 10
status_of ClockOut = 11
status_of OutOfMemory = 12
status_of InputTooLong = 13
status_of JournalFull = 14

abbrev pub is_write_fault : End → Bool
is_write_fault WriteFault = true
is_write_fault _ = false

-- the line of a fault up to its value
abbrev pub fault_prefix : End → List ℕ
fault_prefix Usage = codes "fault Usage"
fault_prefix (SettingsRefused what) = codes "fault SettingsRefused "
fault_prefix AlreadyKept = codes "fault AlreadyKept"
fault_prefix NoJournal = codes "fault NoJournal"
fault_prefix (Damaged at) = codes "fault Damaged "
fault_prefix ReadFault = codes "fault ReadFault"
fault_prefix WriteFault = codes "fault WriteFault"
fault_prefix DiskFault = codes "fault DiskFault"
fault_prefix PortFault = codes "fault PortFault"
fault_prefix ClockOut = codes "fault ClockOut"
fault_prefix OutOfMemory = codes "fault OutOfMemory"
fault_prefix InputTooLong = codes "fault InputTooLong"
fault_prefix JournalFull = codes "fault JournalFull"

-- its value: the settings' fault and its key, or the damaged byte
abbrev pub fault_value : End → List ℕ
fault_value (SettingsRefused what) = what
fault_value (Damaged at) = decimal at
fault_value _ = []

-- the line of a fault
abbrev pub fault_line : End → List ℕ
fault_line end = fault_prefix end ++ fault_value end ++ codes "\n"

abbrev pub write_fault_line : List ℕ
write_fault_line = fault_line WriteFault

-- the status of a run, and the line that belongs behind what it defines; that of a write fault is told apart
abbrev pub own_status : Option End → ℕ
own_status None = 0
own_status (Some end) = status_of end

abbrev pub own_line : Option End → List ℕ
own_line None = []
own_line (Some WriteFault) = []
own_line (Some end) = fault_line end

-- the text begins with this front
abbrev pub Begins : List ℕ → List ℕ → Type 0
Begins front text = (rest : List ℕ) × (text ≡ front ++ rest)

-- a count has risen by two, or stands at its type's end
abbrev pub RoseTwice : ℕ → ℕ → Type 0
RoseTwice before now = min (before + 2) (2 ^ 64 - 1) ≤ now

-- what was written is a front of this text, and then a front of the line of a write fault; where the count rose by one alone, that line stands whole
pub record IsCut (text written : List ℕ) (before now : ℕ) : Type 0 where
  pub front : List ℕ
  pub line : List ℕ
  pub some : Begins front text
  pub told : Begins line write_fault_line
  pub parts : written ≡ front ++ line
  pub once : ¬ RoseTwice before now → line ≡ write_fault_line

-- How a run tells its end, over the bytes that are defined for it, what was written, the output before
-- and after, why it ended, and its status.
pub record IsTold (defined written : List ℕ) (before after : Outflow) (end : Option End) (status : ℕ) : Type 0 where
  -- With another status than 8 the count is as before; the bytes stand, and then exactly the line of the fault.
  pub others : status ≢ 8 → (status ≡ own_status end) × (after.faults ≡ before.faults) × (written ≡ defined ++ own_line end)
  -- A run that ended for no reason went well, and wrote exactly its bytes.
  pub well : end ≡ None → (status ≡ 0) × (written ≡ defined)
  -- With 8 the count rose, and the output was cut somewhere.
  pub cut : status ≡ 8 → Rose before.faults after.faults × IsCut (defined ++ own_line end) written before.faults after.faults

-- what a run has written when it ends: the bytes that are defined, or a front of them before a write
-- fault, the first that was counted
pub record HasWritten (defined written : List ℕ) (before after : Outflow) (end : Option End) : Type 0 where
  pub adds : Adds before.taken after.taken written
  pub whole : end ≢ Some WriteFault → (after.faults ≡ before.faults) × (written ≡ defined)
  pub cut : end ≡ Some WriteFault → Rose before.faults after.faults × Begins written defined

-- the output, from a run's start to when it was told the run's end
pub record Telling (defined : List ℕ) (before after : Outflow) (end : Option End) (status : ℕ) : Type 0 where
  pub written : List ℕ
  pub adds : Adds before.taken after.taken written
  pub told : IsTold defined written before after end status

-- a text that is all that a run writes: it was written, or a front of it before a write fault
abbrev pub TellsText : List ℕ → Outflow → Outflow → ℕ → Type 0
TellsText text before after status = (end : Option End) × ((end ≡ None) ⊎ (end ≡ Some WriteFault)) × Telling text before after end status

-- a front of the text was added
pub record AddsPrefix (taken taken' : Option (List ℕ)) (text : List ℕ) : Type 0 where
  pub front : List ℕ
  pub begins : Begins front text
  pub adds : Adds taken taken' front

-- all of a line was added, or a front of it before a fault
pub record IsTried (line : List ℕ) (before after : Outflow) : Type 0 where
  pub front : List ℕ
  pub begins : Begins front line
  pub adds : Adds before.taken after.taken front
  pub later : before.faults ≤ after.faults
  pub whole : ¬ Rose before.faults after.faults → front ≡ line

-- a text was added, or a front of it before a fault
pub record WritesText {E : Type 0} (before after : Outflow) (result : Result (Unit {0}) E) (text : List ℕ) : Type 0 where
  pub whole : OnOk result (Adds before.taken after.taken text)
  pub front : OnErr result (AddsPrefix before.taken after.taken text)
  pub cause : HasCause before.faults after.faults result
  pub steady : OnOk result (after.faults ≡ before.faults)

-- no word was read as a command: nothing was read, and the end alone was told
pub record IsUsage (before after : Streams) (status : ℕ) : Type 0 where
  pub unread : after.input.left ≡ before.input.left
  pub steady : after.input.faults ≡ before.input.faults
  pub telling : Telling [] before.output after.output (Some Usage) status

-- memory lacked for the words: nothing was read or written
pub record IsUntouched (before after : Streams) (status : ℕ) : Type 0 where
  pub no_memory : status ≡ 12
  pub unread : after.input.left ≡ before.input.left
  pub unwritten : after.output.taken ≡ before.output.taken
  pub steady : (after.input.faults ≡ before.input.faults) × (after.output.faults ≡ before.output.faults)
