-- What a run reads and writes, for each status.
use Rattle.std.specs.Prelude.{◌≡◌, ◌≤◌, ◌⊎◌, ℕ, ◌+◌, List, length, Option, MatchOption, IsNone, IsSome}
use Rattle.desk_traits.specs.Faults.{Rose}
use Rattle.byte_streams.specs.Flows.{Streams, Takes, Adds, IsAtEnd}
use Rattle.program_ends.specs.Ends.{fault_line, IsCut, IsUsage}
use Rattle.program_ends.specs.declared.ends.End.TheVariants.{ReadFault, InputTooLong, OutOfMemory}
use Rattle.archive_report.specs.declared.words.Asked.{Asked}
use Rattle.archive_report.specs.Runs.{SameFaults}
use Rattle.archive_report.specs.Words.{asked_of}
use Rattle.stats_report.specs.Readings.{statistics}

-- What a run was to write when a write failed: the statistics of the whole input, or the line of a fault that came: the read failed, the input is too long, or memory lacked. But for a read that failed the input's count is as before.
abbrev pub WasTold : Asked → ℕ → List ℕ → Option (List ℕ) → ℕ → ℕ → List ℕ → Type 0
WasTold asked limit read left' reads reads' text =
    ((text ≡ statistics asked read) × IsAtEnd left' × (length read ≤ limit) × (reads' ≡ reads))
    ⊎ ((text ≡ fault_line ReadFault) × Rose reads reads' × (length read ≤ limit))
    ⊎ ((text ≡ fault_line InputTooLong) × (reads' ≡ reads) × (length read ≡ limit + 1))
    ⊎ ((text ≡ fault_line OutOfMemory) × (reads' ≡ reads))

-- A run for an office, a class and a stamp, over an input of at most this many bytes: what was read of the input, what was written for it, and the counts of faults
-- of both ends before and after.
pub record IsStatsRun (asked : Asked) (limit : ℕ) (before after : Streams) (status : ℕ) : Type 0 where
  pub read : List ℕ
  pub written : List ℕ
  pub takes : Takes before.input.left after.input.left read
  pub adds : Adds before.output.taken after.output.taken written
  -- One byte beyond the limit is read, to see that there is one.
  pub within : length read ≤ limit + 1
  -- The statistics, whole.
  pub told : status ≡ 0 → IsAtEnd after.input.left × (length read ≤ limit) × (written ≡ statistics asked read) × SameFaults before after
  -- The line of the fault, alone.
  pub read_fault : status ≡ 7 → Rose before.input.faults after.input.faults × (after.output.faults ≡ before.output.faults) × (length read ≤ limit) × (written ≡ fault_line ReadFault)
  pub too_long : status ≡ 13 → SameFaults before after × (length read ≡ limit + 1) × (written ≡ fault_line InputTooLong)
  pub no_memory : status ≡ 12 → SameFaults before after × (written ≡ fault_line OutOfMemory)
  -- A front of what was to be written, and then a front of the line of a write fault, which stands whole where the count rose by one alone.
  pub write_fault : status ≡ 8 → Rose before.output.faults after.output.faults × ((text : List ℕ) × WasTold asked limit read after.input.left before.input.faults after.input.faults text × IsCut text written before.output.faults after.output.faults)
  pub others : (status ≡ 0) ⊎ (status ≡ 7) ⊎ (status ≡ 8) ⊎ (status ≡ 12) ⊎ (status ≡ 13)

-- What the words ask for was done: an office, a class and a stamp ask for statistics, and other words for their usage.
pub record DoesAsAsked (words : List (List ℕ)) (limit : ℕ) (before after : Streams) (status : ℕ) : Type 0 where
  -- What was read and written, for each status.
  pub run : MatchOption (asked_of words) (IsUsage before after status) (λ asked. IsStatsRun asked limit before after status)
  -- Other words alone end with 2.
  pub usage : status ≡ 2 → IsNone (asked_of words)
  -- A fault is told only where a count rose.
  pub read_fault : status ≡ 7 → Rose before.input.faults after.input.faults
  pub write_fault : status ≡ 8 → Rose before.output.faults after.output.faults
  -- Where no count rose, there are statistics of an input within the limit, or memory lacked, or the input is too long.
  pub complete : IsSome (asked_of words) → ¬ Rose before.input.faults after.input.faults → ¬ Rose before.output.faults after.output.faults → (status ≡ 0) ⊎ (status ≡ 12) ⊎ (status ≡ 13)
