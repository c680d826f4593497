-- What a run reads and writes, for each status.
use Rattle.std.specs.Prelude.{◌≡◌, ◌≢◌, ◌≤◌, ◌⊎◌, ℕ, ◌+◌, ◌++◌, List, [], length, map, take, Option, MatchOption, IsNone, IsSome}
use Rattle.desk_traits.specs.Faults.{Rose}
use Rattle.byte_streams.specs.Flows.{Streams, Takes, Adds, IsAtEnd}
use Rattle.product_decoder.specs.Decoded.{decode}
use Rattle.product_decoder.specs.Feeding.{products_in, Split}
use Rattle.program_ends.specs.Ends.{fault_line, Begins, IsCut, IsUsage}
use Rattle.program_ends.specs.declared.ends.End.TheVariants.{ReadFault, InputTooLong, OutOfMemory}
use Rattle.archive_report.specs.declared.words.Asked.{Asked}
use Rattle.archive_report.specs.Report.{product_lines, report, listed}
use Rattle.archive_report.specs.Words.{asked_of}

-- whole lines with one heading line at most, and then a line that has not ended
pub record HasOne (rest : List ℕ) : Type 0 where
  pub split : Split rest
  pub one : length (products_in split.lines) ≤ 1

-- The products that are finished within a text: they come first, whatever is to come of it, and no other of its whole heading lines has a later one behind it.
pub record AreFinished (read : List ℕ) (texts : List (List ℕ)) : Type 0 where
  pub rest : List ℕ
  pub first : (more : List ℕ) → products_in (read ++ more) ≡ texts ++ products_in (rest ++ more)
  pub one : HasOne rest

-- the lines of the first products of an input
abbrev pub lines_told : Asked → List (List ℕ) → List ℕ
lines_told asked texts = product_lines asked 1 (map decode texts)

-- the lines of the products that are finished
abbrev pub IsFinishedWritten : Asked → List ℕ → List ℕ → Type 0
IsFinishedWritten asked read told = (texts : List (List ℕ)) × AreFinished read texts × (told ≡ lines_told asked texts)

-- a front of the report of each input that begins so
abbrev pub IsEarly : Asked → List ℕ → List ℕ → Type 0
IsEarly asked read front = (more : List ℕ) → Begins front (report asked (read ++ more))

-- a front of the report: of each input that begins so, or of the whole input
abbrev pub IsFront : Asked → ℕ → List ℕ → Option (List ℕ) → List ℕ → Type 0
IsFront asked limit read left' front = IsEarly asked read front ⊎ (IsAtEnd left' × (length read ≤ limit) × Begins front (report asked read))

-- What stands behind a front of the report where a run ends early: none yet, or the line of a fault that came: the read failed, the input is too long, or memory lacked. But for a read that failed the input's count is as before.
abbrev pub IsEndLine : ℕ → List ℕ → ℕ → ℕ → List ℕ → Type 0
IsEndLine limit read reads reads' line =
    ((line ≡ []) × (reads' ≡ reads))
    ⊎ ((line ≡ fault_line ReadFault) × Rose reads reads' × (length read ≤ limit))
    ⊎ ((line ≡ fault_line InputTooLong) × (reads' ≡ reads) × (length read ≡ limit + 1))
    ⊎ ((line ≡ fault_line OutOfMemory) × (reads' ≡ reads))

-- no count rose
abbrev pub SameFaults : Streams → Streams → Type 0
SameFaults before after =
    (after.input.faults ≡ before.input.faults) × (after.output.faults ≡ before.output.faults)

-- A run for an office, a class and a minute, over an input of at most this many bytes: what was read of the input, what was written for it, and the counts of faults
-- of both ends before and after.
pub record IsArchiveRun (asked : Asked) (limit : ℕ) (before after : Streams) (status : ℕ) : Type 0 where
  pub read : List ℕ
  pub written : List ℕ
  pub takes : Takes before.input.left after.input.left read
  pub adds : Adds before.output.taken after.output.taken written
  -- One byte beyond the limit is read, to see that there is one.
  pub within : length read ≤ limit + 1
  -- The report, whole: nothing is listed in it, or something is.
  pub reported : ((status ≡ 0) ⊎ (status ≡ 3)) → IsAtEnd after.input.left × (length read ≤ limit) × (written ≡ report asked read) × SameFaults before after
  pub clean : status ≡ 0 → listed asked read ≡ 0
  pub against : status ≡ 3 → listed asked read ≢ 0
  -- The lines of the products that were finished, and the line of the fault.
  pub read_fault : status ≡ 7 → Rose before.input.faults after.input.faults × (after.output.faults ≡ before.output.faults) × (length read ≤ limit) × ((told : List ℕ) × IsFinishedWritten asked read told × (written ≡ told ++ fault_line ReadFault))
  pub too_long : status ≡ 13 → SameFaults before after × (length read ≡ limit + 1) × ((told : List ℕ) × IsFinishedWritten asked (take limit read) told × (written ≡ told ++ fault_line InputTooLong))
  -- A front of the report, and the line of the fault; no count rose.
  pub no_memory : status ≡ 12 → SameFaults before after × ((front : List ℕ) × IsFront asked limit read after.input.left front × (written ≡ front ++ fault_line OutOfMemory))
  -- A front of the report with the line of the fault that ended it, if one did before the write failed; and then a front of the line of a write fault, which stands whole where the count rose by one alone.
  pub write_fault : status ≡ 8 → Rose before.output.faults after.output.faults × ((front : List ℕ) × (line : List ℕ) × IsFront asked limit read after.input.left front × IsEndLine limit read before.input.faults after.input.faults line × IsCut (front ++ line) written before.output.faults after.output.faults)
  pub others : (status ≡ 0) ⊎ (status ≡ 3) ⊎ (status ≡ 7) ⊎ (status ≡ 8) ⊎ (status ≡ 12) ⊎ (status ≡ 13)

-- What the words ask for was done: an office, a class and a stamp ask for a report, and other words for their usage.
pub record DoesAsAsked (words : List (List ℕ)) (limit : ℕ) (before after : Streams) (status : ℕ) : Type 0 where
  -- What was read and written, for each status.
  pub run : MatchOption (asked_of words) (IsUsage before after status) (λ asked. IsArchiveRun asked limit before after status)
  -- Other words alone end with 2.
  pub usage : status ≡ 2 → IsNone (asked_of words)
  -- A fault is told only where a count rose.
  pub read_fault : status ≡ 7 → Rose before.input.faults after.input.faults
  pub write_fault : status ≡ 8 → Rose before.output.faults after.output.faults
  -- Where no count rose, there is a report of an input within the limit, or memory lacked, or the input is too long.
  pub complete : IsSome (asked_of words) → ¬ Rose before.input.faults after.input.faults → ¬ Rose before.output.faults after.output.faults → (status ≡ 0) ⊎ (status ≡ 3) ⊎ (status ≡ 12) ⊎ (status ≡ 13)
