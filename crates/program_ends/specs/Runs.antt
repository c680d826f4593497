-- What a run over the lines of an input reads, answers and tells.
use Rattle.std.specs.Prelude.{◌≡◌, ◌≢◌, ◌≤◌, ◌⊎◌, ℕ, ◌+◌, ◌++◌, ◌∷◌, List, [], length, take, Option, None, Some, Result, Ok, Err}
use Rattle.desk_traits.specs.Faults.{Rose}
use Rattle.byte_streams.specs.Flows.{Adds, IsAtEnd, Outflow, Streams, Takes}
use Rattle.program_ends.specs.declared.ends.End.{End}
use Rattle.program_ends.specs.declared.ends.End.TheVariants.{ReadFault, WriteFault, InputTooLong, OutOfMemory}
use Rattle.program_ends.specs.declared.reading.Stop.{Stop}
use Rattle.program_ends.specs.declared.reading.Stop.TheVariants as stop
use Rattle.program_ends.specs.Ends.{Begins, RoseTwice, Telling, write_fault_line}
use Rattle.program_ends.specs.Lines.{ended_lines, lines_of, fit}

-- The lines were answered one after another, each with a text and a state after it; this is all that was told, and the last state.
abbrev pub Answered : {A : Type 0} → (A → Option (List ℕ) → List ℕ → A → Type 0) → A → List (List ℕ) → List ℕ → A → Type 0
Answered answers a [] told z = (told ≡ []) × (z ≡ a)
Answered answers a (line ∷ lines) told z = (text : List ℕ) × (b : _) × (rest : List ℕ) × answers a (fit line) text b × (told ≡ text ++ rest) × Answered answers b lines rest z

-- memory lacked for the answer to the next line
abbrev pub LacksNext : {A : Type 0} → (A → Option (List ℕ) → A → Type 0) → A → List (List ℕ) → A → Type 0
LacksNext lacks last others z = (line : List ℕ) × (more : List (List ℕ)) × (others ≡ line ∷ more) × lacks last (fit line) z

-- memory lacked before the first read: nothing was read, and no line answered
pub record IsUnbegun {A : Type 0} (a z : A) (left left' : Option (List ℕ)) (read : List ℕ) (lines : List (List ℕ)) : Type 0 where
  pub none : read ≡ []
  pub unread : left' ≡ left
  pub unanswered : lines ≡ []
  pub same : z ≡ a

-- A write failed at the last of the lines that were answered: the texts of the lines before it were written whole, and of its own a front alone.
pub record Breaks {A : Type 0} (answers : A → Option (List ℕ) → List ℕ → A → Type 0) (a z : A) (lines : List (List ℕ)) (told written : List ℕ) : Type 0 where
  pub before : List (List ℕ)
  pub line : List ℕ
  pub state : A
  pub whole : List ℕ
  pub text : List ℕ
  pub front : List ℕ
  pub lines_are : lines ≡ before ++ line ∷ []
  pub answered : Answered answers a before whole state
  pub last : answers state (fit line) text z
  pub told_is : told ≡ whole ++ text
  pub begins : Begins front text
  pub written_is : written ≡ whole ++ front

-- The first lines of an input of at most this many bytes were answered until a run ended: well, or for a reason. This is all that was told, and the state after it.
pub record AnswersUntil {A : Type 0} (answers : A → Option (List ℕ) → List ℕ → A → Type 0) (lacks : A → Option (List ℕ) → A → Type 0) (limit : ℕ) (a z : A) (left left' : Option (List ℕ)) (end : Option End) (told : List ℕ) : Type 0 where
  pub read : List ℕ
  pub lines : List (List ℕ)
  pub others : List (List ℕ)
  pub last : A
  pub takes : Takes left left' read
  -- One byte beyond the limit is read, and is no line's.
  pub within : length read ≤ limit + 1
  pub first : lines_of read ≡ lines ++ others
  pub answered : Answered answers a lines told last
  -- the answered lines are some of those that an LF within the limit ends, or, at the input's end, all
  pub whole : ((others ≡ []) × IsAtEnd left' × (length read ≤ limit)) ⊎ ((more : List (List ℕ)) × (ended_lines (take limit read) ≡ lines ++ more))
  -- all lines, the last of which has no LF
  pub ended : end ≡ None → IsAtEnd left' × (length read ≤ limit) × (lines ≡ lines_of read)
  -- all lines that an LF ends
  pub read_fault : end ≡ Some ReadFault → (length read ≤ limit) × (lines ≡ ended_lines read)
  pub too_long : end ≡ Some InputTooLong → (length read ≡ limit + 1) × (lines ≡ ended_lines (take limit read))
  pub state : end ≢ Some OutOfMemory → z ≡ last
  -- memory lacked before the first read, or for the answer to the next line, which is one that an LF within the limit ends, or the last one at the input's end
  pub no_memory : end ≡ Some OutOfMemory → IsUnbegun a z left left' read lines ⊎ LacksNext lacks last others z
  pub next : end ≡ Some OutOfMemory → IsUnbegun a z left left' read lines ⊎ ((line : List ℕ) × (more : List (List ℕ)) × (ended_lines (take limit read) ≡ lines ++ line ∷ more)) ⊎ ((line : List ℕ) × (others ≡ line ∷ []) × IsAtEnd left' × (length read ≤ limit))
  pub reasons : (end ≡ None) ⊎ (end ≡ Some ReadFault) ⊎ (end ≡ Some WriteFault) ⊎ (end ≡ Some InputTooLong) ⊎ (end ≡ Some OutOfMemory)

-- Behind a failed write no further line is taken: what was written of the answers ends with a front of the last one, and behind it the line of the write fault was tried. Where the count rose by one alone, that line stands whole.
pub record IsBroken {A : Type 0} (answers : A → Option (List ℕ) → List ℕ → A → Type 0) (a z : A) (lines : List (List ℕ)) (told : List ℕ) (before after : Outflow) : Type 0 where
  pub written : List ℕ
  pub fault : List ℕ
  pub breaks : Breaks answers a z lines told written
  pub begins : Begins fault write_fault_line
  pub once : ¬ RoseTwice before.faults after.faults → fault ≡ write_fault_line
  pub adds : Adds before.taken after.taken (written ++ fault)

-- A whole run over the lines of an input: what was answered, what was told of its end, and the input and the output before and after.
pub record IsLinesRun {A : Type 0} (answers : A → Option (List ℕ) → List ℕ → A → Type 0) (lacks : A → Option (List ℕ) → A → Type 0) (limit : ℕ) (a z : A) (before after : Streams) (status : ℕ) : Type 0 where
  pub end : Option End
  pub told : List ℕ
  pub run : AnswersUntil answers lacks limit a z before.input.left after.input.left end told
  pub telling : Telling told before.output after.output end status
  pub broken : end ≡ Some WriteFault → IsBroken answers a z run.lines told before.output after.output
  -- the input's count rose exactly where a read ended the run
  pub rose : end ≡ Some ReadFault → Rose before.input.faults after.input.faults
  pub steady : end ≢ Some ReadFault → after.input.faults ≡ before.input.faults
  -- each fault's status comes only where that count rose, and status 12 only where none did
  pub read_fault : status ≡ 7 → Rose before.input.faults after.input.faults
  pub write_fault : status ≡ 8 → Rose before.output.faults after.output.faults
  pub no_memory : status ≡ 12 → (after.input.faults ≡ before.input.faults) × (after.output.faults ≡ before.output.faults)
  -- where no count rose the input was read to its end, or memory lacked, or it is too long
  pub complete : ¬ Rose before.input.faults after.input.faults → ¬ Rose before.output.faults after.output.faults → (status ≡ 0) ⊎ (status ≡ 12) ⊎ (status ≡ 13)

-- why a run over lines ended
abbrev pub end_of : Stop → End
end_of stop.Read = ReadFault
end_of stop.Write = WriteFault
end_of stop.TooLong = InputTooLong
end_of stop.OutOfMemory = OutOfMemory

abbrev pub end_in : {T : Type 0} → Result T Stop → Option End
end_in (Ok x) = None
end_in (Err why) = Some (end_of why)
