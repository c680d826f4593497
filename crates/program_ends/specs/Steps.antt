-- The steps of a run over lines.
use Rattle.std.specs.Prelude.{◌≡◌, ◌≤◌, ◌<◌, ◌⊎◌, ℕ, ◌++◌, List, length, take, Option, Result, Ok, IfOk, IsErrOf, OnErr, OnOk}
use Rattle.byte_streams.specs.Flows.{Adds, Inflow, IsAtEnd, Outflow, Streams, Takes}
use Rattle.desk_traits.specs.Faults.{HasCause, Rose}
use Rattle.program_ends.specs.declared.reading.Stop.{Stop}
use Rattle.program_ends.specs.declared.reading.Stop.TheVariants as stop
use Rattle.program_ends.specs.Ends.{Begins, AddsPrefix}
use Rattle.program_ends.specs.Lines.{Pending, pending_of, lines_from, rest_from}
use Rattle.program_ends.specs.Runs.{Answered, Breaks, LacksNext, AnswersUntil, end_in}

-- A line was answered, and the text written.
pub record Replies {A : Type 0} (answers : A → Option (List ℕ) → List ℕ → A → Type 0) (a z : A) (line : Option (List ℕ)) (before after : Outflow) : Type 0 where
  pub text : List ℕ
  pub answered : answers a line text z
  pub adds : Adds before.taken after.taken text

-- Memory lacked for the answer to a line, or a front of the answer was written.
pub record HaltsAt {A : Type 0} (answers : A → Option (List ℕ) → List ℕ → A → Type 0) (lacks : A → Option (List ℕ) → A → Type 0) (a z : A) (line : Option (List ℕ)) (before after : Outflow) (why : Stop) : Type 0 where
  pub no_memory : why ≡ stop.OutOfMemory → (after.taken ≡ before.taken) × lacks a line z
  pub write_fault : why ≡ stop.Write → (text : List ℕ) × answers a line text z × AddsPrefix before.taken after.taken text
  pub reasons : (why ≡ stop.OutOfMemory) ⊎ (why ≡ stop.Write)

-- The lines that end in a chunk were answered, where this had come of the first; and this is what has come of the next one.
pub record Feeds {A : Type 0} (answers : A → Option (List ℕ) → List ℕ → A → Type 0) (a z : A) (begun chunk : List ℕ) (line : Pending) (before after : Outflow) : Type 0 where
  pub written : List ℕ
  pub adds : Adds before.taken after.taken written
  pub answered : Answered answers a (lines_from begun chunk) written z
  pub rest : line ≡ pending_of (rest_from begun chunk)

-- Some of the lines, the first ones, were answered, until memory lacked or a write failed.
pub record Halts {A : Type 0} (answers : A → Option (List ℕ) → List ℕ → A → Type 0) (lacks : A → Option (List ℕ) → A → Type 0) (a z : A) (lines : List (List ℕ)) (before after : Outflow) (why : Stop) : Type 0 where
  pub done : List (List ℕ)
  pub others : List (List ℕ)
  pub told : List ℕ
  pub last : A
  pub written : List ℕ
  pub first : lines ≡ done ++ others
  pub answered : Answered answers a done told last
  pub adds : Adds before.taken after.taken written
  pub begins : Begins written told
  pub no_memory : why ≡ stop.OutOfMemory → (written ≡ told) × LacksNext lacks last others z
  pub write_fault : why ≡ stop.Write → (z ≡ last) × Breaks answers a z done told written
  pub reasons : (why ≡ stop.OutOfMemory) ⊎ (why ≡ stop.Write)

-- A run over lines until its end is told.
pub record Runs {A T : Type 0} (answers : A → Option (List ℕ) → List ℕ → A → Type 0) (lacks : A → Option (List ℕ) → A → Type 0) (limit : ℕ) (a z : A) (before after : Streams) (result : Result T Stop) : Type 0 where
  pub told : List ℕ
  pub written : List ℕ
  pub run : AnswersUntil answers lacks limit a z before.input.left after.input.left (end_in result) told
  pub adds : Adds before.output.taken after.output.taken written
  pub begins : Begins written told
  pub whole : (IsErrOf result stop.Write → ⊥) → written ≡ told
  pub broken : IsErrOf result stop.Write → Breaks answers a z run.lines told written

-- the count rose where a run ended for this reason, and is as before where it did not
pub record IsCauseOf {T : Type 0} (why : Stop) (before now : ℕ) (result : Result T Stop) : Type 0 where
  pub rose : IsErrOf result why → Rose before now
  pub steady : (IsErrOf result why → ⊥) → now ≡ before

-- one read of at most so many bytes, into the front of a buffer
pub record ReadsIntoStart {E : Type 0} (before after : Inflow) (room : ℕ) (result : Result ℕ E) (buffer : List ℕ) : Type 0 where
  pub taken : IfOk result (λ count. (count ≤ room) × (count ≤ length buffer) × Takes before.left after.left (take count buffer))
  pub ended : result ≡ Ok 0 → 0 < room → IsAtEnd after.left
  pub failed : OnErr result (after.left ≡ before.left)
  pub cause : HasCause before.faults after.faults result
  pub steady : OnOk result (after.faults ≡ before.faults)
