-- What a source and a sink show, and what a read and a write do to that.
use Rattle.std.specs.Prelude.{◌≡◌, ℕ, ◌<◌, ◌≤◌, List, [], ◌++◌, length, take, Option, None, Some, option_map, Result, Ok, Err, OnOk}
use Rattle.desk_traits.specs.Faults.{HasCause}

-- what comes in: the bytes that are left to read, where they are told, and how many reads have
-- failed
pub record Inflow : Type 0 where
  pub left : Option (List ℕ)
  pub faults : ℕ

-- what goes out: the bytes that were taken, where they are told, and how many writes have failed
pub record Outflow : Type 0 where
  pub taken : Option (List ℕ)
  pub faults : ℕ

-- the same, by their parts
abbrev pub inflow : Option (List ℕ) → ℕ → Inflow
inflow left faults = record { left = left; faults = faults }

abbrev pub outflow : Option (List ℕ) → ℕ → Outflow
outflow taken faults = record { taken = taken; faults = faults }

-- an input and an output, at one moment
pub record Streams : Type 0 where
  pub input : Inflow
  pub output : Outflow

abbrev pub streams : Inflow → Outflow → Streams
streams input output = record { input = input; output = output }

-- old is the bytes and then new
abbrev pub Takes : Option (List ℕ) → Option (List ℕ) → List ℕ → Type 0
Takes old new bytes = old ≡ option_map (λ rest. bytes ++ rest) new

-- new is old and then the bytes
abbrev pub Adds : Option (List ℕ) → Option (List ℕ) → List ℕ → Type 0
Adds old new bytes = new ≡ option_map (λ taken. taken ++ bytes) old

-- a source that tells what is left has nothing left
abbrev pub IsAtEnd : Option (List ℕ) → Type 0
IsAtEnd None = Unit {0}
IsAtEnd (Some rest) = rest ≡ []

-- n bytes were taken into the front of the buffer, none only at the end; a failure takes nothing
abbrev pub Gives : {E : Type 0} → Option (List ℕ) → Option (List ℕ) → Result ℕ E → List ℕ → Type 0
Gives old new (Ok n) buffer = (n ≤ length buffer) × Takes old new (take n buffer) × (n ≡ 0 → 0 < length buffer → IsAtEnd new)
Gives old new (Err e) buffer = new ≡ old

-- n bytes of the front of the piece were added, at least one of a piece that has one
abbrev pub Keeps : {E : Type 0} → Option (List ℕ) → Option (List ℕ) → Result ℕ E → List ℕ → Type 0
Keeps old new (Ok n) piece = (n ≤ length piece) × Adds old new (take n piece) × (0 < length piece → 0 < n)
Keeps old new (Err e) piece = new ≡ old

-- one read into a buffer
pub record Reads {E : Type 0} (old new : Inflow) (result : Result ℕ E) (buffer : List ℕ) : Type 0 where
  pub bytes : Gives old.left new.left result buffer
  pub cause : HasCause old.faults new.faults result
  pub steady : OnOk result (new.faults ≡ old.faults)

-- one write of a piece
pub record Writes {E : Type 0} (old new : Outflow) (result : Result ℕ E) (piece : List ℕ) : Type 0 where
  pub bytes : Keeps old.taken new.taken result piece
  pub cause : HasCause old.faults new.faults result
  pub steady : OnOk result (new.faults ≡ old.faults)

-- a write of a whole text, or of a front of it before a fault
pub record WritesWhole {E : Type 0} (old new : Outflow) (result : Result (Unit {0}) E) (bytes : List ℕ) : Type 0 where
  pub ok : OnOk result (Adds old.taken new.taken bytes)
  pub part : (n : ℕ) × (n ≤ length bytes) × Adds old.taken new.taken (take n bytes)
  pub cause : HasCause old.faults new.faults result
  pub steady : OnOk result (new.faults ≡ old.faults)
