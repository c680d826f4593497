-- An input that is read piece by piece, up to a limit of bytes.
use Rattle.std.specs.Prelude.{◌≡◌, ◌≤◌, ◌<◌, ◌⊎◌, ℕ, ◌+◌, ◌-◌, List, [], length, take, Option, None, Some, Result, IfOk, IfErr}
use Rattle.byte_streams.specs.Flows.{Inflow, IsAtEnd, Takes}
use Rattle.program_ends.specs.declared.reading.Stop.{Stop}
use Rattle.program_ends.specs.declared.reading.Stop.TheVariants as stop
use Rattle.program_ends.specs.Steps.{IsCauseOf}

-- how many bytes an input may have, and how many of it were read
pub record Extent : Type 0 where
  pub limit : ℕ
  pub total : ℕ

abbrev pub extent : ℕ → ℕ → Extent
extent limit total = record { limit = limit; total = total }

-- These bytes lie within the limit: what was read of an input that may have so many bytes is these, or one byte more.
pub record HasRead (limit : ℕ) (now : Extent) (left left' : Option (List ℕ)) (within : List ℕ) : Type 0 where
  pub read : List ℕ
  pub takes : Takes left left' read
  pub limit_is : now.limit ≡ limit
  pub total_is : now.total ≡ length read
  pub most : length read ≤ limit + 1
  pub front : within ≡ take limit read

-- A byte or more was read, and this lies within the limit.
pub record IsPiece (old new : Extent) (left left' : Option (List ℕ)) (piece : List ℕ) : Type 0 where
  pub chunk : List ℕ
  pub takes : Takes left left' chunk
  pub some : 0 < length chunk
  pub limit_is : new.limit ≡ old.limit
  pub total_is : new.total ≡ old.total + length chunk
  pub low : old.total ≤ old.limit
  pub most : new.total ≤ old.limit + 1
  pub front : piece ≡ take (old.limit - old.total) chunk

-- The input's end was read, within the limit.
pub record IsWhole (old new : Extent) (left left' : Option (List ℕ)) : Type 0 where
  pub same : new ≡ old
  pub low : old.total ≤ old.limit
  pub takes : Takes left left' []
  pub ended : IsAtEnd left'

-- a piece stands in the front of the buffer, or there is none more
abbrev pub Finds : Extent → Extent → Inflow → Inflow → List ℕ → Option ℕ → Type 0
Finds old new before after buffer None = IsWhole old new before.left after.left
Finds old new before after buffer (Some n) = (n ≤ length buffer) × IsPiece old new before.left after.left (take n buffer)

-- Nothing was read: the read failed, or a byte beyond the limit was read before.
pub record IsStopped (old new : Extent) (left left' : Option (List ℕ)) (why : Stop) : Type 0 where
  pub same : new ≡ old
  pub unread : left' ≡ left
  pub reasons : ((why ≡ stop.Read) × (old.total ≤ old.limit)) ⊎ ((why ≡ stop.TooLong) × (old.total ≡ old.limit + 1))

-- one read of the next piece, into the front of a buffer
pub record ReadsNext (old new : Extent) (before after : Inflow) (buffer : List ℕ) (result : Result (Option ℕ) Stop) : Type 0 where
  pub found : IfOk result (Finds old new before after buffer)
  pub stopped : IfErr result (IsStopped old new before.left after.left)
  pub cause : IsCauseOf stop.Read before.faults after.faults result
