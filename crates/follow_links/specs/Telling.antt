-- What a run tells, and its status.
use Rattle.std.specs.Prelude.{◌≡◌, ◌≢◌, ◌++◌, ℕ, List, length, codes, decimal}
use Rattle.desk_traits.specs.Faults.{Rose}
use Rattle.byte_streams.specs.Flows.{Adds, Outflow}
use Rattle.hazard_types.specs.Calendar.{stamp_of}
use Rattle.hazard_types.specs.declared.line.Row.{Row}
use Rattle.board_text.specs.Rows.{board_text}
use Rattle.program_ends.specs.Ends.{IsCut}

-- the place
abbrev pub place_line : ℕ → List ℕ
place_line place = codes "place " ++ (decimal place ++ codes "\n")

-- what stands before the rows that are shown at a minute: it, and their count
abbrev pub shown_front : ℕ → ℕ → List ℕ
shown_front minute n = codes "shown " ++ (stamp_of minute ++ (codes " " ++ (decimal n ++ codes "\n")))

-- the place, and the rows that are shown at a minute
abbrev pub report : ℕ → ℕ → List Row → List ℕ
report place minute rows = place_line place ++ (shown_front minute (length rows) ++ board_text rows)

abbrev pub bad_line : ℕ → List ℕ
bad_line place = codes "fault BadAnswer " ++ (decimal place ++ codes "\n")

abbrev pub spent_line : List ℕ
spent_line = codes "fault RoundsSpent\n"

abbrev pub memory_line : List ℕ
memory_line = codes "fault OutOfMemory\n"

abbrev pub usage_line : List ℕ
usage_line = codes "fault Usage\n"

-- This text was told, and the status is its own. With status 8 the output's count rose, and what was
-- written is cut somewhere, with the line of the write fault behind it.
pub record IsToldAs (text : List ℕ) (own : ℕ) (before after : Outflow) (status : ℕ) : Type 0 where
  pub written : List ℕ
  pub adds : Adds before.taken after.taken written
  pub whole : status ≢ 8
      → (status ≡ own) × (after.faults ≡ before.faults) × (written ≡ text)
  pub cut : status ≡ 8
      → Rose before.faults after.faults × IsCut text written before.faults after.faults
