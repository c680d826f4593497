-- The lines of an input, and how many bytes of it are read.
use Rattle.std.specs.Prelude.{ℕ, ◌-◌, take, slice_index, ◌==◌, ◌&&◌, List, [], ◌∷◌, ◌++◌, Bool, length, nat_lt, if◌then◌else◌, Option, Some, None}

-- a line without one CR at its end
abbrev pub without_return : List ℕ → List ℕ
without_return line = if nat_lt 0 (length line) && (slice_index line (length line - 1) == 13) then take (length line - 1) line else line

-- The lines that an LF ends within the bytes, where this is what has come of the first; a CR directly before the LF is no part of the line.
abbrev pub lines_from : List ℕ → List ℕ → List (List ℕ)
lines_from line [] = []
lines_from line (c ∷ cs) = if c == 10 then without_return line ∷ lines_from [] cs else lines_from (line ++ c ∷ []) cs

-- what has come of the line after them
abbrev pub rest_from : List ℕ → List ℕ → List ℕ
rest_from line [] = line
rest_from line (c ∷ cs) = if c == 10 then rest_from [] cs else rest_from (line ++ c ∷ []) cs

-- the lines of these bytes that an LF ends
abbrev pub ended_lines : List ℕ → List (List ℕ)
ended_lines bytes = lines_from [] bytes

-- all the lines, the last of which has no LF; it may be empty
abbrev pub lines_of : List ℕ → List (List ℕ)
lines_of bytes = ended_lines bytes ++ rest_from [] bytes ∷ []

-- the line, unless it has more than 65,536 bytes
abbrev pub fit : List ℕ → Option (List ℕ)
fit line = if nat_lt 65536 (length line) then None else Some line

-- what is kept of a line that is being read: its first 65,537 bytes, and whether it has more
pub record Pending : Type 0 where
  pub kept : List ℕ
  pub is_longer : Bool

unfoldable pub pending_of : List ℕ → Pending
pending_of line = record { kept = take 65537 line; is_longer = nat_lt 65537 (length line) }

-- the most bytes of an input that is read to its end
abbrev pub most_bytes : ℕ
most_bytes = 1073741824
