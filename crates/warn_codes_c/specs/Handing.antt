-- Rows in a caller's buffer.
use Rattle.std.specs.Prelude.{Bool, List, ◌++◌, length, drop, nat_le, if◌then◌else◌}

-- the buffer has room for the rows
abbrev pub fits : {T : Type 0} → List T → List T → Bool
fits rows buffer = nat_le (length rows) (length buffer)

-- the rows stand at the front of the buffer, or it is as it was
abbrev pub placed : {T : Type 0} → Bool → List T → List T → List T
placed room rows buffer = if room then rows ++ drop (length rows) buffer else buffer

-- the same where the buffer has room for all of them
abbrev pub handed : {T : Type 0} → List T → List T → List T
handed rows buffer = placed (fits rows buffer) rows buffer
