-- What is written into a journal's file.
use Rattle.std.specs.Prelude.{ℕ, ◌+◌, List, ◌∷◌, ◌++◌, length, take, drop}
use Rattle.journal_core.specs.Packet.{framed}

-- the file with these bytes at a place
abbrev pub put : ℕ → List ℕ → List ℕ → List ℕ
put at bytes file = take at file ++ (bytes ++ drop (at + length bytes) file)

-- the file with an open gate at a place, and behind it length, body and a closed gate; all other bytes are as before
abbrev pub with_record : ℕ → List ℕ → List ℕ → List ℕ
with_record gate body file = take gate file ++ 71 ∷ (framed body ++ drop (gate + 6 + length body) file)
