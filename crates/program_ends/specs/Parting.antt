-- How the lines of an input make up its bytes.
use Rattle.std.specs.Prelude.{◌≡◌, ℕ, ◌==◌, false, List, [], ◌∷◌, ◌++◌, map}
use Rattle.program_ends.specs.Lines.{lines_from, rest_from, without_return}

-- lines, each with an LF behind it, and then what has no LF
abbrev pub laid : List (List ℕ) → List ℕ → List ℕ
laid [] rest = rest
laid (line ∷ lines) rest = line ++ 10 ∷ laid lines rest

-- no LF among the bytes
abbrev pub HasNoEnd : List ℕ → Type 0
HasNoEnd [] = Unit {0}
HasNoEnd (c ∷ cs) = ((c == 10) ≡ false) × HasNoEnd cs

abbrev pub HaveNoEnd : List (List ℕ) → Type 0
HaveNoEnd [] = Unit {0}
HaveNoEnd (line ∷ lines) = HasNoEnd line × HaveNoEnd lines

-- The bytes, behind those that have come of a line, are lines without an LF, each with its LF, and the rest; the lines that are answered are these without one CR at their ends.
pub record AreParted (line bytes : List ℕ) : Type 0 where
  pub raw : List (List ℕ)
  pub whole : line ++ bytes ≡ laid raw (rest_from line bytes)
  pub lines : lines_from line bytes ≡ map without_return raw
  pub endless : HaveNoEnd raw
  pub rest : HasNoEnd (rest_from line bytes)
