-- The lines of a text, and what is asked of them.
use Rattle.std.specs.Prelude.{ℕ, ◌<◌, ◌+◌, ◌==◌, ◌||◌, not, Bool, List, [], ◌∷◌, ◌++◌, length, ⊤, if◌then◌else◌}
use Rattle.std.specs.List.{list_any, list_all, filter}
use Rattle.headline_text.specs.Wrapping.{words}

-- the lines of a text whose first line goes on with these bytes
abbrev pub lines_from : List ℕ → List ℕ → List (List ℕ)
lines_from line [] = line ∷ []
lines_from line (c ∷ cs) = if c == 10 then line ∷ lines_from [] cs else lines_from (line ++ c ∷ []) cs

-- what LF parts
abbrev pub lines : List ℕ → List (List ℕ)
lines text = lines_from [] text

-- it has a character that is no blank
abbrev pub has_word : List ℕ → Bool
has_word text = list_any (λ c. not (c == 32)) text

-- no byte of it is LF
abbrev pub is_one_line : List ℕ → Bool
is_one_line text = list_all (λ c. not (c == 10)) text

-- its bytes but blanks and LF
abbrev pub without_blanks : List ℕ → List ℕ
without_blanks text = filter (λ c. not ((c == 32) || (c == 10))) text

-- its bytes but LF
abbrev pub without_breaks : List ℕ → List ℕ
without_breaks text = filter (λ c. not (c == 10)) text

-- the first of words, or none
abbrev pub first_word : List (List ℕ) → List ℕ
first_word [] = []
first_word (word ∷ more) = word

-- a line, one blank and the first word of the next line take more than 66 characters
abbrev pub IsFullBefore : List ℕ → List (List ℕ) → Type 0
IsFullBefore line [] = ⊤
IsFullBefore line (next ∷ more) = 66 < length line + 1 + length (first_word (words next))

-- each line ends only where the next word does not fit behind it
abbrev pub EndWhereFull : List (List ℕ) → Type 0
EndWhereFull [] = ⊤
EndWhereFull (line ∷ more) = IsFullBefore line more × EndWhereFull more
