-- How text is wrapped. A blank is a space.
use Rattle.std.specs.Prelude.{◌≡◌, ◌≤◌, ℕ, ◌+◌, ◌-◌, ◌==◌, take, drop, nat_le, nat_lt, Bool, List, [], ◌∷◌, ◌++◌, length, if◌then◌else◌}

-- a word before others, unless it is empty
abbrev pub with_word : List ℕ → List (List ℕ) → List (List ℕ)
with_word [] more = more
with_word (c ∷ cs) more = (c ∷ cs) ∷ more

-- the words of a text that goes on with a word
abbrev pub words_from : List ℕ → List ℕ → List (List ℕ)
words_from word [] = with_word word []
words_from word (c ∷ cs) = if c == 32 then with_word word (words_from [] cs) else words_from (word ++ c ∷ []) cs

-- what blanks part; a run of blanks is one parting
abbrev pub words : List ℕ → List (List ℕ)
words text = words_from [] text

-- what begins a line after the first
abbrev pub next_line : List ℕ
next_line = 10 ∷ 32 ∷ 32 ∷ []

-- the room that a word asks for behind another: that of all its characters up to 64, and of one where it has more
abbrev pub room : List ℕ → ℕ
room word = if nat_le (length word) 64 then length word else 1

-- it fits behind the word before it and one blank
abbrev pub fits_after : ℕ → List ℕ → Bool
fits_after column word = nat_le (column + 1 + room word) 66

-- what stands before a word at a column: nothing at the beginning, one blank where it fits behind, else the beginning of the next line
abbrev pub lead : ℕ → List ℕ → List ℕ
lead column word = if column == 0 then [] else (if fits_after column word then 32 ∷ [] else next_line)

-- the column at which it begins
abbrev pub start : ℕ → List ℕ → ℕ
start column word = if column == 0 then 0 else (if fits_after column word then column + 1 else 2)

-- characters from a column on, which go on on the next line where the line is full
abbrev pub fill : ℕ → List ℕ → List ℕ
fill column [] = []
fill column (c ∷ cs) = if nat_lt column 66 then c ∷ fill (column + 1) cs else next_line ++ c ∷ fill 3 cs

-- the column behind them
abbrev pub behind : ℕ → List ℕ → ℕ
behind column [] = column
behind column (c ∷ cs) = if nat_lt column 66 then behind (column + 1) cs else behind 3 cs

-- a word at a column with what stands before it, and the column behind it; an empty word is none
abbrev pub part : ℕ → List ℕ → List ℕ
part column [] = []
part column (c ∷ cs) = lead column (c ∷ cs) ++ fill (start column (c ∷ cs)) (c ∷ cs)

abbrev pub column_after : ℕ → List ℕ → ℕ
column_after column [] = column
column_after column (c ∷ cs) = behind (start column (c ∷ cs)) (c ∷ cs)

-- words from a column on
abbrev pub lay : ℕ → List (List ℕ) → List ℕ
lay column [] = []
lay column (word ∷ more) = part column word ++ lay (column_after column word) more

-- lines of at most 66 characters with LF between them; each after the first begins with two blanks
unfoldable pub wrapped : List ℕ → List ℕ
wrapped text = lay 0 (words text)

-- the word from one place to another stands in the text behind one blank, and stands so on its line
pub record Follows (text : List ℕ) (column to start end : ℕ) : Type 0 where
  pub piece : (from : ℕ) → from ≤ to → take (end - from) (drop from text) ≡ take (to - from) (drop from text) ++ part column (take (end - start) (drop start text))
  pub moves : column_after column (take (end - start) (drop start text)) ≡ column + (end - to)
  pub within : column + (end - to) ≤ 66
  pub order : to ≤ end
