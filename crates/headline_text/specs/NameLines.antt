-- Names of zones on lines.
use Rattle.std.specs.Prelude.{ℕ, ◌≡◌, ◌+◌, ◌==◌, ◌&&◌, not, nat_lt, Bool, List, [], ◌∷◌, ◌++◌, length, map, flat_map, if◌then◌else◌}
use Rattle.std.specs.List.{concat}

-- a name and its hyphen go on the next line where the line is begun and they pass its end
abbrev pub passes : ℕ → List ℕ → Bool
passes column name = not (column == 0) && nat_lt 66 (column + length name + 1)

abbrev pub name_part : ℕ → List ℕ → List ℕ
name_part column name = if passes column name then 10 ∷ (name ++ 45 ∷ []) else name ++ 45 ∷ []

abbrev pub name_column : ℕ → List ℕ → ℕ
name_column column name = if passes column name then length name + 1 else column + length name + 1

-- names from a column on
abbrev pub names_from : ℕ → List (List ℕ) → List ℕ
names_from column [] = []
names_from column (name ∷ names) = name_part column name ++ names_from (name_column column name) names

-- names, each followed by a hyphen, on lines of at most 66 characters with LF between them
unfoldable pub name_lines : List (List ℕ) → List ℕ
name_lines names = names_from 0 names

-- a line with these names, each followed by a hyphen
abbrev pub line_of : List (List ℕ) → List ℕ
line_of names = concat (map (λ name. name ++ 45 ∷ []) names)

-- the lines have these names, each whole and on one line, in their order
pub record AreOfNames (names lines : List (List ℕ)) : Type 0 where
  pub groups : List (List (List ℕ))
  pub all : flat_map (λ group. group) groups ≡ names
  pub each : lines ≡ map line_of groups

-- a line that ends with a hyphen
abbrev pub EndsInHyphen : List ℕ → Type 0
EndsInHyphen line = (front : List ℕ) × (line ≡ front ++ 45 ∷ [])
