-- The fields of a head, by their names and values.
use Rattle.std.specs.Prelude.{ℕ, ◌&&◌, Bool, List, map, codes}
use Rattle.std.specs.Char.{to_ascii_lowercase}
use Rattle.std.specs.List.{list_any}
use Rattle.std.specs.Str.{bytes_eq}

-- a field's name, and its value without the blanks round it
abbrev pub Pair : Type 0
Pair = List ℕ × List ℕ

-- the same letters, without regard to case
abbrev pub same_letters : List ℕ → List ℕ → Bool
same_letters a b = bytes_eq (map to_ascii_lowercase a) (map to_ascii_lowercase b)

abbrev pub is_named : List ℕ → Pair → Bool
is_named name pair = same_letters pair.0 name

-- a field of this name is there
abbrev pub has_field : List ℕ → List Pair → Bool
has_field name pairs = list_any (is_named name) pairs

-- a field Connection with the value `close`
abbrev pub asks_to_close : Pair → Bool
asks_to_close pair = is_named (codes "connection") pair && same_letters pair.1 (codes "close")

-- such a field is there
abbrev pub has_close : List Pair → Bool
has_close pairs = list_any asks_to_close pairs
