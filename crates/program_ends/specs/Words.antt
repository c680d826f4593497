-- The words of a command line.
use Rattle.std.specs.Prelude.{ℕ, List, map, drop, String, string_bytes}
use Rattle.std.specs.declared.alloc.Global.{Global}

-- the words behind the first ones, byte for byte
abbrev pub words_after : ℕ → List (String Global) → List (List ℕ)
words_after skipped words = map string_bytes (drop skipped words)
