-- The words of a command line.
use Rattle.std.specs.Prelude.{ℕ, ◌≤◌, ◌&&◌, List, [], ◌∷◌, if◌then◌else◌, Option, None, Some, option_map, codes, IsTrue}
use Rattle.std.specs.Option.{option_or}
use Rattle.std.specs.Str.{bytes_eq}
use Rattle.hazard_types.specs.Calendar.{stamp_at}
use Rattle.hazard_types.specs.Characters.{is_office}
use Rattle.desk_drill.specs.Words.{parse_drill}
use Rattle.desk_program.specs.declared.words.Command.{Command}
use Rattle.desk_program.specs.declared.words.Command.TheVariants as command

-- `init`, `script`, `export`, `upgrade` or `board`
abbrev pub parse_one_word : List ℕ → Option Command
parse_one_word word =
    if bytes_eq word (codes "init") then Some command.Init
    else if bytes_eq word (codes "script") then Some command.Script
    else if bytes_eq word (codes "export") then Some command.Export
    else if bytes_eq word (codes "upgrade") then Some command.Upgrade
    else if bytes_eq word (codes "board") then Some (command.Board None)
    else None

-- `board --at STAMP`
abbrev pub parse_board_words : List ℕ → List ℕ → List ℕ → Option Command
parse_board_words a b c = if bytes_eq a (codes "board") && bytes_eq b (codes "--at") then option_map (λ m. command.Board (Some m)) (stamp_at c) else None

-- `dry OFFICE STAMP`
abbrev pub parse_dry_words : List ℕ → List ℕ → List ℕ → Option Command
parse_dry_words a b c = if bytes_eq a (codes "dry") && is_office b then option_map (λ m. command.Dry (record { office = b; minute = m })) (stamp_at c) else None

-- `drill NUMBER COUNT`
abbrev pub parse_drill_words : List ℕ → List ℕ → List ℕ → Option Command
parse_drill_words a b c = option_map (λ drill. command.Drill drill) (parse_drill a b c)

-- `board --at STAMP`, `dry OFFICE STAMP` or `drill NUMBER COUNT`
abbrev pub parse_three_words : List ℕ → List ℕ → List ℕ → Option Command
parse_three_words a b c = option_or (parse_board_words a b c) (option_or (parse_dry_words a b c) (parse_drill_words a b c))

-- the command that the words are, all of them
unfoldable pub command_of : List (List ℕ) → Option Command
command_of (a ∷ []) = parse_one_word a
command_of (a ∷ b ∷ c ∷ []) = parse_three_words a b c
command_of _ = None

-- its values have their forms
abbrev pub IsCommand : Command → Type 0
IsCommand (command.Dry dry) = IsTrue (is_office dry.office)
IsCommand (command.Drill drill) = drill.count ≤ 8192
IsCommand _ = Unit {0}
