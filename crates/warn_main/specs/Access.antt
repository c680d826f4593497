-- Which runs write to the journal's file.
use Rattle.std.specs.Prelude.{ℕ, List, Option, None, Some}
use Rattle.program_outside.specs.declared.files.Access.{Access}
use Rattle.program_outside.specs.declared.files.Access.TheVariants.{Reads, Writes}
use Rattle.desk_program.specs.Words.{command_of}
use Rattle.desk_program.specs.declared.words.Command.{Command}
use Rattle.desk_program.specs.declared.words.Command.TheVariants.{Init, Script, Upgrade}
use Rattle.serve_command.specs.Words.{parse_serve_args}
use Rattle.serve_command.specs.declared.words.Serving.{Serving}

-- a command that is no `serve`: these write, the others do not
abbrev pub access_by : Option Command → Access
access_by (Some Init) = Writes
access_by (Some Script) = Writes
access_by (Some Upgrade) = Writes
access_by _ = Reads

abbrev pub access_in : Option Serving → Option Command → Access
access_in (Some serving) command = Writes
access_in None command = access_by command

-- `init`, `script`, `upgrade` and `serve` write; all other words only read, if that
abbrev pub access_of : List (List ℕ) → Access
access_of words = access_in (parse_serve_args words) (command_of words)
