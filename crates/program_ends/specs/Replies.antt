-- What a line is answered, as the bytes that are written.
use Rattle.std.specs.Prelude.{ℕ, List, [], ◌++◌, codes}
use Rattle.program_ends.specs.declared.reply.Reply.{Reply}
use Rattle.program_ends.specs.declared.reply.Reply.TheVariants.{Nothing, Line, Fixed, Whole}

-- a line has an LF behind it, and a whole text is written as it is
abbrev pub bytes_of : Reply → List ℕ
bytes_of Nothing = []
bytes_of (Line text) = text ++ codes "\n"
bytes_of (Fixed text) = text.now ++ codes "\n"
bytes_of (Whole text) = text
