-- The words of a drill.
use Rattle.std.specs.Prelude.{ℕ, List, if◌then◌else◌, Option, None, Some, codes}
use Rattle.std.specs.Str.{bytes_eq}
use Rattle.program_ends.specs.Numbers.{number_in}
use Rattle.desk_drill.specs.declared.drill.Drill.{Drill}

-- both numbers of a drill
abbrev pub drill_of : Option ℕ → Option ℕ → Option Drill
drill_of (Some number) (Some count) = Some (record { number = number; count = count })
drill_of _ _ = None

-- `drill NUMBER COUNT`: a number below 2^64, and a count of at most 8,192
unfoldable pub parse_drill : List ℕ → List ℕ → List ℕ → Option Drill
parse_drill command number count = if bytes_eq command (codes "drill") then drill_of (number_in 18446744073709551615 number) (number_in 8192 count) else None
