-- What the lawful lines of a run say, line by line and zone by zone.
use Rattle.std.specs.Prelude.{List, [], ◌∷◌, map, flat_map, if◌then◌else◌}
use Rattle.hazard_types.specs.Places.{Place}
use Rattle.hazard_types.specs.declared.line.Line.{Line}
use Rattle.row_index.specs.Runs.{in_zone}
use Rattle.row_index.specs.Verdicts.{leaves_row}
use Rattle.row_index.specs.declared.verdicts.Verdict.{Verdict}

-- the lines that are lawful and touch lives
abbrev pub lawful_in : List Verdict → List Line
lawful_in [] = []
lawful_in (v ∷ verdicts) = if leaves_row v then v.line ∷ lawful_in verdicts else lawful_in verdicts

-- the same line in each of these zones
abbrev pub along : Line → List Place → List Line
along line zones = map (in_zone line) zones

-- each line in each of these zones, one line after another
abbrev pub line_by_line : List Line → List Place → List Line
line_by_line lines zones = flat_map (λ (l : Line). along l zones) lines
