-- The first line of an event in a zone decides what a product does to the row there.
use Rattle.std.specs.Prelude.{ℕ, Bool, List, find, if◌then◌else◌, Option, Some, None, is_none}
use Rattle.hazard_types.specs.Places.{Place}
use Rattle.hazard_types.specs.declared.hazard.Event.{Event}
use Rattle.hazard_types.specs.declared.line.Line.{Line}
use Rattle.hazard_types.specs.declared.line.Row.{Row}
use Rattle.event_life.specs.Products.{concerns, life_at, around_of, row_at, row_after}
use Rattle.event_life.specs.Table.{breach_of_line}

-- the first of the lines that speak of the event in the zone
abbrev pub first_line : List Line → Event → Place → Option Line
first_line lines e z = find (concerns e z) lines

-- the line has no breach, judged by the rows before its product
abbrev pub is_lawful : List Row → ℕ → List Line → Line → Bool
is_lawful rows t lines line = is_none (breach_of_line (life_at rows line) line t (around_of rows t lines line))

-- the row that the first line leaves where it is lawful, else the row as it was
abbrev pub row_by_first : List Row → ℕ → List Line → Option Row → Option Line → Option Row
row_by_first rows t lines before None = before
row_by_first rows t lines before (Some line) = if is_lawful rows t lines line then Some (row_after rows t line) else before

abbrev pub row_by_first_line : List Row → ℕ → List Line → Event → Place → Option Row
row_by_first_line rows t lines e z = row_by_first rows t lines (row_at rows e z) (first_line lines e z)
