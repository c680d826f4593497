-- The rows after lines of which each is judged by the life that it meets alone.
use Rattle.std.specs.Prelude.{ℕ, Bool, true, false, List, fold, if◌then◌else◌, Option, Some, None, Result, Ok, Err}
use Rattle.hazard_types.specs.declared.codes.Action.{Action}
use Rattle.hazard_types.specs.declared.codes.Action.TheVariants.{Exa}
use Rattle.hazard_types.specs.declared.line.Line.{Line}
use Rattle.hazard_types.specs.declared.line.Row.{Row}
use Rattle.event_life.specs.declared.life.Around.{Around}
use Rattle.event_life.specs.declared.life.Breach.{Breach}
use Rattle.event_life.specs.declared.life.Life.{Life}
use Rattle.event_life.specs.Products.{is_routine, life_at, put, row_of}
use Rattle.event_life.specs.Table.{step}

abbrev pub wants_same : Action → Bool
wants_same Exa = true
wants_same _ = false

-- what stands around a line, taken as a lawful line of this action has it: NumberHeld is left aside
abbrev pub wanted : Action → Around
wanted action = record { opened = false; going = true; held = false; same = wants_same action; higher = true }

abbrev pub row_if : Line → Result Life Breach → Option Row
row_if line (Ok life) = Some (row_of line life)
row_if line (Err breach) = None

-- the row that the line leaves of a life; a routine line leaves none
abbrev pub row_after_on_life : Option Life → ℕ → Line → Option Row
row_after_on_life life t line = if is_routine line.action then None else row_if line (step life line t (wanted line.action))

abbrev pub row_left : List Row → ℕ → Line → Option Row
row_left rows t line = row_after_on_life (life_at rows line) t line

abbrev pub add_row_if_some : Option Row → List Row → List Row
add_row_if_some None rows = rows
add_row_if_some (Some row) rows = put row rows

-- the rows after the lines, each taken as lawful where the life that it meets allows it
abbrev pub rows_taken : List Row → ℕ → List Line → List Row
rows_taken rows t lines = fold (λ (after : List Row) (line : Line). add_row_if_some (row_left rows t line) after) rows lines

-- the same, where each line meets the rows that the lines before it left
abbrev pub taken_in_turn : ℕ → List Row → List Line → List Row
taken_in_turn t rows lines = fold (λ (after : List Row) (line : Line). add_row_if_some (row_left after t line) after) rows lines
