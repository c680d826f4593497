-- Lines that have no breach but NumberHeld, and NoHigher, which looks at what other lines leave.
use Rattle.std.specs.Prelude.{◌≡◌, not, ℕ, Bool, true, false, List, [], ◌∷◌, ◌++◌, filter, if◌then◌else◌, Option, Some, None}
use Rattle.hazard_types.specs.declared.line.Line.{Line}
use Rattle.hazard_types.specs.declared.line.Row.{Row}
use Rattle.event_life.specs.declared.life.Around.{Around}
use Rattle.event_life.specs.declared.life.Breach.{Breach}
use Rattle.event_life.specs.declared.life.Breach.TheVariants.{Twice}
use Rattle.event_life.specs.Products.{is_routine, is_second, has_rows, is_open, has_opened_period, life_at, put_all}
use Rattle.event_life.specs.Table.{breach_of_line}

abbrev pub touches : Line → Bool
touches line = not (is_routine line.action)

-- the rows where each line that touches a life leaves its row
abbrev pub rows_left : List Row → ℕ → List Line → List Row
rows_left rows t lines = put_all rows t (filter touches lines) rows

-- what stands around a line, where its number is taken as free, and a higher row as there
abbrev pub around_freed : List Row → ℕ → Line → Around
around_freed rows t line = record { opened = has_rows rows line.event; going = is_open rows t line.event; held = false; same = has_opened_period rows t line; higher = true }

-- the first breach of a line but these two, behind the earlier lines of its product
unfoldable pub breach_but_held : List Row → ℕ → List Line → Line → Option Breach
breach_but_held rows t earlier line =
    if is_routine line.action then None else
    (if is_second earlier line then Some Twice else
    breach_of_line (life_at rows line) line t (around_freed rows t line))

-- none of the lines has one
abbrev pub HaveNoneButHeld : List Row → ℕ → List Line → List Line → Type 0
HaveNoneButHeld rows t earlier [] = Unit {0}
HaveNoneButHeld rows t earlier (line ∷ lines) = (breach_but_held rows t earlier line ≡ None) × HaveNoneButHeld rows t (earlier ++ line ∷ []) lines
