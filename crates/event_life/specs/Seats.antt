-- Words of the code that judges products: where a row belongs, and which lines count where a higher row is looked for.
use Rattle.std.specs.Prelude.{◌&&◌, ◌||◌, not, ℕ, ◌<◌, ◌≤◌, Bool, true, List, length, slice_set, Result, Ok, Err, is_none}
use Rattle.std.specs.List.{insert, list_any}
use Rattle.hazard_types.specs.declared.line.Line.{Line}
use Rattle.hazard_types.specs.declared.line.Row.{Row}
use Rattle.event_life.specs.Products.{is_routine, is_upgrade, concerns, is_second, life_at, around_but_higher}
use Rattle.event_life.specs.Table.{breach_of_line}

-- the items with one of them in the place of another, or before what stands at a place
abbrev pub seated : {X : Type 0} → Result ℕ ℕ → X → List X → List X
seated (Ok i) x xs = slice_set xs i x
seated (Err i) x xs = insert xs i x

abbrev pub IsSeat : {X : Type 0} → Result ℕ ℕ → List X → Type 0
IsSeat (Ok i) xs = i < length xs
IsSeat (Err i) xs = i ≤ length xs

-- the line is lawful and no UPG
abbrev pub may_be_higher : List Row → ℕ → List Line → Line → Bool
may_be_higher rows t earlier line = not (is_routine line.action) && not (is_upgrade line.action) && not (is_second earlier line) && is_none (breach_of_line (life_at rows line) line t (around_but_higher rows t line true))

-- a UPG line speaks of the row
abbrev pub is_upgraded : List Line → Row → Bool
is_upgraded lines r = list_any (λ (line : Line). is_upgrade line.action && concerns r.event r.zone line) lines

-- the row, ended where it is so
abbrev pub end_if_upgraded : List Line → Row → Row
end_if_upgraded lines r = record { event = r.event; zone = r.zone; period = r.period; flood = r.flood; ended = is_upgraded lines r || r.ended }
