-- The rows that are shown at a minute.
use Rattle.std.specs.Prelude.{ℕ, List, filter}
use Rattle.hazard_types.specs.declared.line.Row.{Row}
use Rattle.event_life.specs.Periods.{is_live}

-- those that no line has ended and whose end is until further notice or after the minute
abbrev pub shown_at : ℕ → List Row → List Row
shown_at t rows = filter (is_live t) rows
