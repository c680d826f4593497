-- The rows that may be live, kept beside all rows.
use Rattle.std.specs.Prelude.{◌≡◌, ℕ, List, Option, IfSome}
use Rattle.hazard_types.specs.declared.line.Row.{Row}
use Rattle.event_life.specs.Shown.{shown_at}

-- at a minute, where there is one, the same rows are live among some as among all
abbrev pub AreLive : Option ℕ → List Row → List Row → Type 0
AreLive since rows live = IfSome since (λ m. shown_at m live ≡ shown_at m rows)
