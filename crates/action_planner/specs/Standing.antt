-- What holds of an office's rows and numbers between its products.
use Rattle.std.specs.Prelude.{◌≤◌, ℕ, IsTrue, List, is_some}
use Rattle.std.specs.List.{AllByRecursion}
use Rattle.hazard_types.specs.Hazards.{facts_of}
use Rattle.hazard_types.specs.declared.hazard.Hazard.{Hazard}
use Rattle.hazard_types.specs.declared.line.Row.{Row}
use Rattle.event_numbers.specs.declared.Count.{Count}
use Rattle.event_numbers.specs.Counts.{count_of}
use Rattle.hazard_board.specs.Consistent.{IsConsistent, NoneIsAhead}
use Rattle.action_planner.specs.Conditions.{AreNumbered, AreSited}

-- the desk issues the hazard
abbrev pub IsKnown : Hazard → Type 0
IsKnown h = IsTrue (is_some (facts_of h))

abbrev pub AreKnown : List Row → Type 0
AreKnown rows = AllByRecursion (λ (row : Row). IsKnown row.event.hazard) rows

-- at most 9,999 numbers of a hazard and year are drawn
abbrev pub HaveFourDigits : List Count → Type 0
HaveFourDigits counts = (h : Hazard) (year : ℕ) → count_of counts h year ≤ 9999

-- the rows are consistent and sited, and of hazards that the desk issues; no row's event is of a later year; the events that have rows are numbered as the counts have it, with four digits
pub record Stands (rows : List Row) (counts : List Count) (t : ℕ) : Type 0 where
  pub consistent : IsConsistent rows t
  pub behind : NoneIsAhead rows t
  pub numbered : AreNumbered rows counts
  pub digits : HaveFourDigits counts
  pub sited : AreSited rows
  pub known : AreKnown rows
