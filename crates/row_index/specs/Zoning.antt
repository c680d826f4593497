-- Rows by zone.
use Rattle.std.specs.Prelude.{◌≡◌, Bool, false, List, [], ◌∷◌, Option, Some, None}
use Rattle.std.specs.List.{AllByRecursion}
use Rattle.hazard_types.specs.Places.{Place}
use Rattle.hazard_types.specs.Same.{same_event}
use Rattle.hazard_types.specs.declared.hazard.Event.{Event}
use Rattle.hazard_types.specs.declared.line.Row.{Row}

-- each row is at its zone
abbrev pub AreZoned : List (Place × Row) → Type 0
AreZoned es = AllByRecursion (λ (e : Place × Row). e.0 ≡ e.1.zone) es

-- the rows are of an event
abbrev pub AreOf : Event → List Row → Type 0
AreOf d rows = AllByRecursion (λ (r : Row). r.event ≡ d) rows

-- the rows are of one event
abbrev pub AreOfFirst : List Row → Type 0
AreOfFirst [] = Unit {0}
AreOfFirst (r ∷ rows) = AreOf r.event rows

-- there is a row, and it is of the event
abbrev pub is_first_of : Option Row → Event → Bool
is_first_of None d = false
is_first_of (Some r) d = same_event r.event d
