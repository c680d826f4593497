-- Words of the code that looks for gaps: the last number that was opened of each hazard and year.
use Rattle.std.specs.Prelude.{◌≡◌, ◌==◌, ◌+◌, ℕ, List, [], ◌∷◌, if◌then◌else◌, unwrap_or}
use Rattle.std.specs.BTreeMap.{is_at}
use Rattle.std.specs.Map.{lookup}
use Rattle.std.specs.Ordering.{nat_cmp, on, then_cmp}
use Rattle.std.specs.declared.cmp.Ordering.{Ordering}
use Rattle.hazard_types.specs.Orders.{by_hazard}
use Rattle.hazard_types.specs.declared.hazard.Event.{Event}
use Rattle.event_life.specs.declared.openings.Gap.{Gap}
use Rattle.event_life.specs.declared.openings.Series.{Series}
use Rattle.event_life.specs.Openings.{wanted_after}

abbrev pub series_of : Event → Series
series_of e = record { hazard = e.hazard; year = e.year }

-- by hazard, then year
abbrev pub by_series : Series → Series → Ordering
by_series = then_cmp (on (λ (s : Series). s.hazard) by_hazard) (on (λ (s : Series). s.year) nat_cmp)

-- one more than the last number of the event's hazard and year, from 1
abbrev pub next_number : List (Series × ℕ) → Event → ℕ
next_number lasts e = 1 + unwrap_or (lookup (is_at (by_series (series_of e))) lasts) 0

-- the gap at an event, if there is one
abbrev pub gap_in : List (Series × ℕ) → Event → List Gap
gap_in lasts e = if e.etn == next_number lasts e then [] else record { event = e; wanted = next_number lasts e } ∷ []

-- the numbers are the last ones of these events
abbrev pub AreLast : List (Series × ℕ) → List Event → Type 0
AreLast lasts earlier = (e : Event) → next_number lasts e ≡ wanted_after earlier e
