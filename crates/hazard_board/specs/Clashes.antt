-- Clashes: events of one family that are live in one zone at overlapping periods.
use Rattle.std.specs.Prelude.{◌&&◌, not, ℕ, Bool, List, [], ◌∷◌, ◌++◌, map, filter, find, Option, Some, None, option_map, if◌then◌else◌}
use Rattle.std.specs.declared.cmp.Ordering.{Ordering}
use Rattle.std.specs.Option.{option_or}
use Rattle.std.specs.Ordering.{on, then_cmp, is_lt}
use Rattle.hazard_types.specs.Orders.{by_event}
use Rattle.hazard_types.specs.Places.{by_place}
use Rattle.hazard_types.specs.Same.{same_zone, same_event}
use Rattle.hazard_types.specs.declared.line.Clash.{Clash}
use Rattle.hazard_types.specs.declared.line.Line.{Line}
use Rattle.hazard_types.specs.declared.line.Row.{Row}
use Rattle.event_life.specs.Higher.{are_kin, may_yield}
use Rattle.event_life.specs.Periods.{is_live, overlaps}
use Rattle.hazard_board.specs.Taken.{rows_taken}

-- both are live in one zone, and their events are two of one family whose periods overlap
abbrev pub clash : ℕ → Row → Row → Bool
clash t a b = same_zone a.zone b.zone && is_live t a && is_live t b && overlaps a.period b.period && not (same_event a.event b.event) && are_kin a.event.hazard b.event.hazard

abbrev pub clash_of : Row → Row → Clash
clash_of a b = record { zone = a.zone; first = a.event; second = b.event }

-- the row is live, and its hazard has a family: no other clashes
abbrev pub may_clash : ℕ → Row → Bool
may_clash t row = is_live t row && may_yield row.event.hazard

-- each row with each later one that it clashes with
abbrev pub clashes : ℕ → List Row → List Clash
clashes t [] = []
clashes t (row ∷ rows) = map (clash_of row) (filter (clash t row) rows) ++ clashes t rows

abbrev pub first_in : List Clash → Option Clash
first_in [] = None
first_in (c ∷ more) = Some c

-- the first of these: of rows by zone, then event, the least
abbrev pub least_clash : ℕ → List Row → Option Clash
least_clash t rows = first_in (clashes t rows)

-- after lines of which each is judged by the life that it meets alone
abbrev pub clashes_after : List Row → ℕ → List Line → List Clash
clashes_after rows t lines = clashes t (rows_taken rows t lines)

abbrev pub least_after : List Row → ℕ → List Line → Option Clash
least_after rows t lines = least_clash t (rows_taken rows t lines)

-- by zone, then the first event, then the second
abbrev pub by_clash : Clash → Clash → Ordering
by_clash = then_cmp (on (λ (c : Clash). c.zone) by_place) (then_cmp (on (λ (c : Clash). c.first) by_event) (on (λ (c : Clash). c.second) by_event))

-- the first row that clashes with a later one, with the first that it clashes with
abbrev pub first_clash : ℕ → List Row → Option Clash
first_clash t [] = None
first_clash t (row ∷ rows) = option_or (option_map (clash_of row) (find (clash t row) rows)) (first_clash t rows)

-- of two clashes the one in the earlier zone
abbrev pub earlier_clash : Option Clash → Option Clash → Option Clash
earlier_clash None found = found
earlier_clash (Some best) None = Some best
earlier_clash (Some best) (Some found) = if is_lt (by_place found.zone best.zone) then Some found else Some best
