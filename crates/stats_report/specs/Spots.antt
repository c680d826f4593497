-- Rows at their spots, each with the minutes that are counted for it.
use Rattle.std.specs.Prelude.{◌≡◌, ℕ, ◌+◌, ◌-◌, List, map, Option, Some, None, option_map}
use Rattle.std.specs.BTreeMap.{insert_entry, is_at}
use Rattle.std.specs.List.{AllByRecursion}
use Rattle.std.specs.Map.{lookup}
use Rattle.std.specs.declared.cmp.Ordering.{Ordering}
use Rattle.std.specs.Ordering.{on, then_cmp}
use Rattle.hazard_types.specs.Orders.{by_event}
use Rattle.hazard_types.specs.Places.{Place, by_place}
use Rattle.hazard_types.specs.declared.hazard.Event.{Event}
use Rattle.hazard_types.specs.declared.line.Line.{Line}
use Rattle.hazard_types.specs.declared.line.Row.{Row}
use Rattle.event_life.specs.Products.{Product, life_of, row_of, rows_of}
use Rattle.event_life.specs.Table.{life_after_lawful_line}
use Rattle.stats_report.specs.Minutes.{minutes_of, minutes_left}

-- an event in a zone
pub record Spot : Type 0 where
  pub zone : Place
  pub event : Event

-- a row, and its minutes in effect before the stamp
pub record Counted : Type 0 where
  pub row : Row
  pub minutes : ℕ

-- by zone, then event
abbrev pub by_spot : Spot → Spot → Ordering
by_spot = then_cmp (on (λ (s : Spot). s.zone) by_place) (on (λ (s : Spot). s.event) by_event)

abbrev pub spot_at : Event → Place → Spot
spot_at e z = record { zone = z; event = e }

-- the spot of a row, and that of a line
abbrev pub spot_of : Row → Spot
spot_of r = spot_at r.event r.zone

abbrev pub spot_of_line : Line → Spot
spot_of_line line = spot_at line.event line.zone

abbrev pub Spots : Type 0
Spots = List (Spot × Counted)

abbrev pub rows_in : Spots → List Row
rows_in es = map (λ (e : Spot × Counted). e.1.row) es

-- each row is at its own spot
abbrev pub AreSpotted : Spots → Type 0
AreSpotted es = AllByRecursion (λ (e : Spot × Counted). e.0 ≡ spot_of e.1.row) es

-- each has its minutes
abbrev pub AreExact : ℕ → List Product → Spots → Type 0
AreExact stamp products es = AllByRecursion (λ (e : Spot × Counted). e.1.minutes ≡ minutes_of stamp products e.1.row.event e.1.row.zone) es

-- the rows of products at their spots, each with its minutes before the stamp
pub record IsCounted (stamp : ℕ) (products : List Product) (es : Spots) : Type 0 where
  pub rows : rows_in es ≡ rows_of products
  pub spotted : AreSpotted es
  pub exact : AreExact stamp products es

-- What a line changes.

abbrev pub counted_at : Spots → Line → Option Counted
counted_at es line = lookup (is_at (by_spot (spot_of_line line))) es

abbrev pub row_counted : Option Counted → Option Row
row_counted before = option_map (λ (c : Counted). c.row) before

abbrev pub minutes_counted : Option Counted → ℕ
minutes_counted None = 0
minutes_counted (Some c) = c.minutes

-- the row that a line leaves
unfoldable pub row_left : Option Row → Line → ℕ → Row
row_left before line t = row_of line (life_after_lawful_line (option_map life_of before) line t)

-- the minutes from one on are those that the line leaves
abbrev pub counted_after : ℕ → ℕ → ℕ → Line → Option Counted → Counted
counted_after stamp from t line before = record {
  row = row_left (row_counted before) line t;
  minutes = (minutes_counted before - minutes_left stamp from (row_counted before)) + minutes_left stamp from (Some (row_left (row_counted before) line t));
}

abbrev pub changed : ℕ → ℕ → ℕ → Spots → Line → Spots
changed stamp from t es line = insert_entry by_spot es (spot_of_line line) (counted_after stamp from t line (counted_at es line))
