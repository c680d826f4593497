-- What is kept comes to what is counted of the rows.
use Rattle.std.specs.Prelude.{◌≡◌, ◌≤◌, ℕ, Bool, true, false, List, [], ◌∷◌, ◌++◌, fold, Option, None}
use Rattle.std.specs.BTreeMap.{is_at}
use Rattle.std.specs.List.{list_any}
use Rattle.std.specs.List.Sorted.{IsStrictlySortedBy}
use Rattle.std.specs.Map.{keys_of, values_of}
use Rattle.std.specs.declared.cmp.Ordering.{Ordering}
use Rattle.hazard_types.specs.Orders.{by_hazard, by_event}
use Rattle.hazard_types.specs.Places.{Place, by_place}
use Rattle.hazard_types.specs.Same.{same_zone, same_hazard}
use Rattle.hazard_types.specs.declared.hazard.Event.{Event}
use Rattle.hazard_types.specs.declared.hazard.Hazard.{Hazard}
use Rattle.hazard_types.specs.declared.line.Line.{Line}
use Rattle.hazard_types.specs.declared.line.Row.{Row}
use Rattle.event_life.specs.declared.life.Breach.{Breach}
use Rattle.event_life.specs.Lives.{ends}
use Rattle.event_life.specs.Products.{by_key, row_at, lawful_of}
use Rattle.product_decoder.specs.Openings.{openings_in}
use Rattle.product_decoder.specs.declared.types.Opening.{Opening}
use Rattle.stats_report.specs.Adding.{sum_where, count_where, lead_of}
use Rattle.stats_report.specs.Minutes.{minutes_left}
use Rattle.stats_report.specs.Spells.{Kept, spell_at, left_of, sums_at}
use Rattle.stats_report.specs.Spots.{Spots, Counted, rows_in, AreSpotted, counted_at, row_counted, minutes_counted, changed}
use Rattle.stats_report.specs.declared.standing.Moment.{Moment}
use Rattle.stats_report.specs.declared.sums.Sums.{Sums}

-- which events and zones are meant

abbrev pub Test : Type 0
Test = Event → Place → Bool

abbrev pub in_zone : Place → Test
in_zone y e z = same_zone z y

abbrev pub of_hazard : Hazard → Test
of_hazard h e z = same_hazard e.hazard h

abbrev pub of_any : Test
of_any e z = true

abbrev pub passes : Test → Counted → Bool
passes test c = test c.row.event c.row.zone

abbrev pub opens_in : Test → Opening → Bool
opens_in test o = test o.event o.zone

-- the sums of those that are meant
pub record AreSums (es : Spots) (opened : List Opening) (test : Test) (s : Sums) : Type 0 where
  pub minutes : s.minutes ≡ sum_where (passes test) (λ (c : Counted). c.minutes) (values_of es)
  pub openings : s.openings ≡ count_where (opens_in test) opened
  pub lead : s.lead ≡ sum_where (opens_in test) lead_of opened

-- Rows that are counted, and these openings, are summed up: from the latest issue minute on each row's spell has its minutes, and each sum is what it comes to.
pub record IsSummed (stamp latest : ℕ) (es : Spots) (openings : List Opening) (k : Kept) : Type 0 where
  pub spells : (e : Event) (z : Place) (from : ℕ) → latest ≤ from → left_of from (spell_at k e z) ≡ minutes_left stamp from (row_at (rows_in es) e z)
  pub zones : (z : Place) → AreSums es openings (in_zone z) (sums_at by_place k.zones z)
  pub hazards : (h : Hazard) → AreSums es openings (of_hazard h) (sums_at by_hazard k.hazards h)
  pub all : AreSums es openings of_any k.all

-- the keys are those of the rows, in order
pub record AreKeysOf {K : Type 0} (R : K → K → Ordering) (key : Row → K) (rows : List Row) (ks : List K) : Type 0 where
  pub there : (q : K) → list_any (is_at (R q)) ks ≡ list_any (λ (r : Row). is_at (R q) (key r)) rows
  pub order : IsStrictlySortedBy R ks

abbrev pub hazard_of : Row → Hazard
hazard_of r = r.event.hazard

abbrev pub event_of : Row → Event
event_of r = r.event

abbrev pub zone_of : Row → Place
zone_of r = r.zone

pub record AreKeyed (rows : List Row) (k : Kept) : Type 0 where
  pub events : AreKeysOf by_event event_of rows (keys_of k.spells)
  pub zones : AreKeysOf by_place zone_of rows (keys_of k.zones)
  pub hazards : AreKeysOf by_hazard hazard_of rows (keys_of k.hazards)

-- A lawful line fits what is counted before it: what its row still has is counted, and a line that ends a row has one.
pub record IsFit (m : Moment) (es : Spots) (line : Line) : Type 0 where
  pub spotted : AreSpotted es
  pub order : IsStrictlySortedBy by_key (rows_in es)
  pub within : minutes_left m.stamp m.from (row_counted (counted_at es line)) ≤ minutes_counted (counted_at es line)
  pub going : row_counted (counted_at es line) ≡ None → ends line.action ≡ false

abbrev pub after_line : Moment → Spots → Line → Spots
after_line m es line = changed m.stamp m.from m.issue es line

-- so do lines, each where those before it changed what is counted
abbrev pub AreFit : Moment → Spots → List Line → Type 0
AreFit m es [] = Unit {0}
AreFit m es (line ∷ lines) = IsFit m es line × AreFit m (after_line m es line) lines

-- what is kept is of these rows and openings
abbrev pub IsKeptOf : Moment → Spots → List Opening → Kept → Type 0
IsKeptOf m es openings k = IsSummed m.stamp m.from es openings k × AreKeyed (rows_in es) k

-- lawful lines were taken: what was kept of rows and openings is kept of those after them
abbrev pub TakesLawful : Moment → List Line → Kept → Kept → Type 0
TakesLawful m lines old new = (m.issue ≤ m.from) → (es : Spots) (openings : List Opening) → IsKeptOf m es openings old → AreFit m es lines
    → IsKeptOf m (fold (after_line m) es lines) (openings ++ openings_in m.issue lines) new

-- judged lines of a product were taken: the lawful ones were
abbrev pub TakesLines : Moment → List (Line × Option Breach) → Kept → Kept → Type 0
TakesLines m judged old new = TakesLawful m (lawful_of judged) old new
