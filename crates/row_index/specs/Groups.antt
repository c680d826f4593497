-- Lines of a product judged for all zones that find the same at once.
use Rattle.std.specs.Prelude.{◌≡◌, ◌++◌, ◌∷◌, ℕ, Bool, true, List, [], flat_map, map, Option, Some, option_map}
use Rattle.std.specs.List.{AllByRecursion, list_any}
use Rattle.std.specs.Map.{values_of}
use Rattle.hazard_types.specs.Hazards.{facts_of}
use Rattle.hazard_types.specs.Places.{Place}
use Rattle.hazard_types.specs.declared.hazard.Event.{Event}
use Rattle.hazard_types.specs.declared.line.Line.{Line}
use Rattle.hazard_types.specs.declared.line.Row.{Row}
use Rattle.event_life.specs.declared.life.Life.{Life}
use Rattle.event_life.specs.Higher.{family_of}
use Rattle.event_life.specs.Products.{breach_in, is_upgrade, life_of, row_at}
use Rattle.row_index.specs.Holding.{AreRowsOf}
use Rattle.row_index.specs.Runs.{in_zone}
use Rattle.row_index.specs.Seating.{AreSeated, upgrades}
use Rattle.row_index.specs.Steps.{AreHigher, IsChanged, asked_around}
use Rattle.row_index.specs.Verdicts.{IsFoundAt}
use Rattle.row_index.specs.declared.higher.Changed.{Changed}
use Rattle.row_index.specs.declared.judging.Asking.{Asking}
use Rattle.row_index.specs.declared.verdicts.Part.{Part}
use Rattle.row_index.specs.declared.verdicts.Run.{Run}
use Rattle.row_index.specs.declared.verdicts.Verdict.{Verdict}

-- the event has this life in a zone, or none
abbrev pub IsLifeIn : List Row → Event → Option Life → Place → Type 0
IsLifeIn rows e found z = option_map life_of (row_at rows e z) ≡ found

-- a line of the part says that a higher row takes a zone over
abbrev pub has_upgrade : Part → Bool
has_upgrade p = list_any upgrades p.lines

-- what a line is judged by in any zone: the rows of its event, and what stands around it; the rows of the change are at their seats
pub record IsAsking (rows : List Row) (a : Asking) : Type 0 where
  pub own : AreRowsOf rows a.line.event a.rows
  pub stands : a.around ≡ asked_around a.line.action rows a.t a.line true
  pub counted : AreSeated a.changed.now.counted.entries
  pub higher : AreSeated a.changed.now.higher.entries

-- in a zone the change serves a line, if it is a UPG line: it is that of the product's lines, with the rows above the line's row
abbrev pub Serves : List Row → ℕ → List Line → Changed → Line → Place → Type 0
Serves rows t all c l z = is_upgrade l.action ≡ true → IsChanged rows t all (values_of c.counted.entries) c.upgraded.keys
    × ((own : Row) → row_at rows l.event z ≡ Some own → AreHigher rows t own (family_of (facts_of l.event.hazard)) (values_of c.higher.entries))

-- the line found this life of its event in a zone, and has this breach there
abbrev pub IsJudgedAt : List Row → ℕ → List Line → Place → Verdict → Type 0
IsJudgedAt rows t all z v = IsFoundAt rows z v × (v.breach ≡ breach_in rows t all [] (in_zone v.line z))

-- in a zone these lines were judged, and the change serves the next one
abbrev pub IsReady : List Row → ℕ → List Line → Changed → Line → List Verdict → Place → Type 0
IsReady rows t all c l verdicts z = AllByRecursion (IsJudgedAt rows t all z) verdicts × Serves rows t all c l z

-- the lines of verdicts
abbrev pub lines_of : List Verdict → List Line
lines_of verdicts = map (λ (v : Verdict). v.line) verdicts

-- these lines were judged in each zone of the run
pub record IsJudged (rows : List Row) (t : ℕ) (all lines : List Line) (r : Run) : Type 0 where
  pub said : lines_of r.verdicts ≡ lines
  pub each : AllByRecursion (λ (z : Place). AllByRecursion (IsJudgedAt rows t all z) r.verdicts) r.zones

abbrev pub AreJudged : List Row → ℕ → List Line → List Line → List Run → Type 0
AreJudged rows t all lines runs = AllByRecursion (IsJudged rows t all lines) runs

-- the zones of runs
abbrev pub zones_of : List Run → List Place
zones_of runs = flat_map (λ (r : Run). r.zones) runs

-- the change serves each line of a part in each of its zones
abbrev pub AreServed : List Row → ℕ → List Line → Changed → Part → Type 0
AreServed rows t all c p = AllByRecursion (λ (l : Line). AllByRecursion (Serves rows t all c l) p.zones.now) p.lines

-- The same of a line that is asked about.

-- the change serves it in a zone
abbrev pub IsServed : List Row → List Line → Asking → Place → Type 0
IsServed rows all a z = Serves rows a.t all a.changed.now a.line z

-- it finds this in a zone
abbrev pub IsAlike : List Row → List Line → Asking → Verdict → Place → Type 0
IsAlike rows all a v z = IsJudgedAt rows a.t all z v

-- these lines were judged in a zone, and it is served there
abbrev pub IsNext : List Row → List Line → Asking → List Verdict → Place → Type 0
IsNext rows all a verdicts z = IsReady rows a.t all a.changed.now a.line verdicts z

-- these lines and then it were judged in each zone of the runs
abbrev pub AreLonger : List Row → List Line → Asking → List Verdict → List Run → Type 0
AreLonger rows all a verdicts runs = AreJudged rows a.t all (lines_of verdicts ++ a.line ∷ []) runs
