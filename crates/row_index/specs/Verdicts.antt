-- What the lines of a product say in each of some zones, what they found there, and the rows that they leave.
use Rattle.std.specs.Prelude.{◌≡◌, ◌&&◌, ◌++◌, ◌∷◌, ℕ, Bool, true, false, not, List, [], flat_map, map, is_none, is_some, slice_get, Option}
use Rattle.std.specs.List.{AllByRecursion, list_any}
use Rattle.hazard_types.specs.Places.{Place}
use Rattle.hazard_types.specs.Same.{same_event}
use Rattle.hazard_types.specs.declared.line.Line.{Line}
use Rattle.hazard_types.specs.declared.line.Row.{Row}
use Rattle.event_life.specs.declared.life.Breach.{Breach}
use Rattle.event_life.specs.declared.life.Life.{Life}
use Rattle.event_life.specs.Products.{around_but_higher, breach_in, is_routine, is_second, is_upgrade, life_at}
use Rattle.event_life.specs.Table.{breach_of_line, life_after_lawful_line}
use Rattle.row_index.specs.Runs.{in_zone}
use Rattle.row_index.specs.declared.verdicts.Part.{Part}
use Rattle.row_index.specs.declared.verdicts.Run.{Run}
use Rattle.row_index.specs.declared.verdicts.Verdict.{Verdict}

-- a line with its first breach, or None where it is lawful
abbrev pub Judged : Type 0
Judged = Line × Option Breach

-- what lines say in a zone, and in each of some zones, zone by zone
abbrev pub said_at : List Line → Place → List Line
said_at lines z = map (λ (l : Line). in_zone l z) lines

abbrev pub said_along : List Line → List Place → List Line
said_along lines zones = flat_map (said_at lines) zones

-- the lines of parts, in the order of the text
abbrev pub said_in : Part → List Line
said_in p = said_along p.lines p.zones.now

abbrev pub lines_in : List Part → List Line
lines_in parts = flat_map said_in parts

-- the lines of runs with their breaches, in the order of the text
abbrev pub expand_at : List Verdict → Place → List Judged
expand_at verdicts z = map (λ (v : Verdict). (in_zone v.line z, v.breach)) verdicts

abbrev pub expand_run : Run → List Judged
expand_run r = flat_map (expand_at r.verdicts) r.zones

abbrev pub expand : List Run → List Judged
expand runs = flat_map expand_run runs

-- the line found this life of its event in a zone
abbrev pub IsFoundAt : List Row → Place → Verdict → Type 0
IsFoundAt rows z v = life_at rows (in_zone v.line z) ≡ v.found

-- each line of a run found its life in each of the zones
abbrev pub IsFound : List Row → Run → Type 0
IsFound rows r = AllByRecursion (λ (z : Place). AllByRecursion (IsFoundAt rows z) r.verdicts) r.zones

abbrev pub AreFound : List Row → List Run → Type 0
AreFound rows runs = AllByRecursion (IsFound rows) runs

-- lines are of an event each
abbrev pub HaveOwnEvents : List Line → Type 0
HaveOwnEvents [] = Unit {0}
HaveOwnEvents (l ∷ lines) = AllByRecursion (λ (m : Line). same_event l.event m.event ≡ false) lines × HaveOwnEvents lines

-- and so are those of each run
abbrev pub AreApart : List Run → Type 0
AreApart runs = AllByRecursion (λ (r : Run). HaveOwnEvents (map (λ (v : Verdict). v.line) r.verdicts)) runs

-- no line is a second one of its event and zone, behind these
abbrev pub AreFirst : List Line → List Line → Type 0
AreFirst earlier [] = Unit {0}
AreFirst earlier (l ∷ lines) = (is_second earlier l ≡ false) × AreFirst (earlier ++ l ∷ []) lines

-- a line of a product that is no second one, with its breach; `all` are the product's lines
abbrev pub first_judged : List Row → ℕ → List Line → Line → Judged
first_judged rows t all l = (l, breach_in rows t all [] l)

-- the line is lawful and touches lives
abbrev pub leaves_row : Verdict → Bool
leaves_row v = not (is_routine v.line.action) && is_none v.breach

-- the life that a lawful line leaves of the one that it found
abbrev pub left_by : ℕ → Verdict → Life
left_by t v = life_after_lawful_line v.found v.line t

-- the verdict is a breach
abbrev pub is_breach : Verdict → Bool
is_breach v = is_some v.breach

-- a line of the run is in breach: it has a zone, and a verdict that is a breach
abbrev pub has_breach : Run → Bool
has_breach r = is_some (slice_get r.zones 0) && list_any is_breach r.verdicts

-- the line is lawful and no UPG, as a second one of its event and zone or not, so that its row counts where a higher row is looked for
abbrev pub counts : List Row → ℕ → Bool → Line → Bool
counts rows t second line = not (is_routine line.action) && not (is_upgrade line.action) && not second && is_none (breach_of_line (life_at rows line) line t (around_but_higher rows t line true))
