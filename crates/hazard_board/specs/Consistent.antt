-- What holds of the rows of an office.
use Rattle.std.specs.Prelude.{◌≡◌, ◌≤◌, ◌==◌, ◌&&◌, not, ℕ, Bool, true, List, [], ◌∷◌, None}
use Rattle.std.specs.List.{AllByRecursion}
use Rattle.hazard_types.specs.Days.{year_of}
use Rattle.hazard_types.specs.Same.{same_zone, same_hazard}
use Rattle.hazard_types.specs.declared.line.Line.{Line}
use Rattle.hazard_types.specs.declared.line.Row.{Row}
use Rattle.event_life.specs.Higher.{are_kin}
use Rattle.event_life.specs.Periods.{ends_after, keeps_open, overlaps}
use Rattle.event_life.specs.Products.{Product, is_new, rows_with}
use Rattle.hazard_board.specs.Clashes.{least_clash}

-- two rows of one zone and family that no line has ended overlap
abbrev pub collide : Row → Row → Bool
collide a b = same_zone a.zone b.zone && not a.ended && not b.ended && overlaps a.period b.period && are_kin a.event.hazard b.event.hazard

-- the events of two rows are open, with one hazard and number
abbrev pub share_number : ℕ → Row → Row → Bool
share_number t a b = keeps_open t a && keeps_open t b && same_hazard a.event.hazard b.event.hazard && (a.event.etn == b.event.etn)

-- each row stands so to each later one
abbrev pub EachToLater : (Row → Row → Type 0) → List Row → Type 0
EachToLater P [] = Unit {0}
EachToLater P (row ∷ rows) = AllByRecursion (P row) rows × EachToLater P rows

-- At a minute: in a zone no two rows of one family that no line has ended overlap; no two open events share hazard and number; each row ends after its begin.
pub record IsConsistent (rows : List Row) (t : ℕ) : Type 0 where
  pub apart : EachToLater (λ a b. collide a b ≡ true → ⊥) rows
  pub numbered : EachToLater (λ a b. share_number t a b ≡ true → a.event ≡ b.event) rows
  pub ends : AllByRecursion (λ (row : Row). ends_after row.period.end row.period.begin ≡ true) rows

-- no row's event is of a later year than the minute
abbrev pub NoneIsAhead : List Row → ℕ → Type 0
NoneIsAhead rows t = AllByRecursion (λ (row : Row). row.event.year ≤ year_of t) rows

-- each NEW line is of an event of the year of the minute
abbrev pub AreOfTheYear : List Line → ℕ → Type 0
AreOfTheYear lines t = AllByRecursion (λ (line : Line). is_new line.action ≡ true → line.event.year ≡ year_of t) lines

-- products from one minute to another, none of them issued before the one in front of it, of which none leaves a clash
abbrev pub LeaveNoClash : List Row → ℕ → ℕ → List Product → Type 0
LeaveNoClash rows from to [] = from ≤ to
LeaveNoClash rows from to (p ∷ products) = (from ≤ p.issue) × (least_clash p.issue (rows_with rows p) ≡ None) × LeaveNoClash (rows_with rows p) p.issue to products
