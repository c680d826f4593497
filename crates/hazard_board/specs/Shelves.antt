-- Rows on shelves: those of zones from a first one on stand on one shelf, up to the first zone of the next one.
use Rattle.std.specs.Prelude.{◌≡◌, ◌≢◌, ◌≤◌, ◌<◌, ◌-◌, ◌++◌, ℕ, List, [], ◌∷◌, length, take, min, get_or}
use Rattle.std.specs.List.{AllByRecursion, prefix_len}
use Rattle.std.specs.List.Sorted.{IsStrictlySortedBy}
use Rattle.std.specs.declared.cmp.Ordering.{Ordering}
use Rattle.std.specs.declared.cmp.Ordering.TheVariants.{Less, Greater}
use Rattle.std.specs.Ordering.{on, is_le}
use Rattle.std.specs.Vec.{vec_len, vec_capacity}
use Rattle.hazard_types.specs.Places.{Place, by_place}
use Rattle.hazard_types.specs.declared.line.Row.{Row}
use Rattle.event_life.specs.Products.{by_key}
use Rattle.hazard_board.specs.declared.shelves.Shelf.{Shelf}

-- the rows of the shelves, those of one shelf behind the other's
abbrev pub on_shelves : List Shelf → List Row
on_shelves [] = []
on_shelves (s ∷ later) = s.rows.items ++ on_shelves later

-- some rows and those on shelves are the same as others and those on theirs, in the same order
abbrev pub HoldSame : List Row → List Shelf → List Row → List Shelf → Type 0
HoldSame first later first' later' = first' ++ on_shelves later' ≡ first ++ on_shelves later

-- the order of shelves by their first zones
abbrev pub by_from : Shelf → Shelf → Ordering
by_from = on (λ (s : Shelf). s.from) by_place

-- how many of the shelves begin with the zone or with zones before it
abbrev pub through : Place → List Shelf → ℕ
through z later = prefix_len (λ (s : Shelf). is_le (by_place s.from z)) later

-- the rows are of zones before one
abbrev pub AreBefore : Place → List Row → Type 0
AreBefore z rows = AllByRecursion (λ (r : Row). by_place r.zone z ≡ Less) rows

-- the rows are of zones from one on
abbrev pub AreFrom : Place → List Row → Type 0
AreFrom z rows = AllByRecursion (λ (r : Row). by_place z r.zone ≢ Greater) rows

-- each shelf has rows from its first zone on, and the one in front of it rows before that zone
abbrev pub AreWithin : List Row → List Shelf → Type 0
AreWithin rows [] = Unit {0}
AreWithin rows (s ∷ later) = AreBefore s.from rows × AreFrom s.from s.rows.items × AreWithin s.rows.items later

-- all stand in order: the rows, the shelves, and each row on its shelf
pub record AreShelved (rows : List Row) (later : List Shelf) : Type 0 where
  pub order : IsStrictlySortedBy by_key (rows ++ on_shelves later)
  pub starts : IsStrictlySortedBy by_from later
  pub within : AreWithin rows later

-- each shelf has room for so many rows more
abbrev pub HaveRoom : ℕ → List Shelf → Type 0
HaveRoom n later = AllByRecursion (λ (s : Shelf). n ≤ vec_capacity s.rows - vec_len s.rows) later

-- the least of a room and those of the shelves
abbrev pub least_room : ℕ → List Shelf → ℕ
least_room n [] = n
least_room n (s ∷ later) = least_room (min n (vec_capacity s.rows - vec_len s.rows)) later

-- the shelves hold the same rows, are in order where they were, and each has room for so many rows where it had, up to a number
pub record AreKept (n : ℕ) (old new : List Shelf) : Type 0 where
  pub rows : on_shelves new ≡ on_shelves old
  pub shelved : (rows : List Row) → AreShelved rows old → AreShelved rows new
  pub room : (m : ℕ) → m ≤ n → HaveRoom m old → HaveRoom m new

-- a zone begins at the place, behind some rows
pub record IsCut (rows : List Row) (at : ℕ) : Type 0 where
  pub some : 0 < at
  pub within : at < length rows
  pub before : (row : Row) → row ≡ get_or rows at row → AreBefore row.zone (take at rows)

-- the place of the zone of a row
abbrev pub IsZoneAt : List Row → ℕ → Place → Type 0
IsZoneAt rows at z = (row : Row) × (row ≡ get_or rows at row) × (row.zone ≡ z)
