-- What lives have come to, by zone, where zones share what is the same; and rows of one event with such lives.
use Rattle.std.specs.Prelude.{◌≡◌, ◌==◌, ◌<◌, ◌≤◌, ℕ, Bool, true, false, ◌∷◌, List, [], map, length, get_or, Option, Some, None}
use Rattle.std.specs.BTreeMap.{insert_entry}
use Rattle.std.specs.List.{AllByRecursion}
use Rattle.std.specs.List.Sorted.{IsStrictlySortedBy}
use Rattle.std.specs.Map.{keys_of}
use Rattle.hazard_types.specs.Places.{Place, by_place}
use Rattle.hazard_types.specs.declared.hazard.Event.{Event}
use Rattle.hazard_types.specs.declared.line.Row.{Row}
use Rattle.hazard_types.specs.declared.period.End.TheVariants as end
use Rattle.event_life.specs.contracts.life.LifePartialEq.TheImpl as life
use Rattle.event_life.specs.declared.life.Life.{Life}
use Rattle.event_life.specs.Products.{life_of}

-- what stands for a life that is not there
abbrev pub no_life : Life
no_life = record { period = record { begin = 0; end = end.Ufn }; flood = None; ended = false }

-- the life at a place
abbrev pub life_at : List Life → ℕ → Life
life_at lives place = get_or lives place no_life

-- a life that may be there is this one
abbrev pub is_life : Option Life → Life → Bool
is_life None l = false
is_life (Some x) l = life.eq-value.it x l

-- the life of each zone, of which there is the place
abbrev pub lives_told : List Life → List (Place × ℕ) → List (Place × Life)
lives_told lives seats = map (λ (s : Place × ℕ). (s.0, life_at lives s.1)) seats

-- a place, if there is one, has a life
abbrev pub IsThere : List Life → Option ℕ → Type 0
IsThere lives None = Unit {0}
IsThere lives (Some place) = place < length lives

-- each zone names a life that is there, and the zones are in order
pub record AreShared (lives : List Life) (seats : List (Place × ℕ)) : Type 0 where
  pub there : AllByRecursion (λ (s : Place × ℕ). s.1 < length lives) seats
  pub ascending : IsStrictlySortedBy by_place (keys_of seats)

-- lives that are there stay at their places, and a life is at this one
pub record IsPlaced (before after : List Life) (place : ℕ) (l : Life) : Type 0 where
  pub stay : (i : ℕ) → i < length before → life_at after i ≡ life_at before i
  pub longer : length before ≤ length after
  pub within : place < length after
  pub here : life_at after place ≡ l

-- the row of an event in a zone whose life has come to this
abbrev pub row_with : Event → Place → Life → Row
row_with e z l = record { event = e; zone = z; period = l.period; flood = l.flood; ended = l.ended }

-- the row of an event in each of the zones
abbrev pub rows_with : Event → List (Place × Life) → List (Place × Row)
rows_with e lives = map (λ (s : Place × Life). (s.0, row_with e s.0 s.1)) lives

-- the zones come to a life
abbrev pub lives_put : Life → List Place → List (Place × Life) → List (Place × Life)
lives_put l [] es = es
lives_put l (z ∷ zones) es = lives_put l zones (insert_entry by_place es z l)

-- the rows of an event in the zones do
abbrev pub rows_put : Event → Life → List Place → List (Place × Row) → List (Place × Row)
rows_put e l [] es = es
rows_put e l (z ∷ zones) es = rows_put e l zones (insert_entry by_place es z (row_with e z l))

-- two places are one, or there is none of both
abbrev pub same_place : Option ℕ → Option ℕ → Bool
same_place None None = true
same_place None (Some b) = false
same_place (Some a) None = false
same_place (Some a) (Some b) = a == b

-- the zones of rows, each with what its life has come to
abbrev pub lives_of : List Row → List (Place × Life)
lives_of rows = map (λ (r : Row). (r.zone, life_of r)) rows

-- the rows in the zones. Before there is an event there are none.
abbrev pub rows_told : Option Event → List (Place × Life) → List (Place × Row)
rows_told None lives = []
rows_told (Some e) lives = rows_with e lives

-- lives are there only of an event
abbrev pub HaveEvent : Option Event → List (Place × Life) → Type 0
HaveEvent None lives = lives ≡ []
HaveEvent (Some e) lives = Unit {0}
