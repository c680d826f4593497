-- How many numbers of each hazard and year were drawn.
use Rattle.std.specs.Prelude.{◌≡◌, ◌==◌, ◌&&◌, ℕ, ◌+◌, ◌≤◌, ◌<◌, Bool, true, false, List, [], ◌∷◌, ◌++◌, length, slice_index_or, count_by, if◌then◌else◌}
use Rattle.std.specs.declared.cmp.Ordering.{Ordering}
use Rattle.std.specs.declared.cmp.Ordering.TheVariants.{Less, Greater}
use Rattle.std.specs.Ordering.{on, then_cmp, nat_cmp, ordering_then}
use Rattle.hazard_types.specs.Orders.{by_hazard}
use Rattle.hazard_types.specs.Same.{same_hazard}
use Rattle.hazard_types.specs.declared.hazard.Event.{Event}
use Rattle.hazard_types.specs.declared.hazard.Hazard.{Hazard}
use Rattle.event_numbers.specs.declared.Count.{Count}

-- the counts, and for how many more of them there is memory
pub record Drawn : Type 0 where
  pub counts : List Count
  pub spare : ℕ

abbrev pub is_count_of : Hazard → ℕ → Count → Bool
is_count_of h year c = same_hazard c.hazard h && (c.year == year)

-- the numbers drawn of a hazard in a year: none where nothing is counted
abbrev pub count_of : List Count → Hazard → ℕ → ℕ
count_of [] h year = 0
count_of (c ∷ counts) h year = if is_count_of h year c then c.count else count_of counts h year

-- one number more of this hazard and year, and as many as before of every other
abbrev pub DrawsOne : List Count → List Count → Hazard → ℕ → Type 0
DrawsOne old new h year = (g : Hazard) (y : ℕ) → count_of new g y ≡ count_of old g y + (if same_hazard g h && (y == year) then 1 else 0)

-- an event of this hazard and year
abbrev pub is_of : Hazard → ℕ → Event → Bool
is_of h year e = same_hazard e.hazard h && (e.year == year)

-- one number more for each of these events, of its hazard and year
abbrev pub DrawsAll : List Count → List Count → List Event → Type 0
DrawsAll old new events = (h : Hazard) (year : ℕ) → count_of new h year ≡ count_of old h year + count_by (is_of h year) events

-- where the events draw their numbers one after another, each draws one of four digits
abbrev pub AreDrawnInOrder : List Count → List Event → Type 0
AreDrawnInOrder counts events = (earlier later : List Event) (e : Event) → events ≡ earlier ++ e ∷ later → count_of counts e.hazard e.year + count_by (is_of e.hazard e.year) earlier + 1 ≤ 9999

-- each count is a number of four digits
abbrev pub AreNumbers : List Count → Type 0
AreNumbers [] = Unit {0}
AreNumbers (c ∷ counts) = (c.count ≤ 9999) × AreNumbers counts

-- counts by hazard, then year
abbrev pub by_count : Count → Count → Ordering
by_count = then_cmp (on (λ (c : Count). c.hazard) by_hazard) (on (λ (c : Count). c.year) nat_cmp)

-- how a count stands against a hazard and year
abbrev pub cmp_key : Hazard → ℕ → Count → Ordering
cmp_key h year c = ordering_then (by_hazard c.hazard h) (nat_cmp c.year year)

-- the count of a hazard and year stands at the place
pub record IsPlaceOf (h : Hazard) (year : ℕ) (counts : List Count) (i : ℕ) : Type 0 where
  pub within : i < length counts
  pub found : (d : Count) → is_count_of h year (slice_index_or counts i d) ≡ true
  pub before : (k : ℕ) (d : Count) → k < i → is_count_of h year (slice_index_or counts k d) ≡ false

-- there is none, and it belongs at the place
pub record IsGapFor (h : Hazard) (year : ℕ) (counts : List Count) (i : ℕ) : Type 0 where
  pub within : i ≤ length counts
  pub below : (k : ℕ) (d : Count) → k < i → cmp_key h year (slice_index_or counts k d) ≡ Less
  pub above : (k : ℕ) (d : Count) → i ≤ k → k < length counts → cmp_key h year (slice_index_or counts k d) ≡ Greater
