-- How many rows of an event that no line has ended have each period. Periods are in order by end, then begin.
use Rattle.std.specs.Prelude.{not, ◌≡◌, ◌==◌, ◌-◌, ◌+◌, ◌&&◌, ℕ, Bool, false, List, [], ◌∷◌, nat_le, if◌then◌else◌, Option, Some, None, unwrap_or}
use Rattle.std.specs.BTreeMap.{insert_entry, is_at}
use Rattle.std.specs.BTreeMap.Range.{range_contains}
use Rattle.std.specs.List.{AllByRecursion}
use Rattle.std.specs.List.Sorted.{IsStrictlySortedBy}
use Rattle.std.specs.Map.{keys_of, lookup, remove_entry, values_of}
use Rattle.std.specs.declared.cmp.Ordering.{Ordering}
use Rattle.std.specs.declared.ops.Bound.TheVariants.{Included, Unbounded}
use Rattle.hazard_types.specs.Places.{Place, by_place}
use Rattle.hazard_types.specs.declared.hazard.Event.{Event}
use Rattle.hazard_types.specs.declared.line.Row.{Row}
use Rattle.hazard_types.specs.declared.period.End.{End}
use Rattle.hazard_types.specs.declared.period.End.TheVariants as end
use Rattle.hazard_types.specs.declared.period.Period.{Period}
use Rattle.event_life.specs.Products.{by_key}
use Rattle.event_life.specs.declared.life.Life.{Life}
use Rattle.row_index.specs.declared.standing.Before.{Before}
use Rattle.row_index.specs.declared.standing.Standing.{Standing}
use Rattle.row_index.specs.contracts.standing.StandingOrd.TheImpl as order
use Rattle.row_index.specs.Numbers.{stands}
use Rattle.row_index.specs.Runs.{rows_along}
use Rattle.row_index.specs.Steps.{add_each, has_same_period}
use Rattle.row_index.specs.Tallies.{tally}
use Rattle.row_index.specs.Zoning.{AreOfFirst, AreZoned}

abbrev pub by_standing : Standing → Standing → Ordering
by_standing = order.cmp-value.it

abbrev pub period_at : End → ℕ → Standing
period_at end begin = record { end = end; begin = begin }

abbrev pub standing_of : Row → Standing
standing_of r = period_at r.period.end r.period.begin

abbrev pub life_standing : Life → Standing
life_standing l = period_at l.period.end l.period.begin

-- at a place of the order or behind it
abbrev pub lies_from : Standing → Standing → Bool
lies_from from k = range_contains by_standing (Included from) Unbounded k

-- between two places of the order, or at one of them
abbrev pub lies : Standing → Standing → Standing → Bool
lies from to k = range_contains by_standing (Included from) (Included to) k

-- before all whose end is at most half an hour before this minute, or after it
abbrev pub open_from : ℕ → Standing
open_from t = period_at (end.At (t - 30)) 0

-- a period that begins at most at a minute is the same as all that do and end as it does
abbrev pub first_same : ℕ → ℕ → ℕ
first_same t begin = if nat_le begin t then 0 else begin

abbrev pub last_same : ℕ → ℕ → ℕ
last_same t begin = if nat_le begin t then t else begin

-- the first and the last that may be the same period at a minute
abbrev pub same_from : ℕ → Period → Standing
same_from t p = period_at p.end (first_same t p.begin)

abbrev pub same_to : ℕ → Period → Standing
same_to t p = period_at p.end (last_same t p.begin)

-- how many have a period
abbrev pub count_at : List (Standing × ℕ) → Standing → ℕ
count_at counts k = unwrap_or (lookup (is_at (by_standing k)) counts) 0

-- the counts with another one at a key, which is taken out where it is nought
abbrev pub with_count : {K : Type 0} → (K → K → Ordering) → K → ℕ → List (K × ℕ) → List (K × ℕ)
with_count cmp k n counts = if n == 0 then remove_entry (is_at (cmp k)) counts else insert_entry cmp counts k n

-- without so many rows whose life was this one, if there was one and no line had ended it
abbrev pub less_by : ℕ → Option Life → List (Standing × ℕ) → List (Standing × ℕ)
less_by n None counts = counts
less_by n (Some old) counts = if old.ended then counts else with_count by_standing (life_standing old) (count_at counts (life_standing old) - n) counts

abbrev pub some_less : Before → List (Standing × ℕ) → List (Standing × ℕ)
some_less b counts = less_by b.zones b.life counts

abbrev pub all_less : List Before → List (Standing × ℕ) → List (Standing × ℕ)
all_less [] counts = counts
all_less (b ∷ bs) counts = all_less bs (some_less b counts)

-- with so many rows of a life that no line has ended
abbrev pub some_more : ℕ → Life → List (Standing × ℕ) → List (Standing × ℕ)
some_more n life counts = if life.ended then counts else with_count by_standing (life_standing life) (count_at counts (life_standing life) + n) counts

-- so many zones had one life, which stands as this one does
abbrev pub all_stay : List Before → ℕ → Life → Bool
all_stay [] n life = false
all_stay (b ∷ []) n life = (b.zones == n) && has_same_period b.life life
all_stay (b ∷ c ∷ bs) n life = false

abbrev pub restood : List Before → ℕ → Life → List (Standing × ℕ) → List (Standing × ℕ)
restood befores n life counts = if all_stay befores n life then counts else all_less befores (some_more n life counts)

-- no line has ended the life, and it has this period
abbrev pub stands_so : Standing → Life → Bool
stands_so k l = not l.ended && is_at (by_standing k) (life_standing l)

-- no line has ended the row, and it has this period
abbrev pub stands_with : Standing → Row → Bool
stands_with k r = stands r && is_at (by_standing k) (standing_of r)

-- each period is there with the number of rows that have it
pub record AreCounts (counts : List (Standing × ℕ)) (rows : List Row) : Type 0 where
  pub ascending : IsStrictlySortedBy by_standing (keys_of counts)
  pub some : AllByRecursion (λ (e : Standing × ℕ). (e.1 == 0) ≡ false) counts
  pub counted : (k : Standing) → count_at counts k ≡ tally (stands_with k) rows

-- the rows of one event are at their zones and in order, and those of them are counted that no line has ended
pub record AreEventRows (es : List (Place × Row)) (counts : List (Standing × ℕ)) : Type 0 where
  pub zoned : AreZoned es
  pub zones_ascending : IsStrictlySortedBy by_place (keys_of es)
  pub in_order : IsStrictlySortedBy by_key (values_of es)
  pub of_first : AreOfFirst (values_of es)
  pub standing : AreCounts counts (values_of es)

-- the rows of an event in zones have come to a life, and are counted
pub record IsRunPut (e : Event) (life : Life) (zones : List Place) (old new : List (Place × Row)) (counts : List (Standing × ℕ)) : Type 0 where
  pub rows : values_of new ≡ add_each (rows_along e life zones) (values_of old)
  pub are : AreEventRows new counts
