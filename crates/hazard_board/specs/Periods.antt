-- The periods of rows that no line has ended, by event, each with the number of these rows.
use Rattle.std.specs.Prelude.{◌≡◌, ◌≤◌, ◌<◌, ◌+◌, ◌&&◌, ◌==◌, not, ℕ, Bool, true, false, nat_le, List, [], ◌∷◌, find, insert, remove, slice_set, get_or, length, Option, Some, None, option_map, if◌then◌else◌}
use Rattle.std.specs.List.{AllByRecursion, list_any}
use Rattle.std.specs.List.Sorted.{IsStrictlySortedBy}
use Rattle.std.specs.declared.cmp.Ordering.{Ordering}
use Rattle.std.specs.Ordering.{on, then_cmp, nat_cmp, is_eq}
use Rattle.hazard_types.specs.Orders.{by_end}
use Rattle.hazard_types.specs.Same.{same_event}
use Rattle.hazard_types.specs.declared.hazard.Event.{Event}
use Rattle.hazard_types.specs.declared.line.Row.{Row}
use Rattle.hazard_types.specs.declared.period.End.{End}
use Rattle.hazard_types.specs.declared.period.Period.{Period}
use Rattle.hazard_types.specs.contracts.period.PeriodPartialEq.TheImpl as period
use Rattle.event_life.specs.Periods.{ends_after, same_end, same_at}
use Rattle.hazard_board.specs.Spots.{by_year}
use Rattle.hazard_board.specs.declared.periods.PeriodCount.{PeriodCount}

-- a later end before an earlier one
abbrev pub later_first : End → End → Ordering
later_first a b = by_end b a

-- by event, as spots stand; of one event a later end first, and of one end by begin
abbrev pub by_period : PeriodCount → PeriodCount → Ordering
by_period = then_cmp (on (λ (x : PeriodCount). x.event) by_year) (then_cmp (on (λ (x : PeriodCount). x.period.end) later_first) (on (λ (x : PeriodCount). x.period.begin) nat_cmp))

-- by event, then end
abbrev pub by_event_end : PeriodCount → PeriodCount → Ordering
by_event_end = then_cmp (on (λ (x : PeriodCount). x.event) by_year) (on (λ (x : PeriodCount). x.period.end) later_first)

-- a number, where a test holds
abbrev pub only_if : Bool → ℕ → ℕ
only_if b n = if b then n else 0

-- how many rows are counted whose event and period pass a test
abbrev pub counted : (Event → Period → Bool) → List PeriodCount → ℕ
counted q [] = 0
counted q (x ∷ xs) = only_if (q x.event x.period) x.rows + counted q xs

-- no line has ended the row, and its event and period pass a test
abbrev pub is_unended : (Event → Period → Bool) → Row → Bool
is_unended q r = not r.ended && q r.event r.period

abbrev pub one_of : (Event → Period → Bool) → Row → ℕ
one_of q r = only_if (is_unended q r) 1

abbrev pub one_if : (Event → Period → Bool) → Option Row → ℕ
one_if q None = 0
one_if q (Some r) = one_of q r

-- how many rows there are that no line has ended, and whose event and period pass a test
abbrev pub unended : (Event → Period → Bool) → List Row → ℕ
unended q [] = 0
unended q (r ∷ rows) = one_of q r + unended q rows

abbrev pub any_period : Event → Period → Bool
any_period e p = true

-- the counts stand in order, each period of an event once, and none is 0
pub record AreInOrder (periods : List PeriodCount) : Type 0 where
  pub order : IsStrictlySortedBy by_period periods
  pub some : AllByRecursion (λ (x : PeriodCount). 0 < x.rows) periods

-- the counts are those of the rows that no line has ended
pub record AreCounted (rows : List Row) (periods : List PeriodCount) : Type 0 where
  pub stand : AreInOrder periods
  pub told : (q : Event → Period → Bool) → counted q periods ≡ unended q rows

-- the counts after a row is put in the place of the one there: all are as before but that the one is counted no longer, and the other is
abbrev pub AreCountedWith : Option Row → Option Row → List PeriodCount → List PeriodCount → Type 0
AreCountedWith old None was now = now ≡ was
AreCountedWith old (Some row) was now = (q : Event → Period → Bool) → counted q now + one_if q old ≡ counted q was + one_of q row

-- the latest end of the periods of an event
abbrev pub latest_in : List PeriodCount → Event → Option End
latest_in periods e = option_map (λ (x : PeriodCount). x.period.end) (find (λ (x : PeriodCount). same_event x.event e) periods)

-- so many rows of the period
abbrev pub with_rows : PeriodCount → ℕ → PeriodCount
with_rows key n = record { event = key.event; period = key.period; rows = n }

abbrev pub is_period : PeriodCount → Event → Period → Bool
is_period key e p = same_event e key.event && (same_end p.end key.period.end && (p.begin == key.period.begin))

-- the period of the event is counted at the place
pub record IsCountAt (key : PeriodCount) (periods : List PeriodCount) (i : ℕ) : Type 0 where
  pub within : i < length periods
  pub own : (d : PeriodCount) → get_or periods i d ≡ with_rows key (get_or periods i d).rows
  pub set : (n : ℕ) → IsStrictlySortedBy by_period (slice_set periods i (with_rows key n))
  pub left : IsStrictlySortedBy by_period (remove periods i)

-- the period of the event is not counted, and belongs at the place
pub record IsCountGap (key : PeriodCount) (periods : List PeriodCount) (i : ℕ) : Type 0 where
  pub within : i ≤ length periods
  pub none : counted (is_period key) periods ≡ 0
  pub put : (n : ℕ) → IsStrictlySortedBy by_period (insert periods i (with_rows key n))

-- a period of an event that is live has the same period, and of a key's event with its end one has begun
abbrev pub same_in : List PeriodCount → Event → Period → ℕ → Bool
same_in periods e p t = list_any (λ (x : PeriodCount). same_event x.event e && (ends_after x.period.end t && same_at t x.period p)) periods

abbrev pub begun_in : List PeriodCount → PeriodCount → ℕ → Bool
begun_in periods key t = list_any (λ (x : PeriodCount). is_eq (by_event_end x key) && nat_le x.period.begin t) periods

-- no line has ended either row, and both have one event and one period
abbrev pub count_alike : Option Row → Row → Bool
count_alike None row = false
count_alike (Some old) row = not old.ended && not row.ended && same_event old.event row.event && period.eq-value.it old.period row.period
