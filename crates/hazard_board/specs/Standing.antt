-- Standing events: those with a row that no line has ended, each with the greatest end of these rows.
use Rattle.std.specs.Prelude.{◌≡◌, ◌≤◌, ◌<◌, ◌==◌, ◌&&◌, not, ℕ, Bool, true, false, List, fold, filter, find, max, count_by, length, insert, remove, slice_set, Option, Some, None, is_some, is_none, option_map, if◌then◌else◌}
use Rattle.std.specs.List.{AllByRecursion, list_any}
use Rattle.std.specs.List.Sorted.{IsStrictlySortedBy}
use Rattle.std.specs.declared.cmp.Ordering.{Ordering}
use Rattle.std.specs.Ordering.{on, then_cmp, nat_cmp}
use Rattle.hazard_types.specs.Orders.{by_event}
use Rattle.hazard_types.specs.Same.{same_event, same_hazard}
use Rattle.hazard_types.specs.declared.hazard.Event.{Event}
use Rattle.hazard_types.specs.declared.hazard.Hazard.{Hazard}
use Rattle.hazard_types.specs.declared.line.Line.{Line}
use Rattle.hazard_types.specs.declared.line.Row.{Row}
use Rattle.hazard_types.specs.contracts.period.EndPartialEq.TheImpl as end
use Rattle.hazard_types.specs.declared.period.End.{End}
use Rattle.hazard_types.specs.declared.period.End.TheVariants.{At, Ufn}
use Rattle.event_life.specs.Periods.{is_not_long_past}
use Rattle.event_life.specs.Products.{is_routine, later_event}
use Rattle.hazard_board.specs.Seats.{put_at, left_out}
use Rattle.hazard_board.specs.declared.standing.Standing.{Standing}

-- the later of two ends; until further notice is the latest
abbrev pub later : End → End → End
later (At m) (At n) = At (max m n)
later (At m) Ufn = Ufn
later Ufn n = Ufn

abbrev pub later_than : Option End → End → End
later_than None end = end
later_than (Some best) end = later best end

-- a row of the event that no line has ended
abbrev pub stands_for : Event → Row → Bool
stands_for e r = same_event r.event e && not r.ended

-- the greatest end of the rows of an event that no line has ended; there is none where the event is not standing
abbrev pub latest_end : List Row → Event → Option End
latest_end rows e = fold (λ (best : Option End) (r : Row). if stands_for e r then Some (later_than best r.period.end) else best) None rows

-- the greatest end so far, with that of a further row
abbrev pub latest_with : Event → Option End → Row → Option End
latest_with e best r = if stands_for e r then Some (later_than best r.period.end) else best

abbrev pub latest_with_if : Event → Option End → Option Row → Option End
latest_with_if e best None = best
latest_with_if e best (Some r) = latest_with e best r

-- by phenomenon, letter, number, year of the event
abbrev pub by_standing : Standing → Standing → Ordering
by_standing = on (λ (s : Standing). s.event) by_event

-- the end that a list of standing events has for an event
abbrev pub end_in : List Standing → Event → Option End
end_in standing e = option_map (λ (s : Standing). s.latest) (find (λ (s : Standing). same_event s.event e) standing)

-- the list has the standing events of the rows, in order, each once, with their ends
pub record AreStanding (rows : List Row) (standing : List Standing) : Type 0 where
  pub order : IsStrictlySortedBy by_standing standing
  pub latest : (e : Event) → end_in standing e ≡ latest_end rows e

-- by number, then year of the event
abbrev pub by_number : Standing → Standing → Ordering
by_number = then_cmp (on (λ (s : Standing). s.event.etn) nat_cmp) (on (λ (s : Standing). s.event.year) nat_cmp)

-- the list has those of one hazard, by number, then year, each once, with their ends
pub record AreStandingOf (h : Hazard) (rows : List Row) (standing : List Standing) : Type 0 where
  pub order : IsStrictlySortedBy by_number standing
  pub hazard : AllByRecursion (λ (s : Standing). s.event.hazard ≡ h) standing
  pub latest : (e : Event) → e.hazard ≡ h → end_in standing e ≡ latest_end rows e

-- the line touches a life of the event
abbrev pub touches : Event → Line → Bool
touches e line = not (is_routine line.action) && same_event line.event e

-- one of the lines that touch a life is of the event
abbrev pub touched : List Line → Event → Bool
touched lines e = list_any (λ (line : Line). not (is_routine line.action) && same_event line.event e) lines

-- the line touches a life, and is the first that does of its event
abbrev pub touches_anew : List Line → Line → Bool
touches_anew earlier line = not (is_routine line.action) && not (touched earlier line.event)

-- both are one end, or none
abbrev pub are_equal_ends : Option End → Option End → Bool
are_equal_ends None None = true
are_equal_ends None (Some b) = false
are_equal_ends (Some a) None = false
are_equal_ends (Some a) (Some b) = end.eq-value.it a b

-- the line touches a life of an event that does not stand with this end
abbrev pub moves_end : List Standing → Line → Option End → Bool
moves_end standing line latest = not (is_routine line.action) && not (are_equal_ends (end_in standing line.event) latest)

-- how many of the lines that touch a life are of events that are not standing
abbrev pub newly : List Standing → List Line → ℕ
newly standing lines = count_by (λ (line : Line). not (is_routine line.action) && is_none (end_in standing line.event)) lines

-- how a standing event stands against an event
abbrev pub against : Event → Standing → Ordering
against e s = by_event s.event e

-- those of a hazard, and among them those of a number
abbrev pub of_hazard : Hazard → List Standing → List Standing
of_hazard h standing = filter (λ (s : Standing). same_hazard s.event.hazard h) standing

abbrev pub of_number : ℕ → List Standing → List Standing
of_number etn standing = filter (λ (s : Standing). s.event.etn == etn) standing

-- of the events whose end is at most half an hour past the one of the greatest year
abbrev pub last_open : ℕ → List Standing → Option Event
last_open t standing = fold (λ (best : Option Event) (s : Standing). if is_not_long_past s.latest t then later_event best s.event else best) None standing

-- the list with a standing event in its place, and without one
abbrev pub insert_standing : Standing → List Standing → List Standing
insert_standing s standing = put_at (against s.event) s standing

abbrev pub without : Event → List Standing → List Standing
without e standing = left_out (against e) standing

-- the event stands at the place
pub record IsPlaceOf (e : Event) (standing : List Standing) (i : ℕ) : Type 0 where
  pub within : i < length standing
  pub found : is_some (end_in standing e) ≡ true
  pub put : (s : Standing) → s.event ≡ e → slice_set standing i s ≡ insert_standing s standing
  pub left : remove standing i ≡ without e standing

-- the event does not stand, and belongs at the place
pub record IsGapFor (e : Event) (standing : List Standing) (i : ℕ) : Type 0 where
  pub within : i ≤ length standing
  pub found : end_in standing e ≡ None
  pub left : without e standing ≡ standing
  pub put : (s : Standing) → s.event ≡ e → insert standing i s ≡ insert_standing s standing
