-- What the code of an index does on the way: the rows that lines leave, and those by which a higher row is looked for in a zone.
use Rattle.std.specs.Prelude.{◌≡◌, ◌&&◌, ◌||◌, not, ℕ, Bool, true, false, List, [], filter, fold, if◌then◌else◌, Option, Some, None, is_none}
use Rattle.std.specs.List.{AllByRecursion, list_any}
use Rattle.std.specs.List.Sorted.{IsStrictlySortedBy}
use Rattle.hazard_types.specs.Hazards.{facts_of}
use Rattle.hazard_types.specs.Places.{Place}
use Rattle.hazard_types.specs.Same.{same_event}
use Rattle.hazard_types.specs.contracts.codes.ActionPartialEq.TheImpl as action_eq
use Rattle.hazard_types.specs.contracts.period.PeriodPartialEq.TheImpl as period
use Rattle.hazard_types.specs.declared.codes.Action.{Action}
use Rattle.hazard_types.specs.declared.codes.Family.{Family}
use Rattle.hazard_types.specs.declared.codes.Action.TheVariants as action
use Rattle.hazard_types.specs.declared.hazard.Event.{Event}
use Rattle.hazard_types.specs.declared.line.Line.{Line}
use Rattle.hazard_types.specs.declared.line.Vtec.{Vtec}
use Rattle.hazard_types.specs.declared.line.Row.{Row}
use Rattle.event_life.specs.declared.life.Around.{Around}
use Rattle.event_life.specs.declared.life.Life.{Life}
use Rattle.event_life.specs.Higher.{family_of, is_above}
use Rattle.event_life.specs.Periods.{is_live, overlaps}
use Rattle.event_life.specs.Table.{opened_period}
use Rattle.event_life.specs.Products.{by_key, put, row_at, rows_after_all_but_upgrades, has_rows, is_open, is_number_held, has_opened_period, is_new, later_event, latest_open_event}
use Rattle.row_index.specs.declared.seats.Seat.{Seat}
use Rattle.row_index.specs.Numbers.{is_in_zone}
use Rattle.row_index.specs.Seating.{seat_at, seat_of, key_of_line, has_seat, upgrades}
use Rattle.row_index.specs.Telling.{Tells}

-- of the events that are open the one of the latest year
abbrev pub latest_open : List Row → ℕ → List Event → Option Event
latest_open rows t events = fold (λ (best : Option Event) (e : Event). if is_open rows t e then later_event best e else best) None events

-- the open event that a line of a text is of, where it opens none
abbrev pub event_going : List Row → ℕ → Vtec → Option Event
event_going rows t vtec = if is_new vtec.action then None else latest_open_event rows vtec.hazard vtec.etn t

-- What stands around a line, as far as its action asks for it: a NEW line of an event with rows does not ask for an earlier year's,
-- and an EXA or EXB line of an event that is not open asks for no period.

abbrev pub nothing_around : Bool → Around
nothing_around higher = record { opened = false; going = false; held = false; same = false; higher = higher }

abbrev pub around_new : List Row → ℕ → Line → Bool → Around
around_new rows t line higher = record { opened = has_rows rows line.event; going = false; held = not (has_rows rows line.event) && is_number_held rows t line.event; same = false; higher = higher }

abbrev pub around_joining : List Row → ℕ → Line → Bool → Around
around_joining rows t line higher = record { opened = false; going = is_open rows t line.event; held = false; same = is_open rows t line.event && has_opened_period rows t line; higher = higher }

abbrev pub asked_around : Action → List Row → ℕ → Line → Bool → Around
asked_around action.New rows t line higher = around_new rows t line higher
asked_around action.Exa rows t line higher = around_joining rows t line higher
asked_around action.Exb rows t line higher = around_joining rows t line higher
asked_around _ rows t line higher = nothing_around higher

-- two lines that open a spell alike, but for the zone and its flood values
abbrev pub asks_alike : ℕ → Line → Line → Bool
asks_alike t a b = action_eq.eq-value.it a.action b.action && same_event a.event b.event && period.eq-value.it (opened_period a t) (opened_period b t)

-- what stands around the line that was last asked about, if one was, which is no UPG line
abbrev pub IsAsked : List Row → ℕ → Option (Line × Around) → Type 0
IsAsked rows t None = Unit {0}
IsAsked rows t (Some asked) = asked.1 ≡ asked_around asked.0.action rows t asked.0 true

-- each of the rows is put in turn
abbrev pub add_each : List Row → List Row → List Row
add_each left after = fold (λ (rows : List Row) (row : Row). put row rows) after left

-- no line has ended the life or the one before, which had the same period
abbrev pub has_same_period : Option Life → Life → Bool
has_same_period None life = false
has_same_period (Some old) life = period.eq-value.it old.period life.period && not old.ended && not life.ended

-- What a product changes where a higher row is looked for: the rows that its lawful lines other than UPG leave, each put in turn,
-- and the seats that its UPG lines speak of.
pub record IsChanged (rows : List Row) (t : ℕ) (lines : List Line) (counted : List Row) (upgraded : List Seat) : Type 0 where
  pub put : counted ≡ rows_after_all_but_upgrades rows t [] lines []
  pub said : Tells upgrades key_of_line upgraded lines

-- some of the rows, in order, among which are all that are live and above a rank in the zone of this one, and overlap it
pub record AreHigher (rows : List Row) (t : ℕ) (own : Row) (low : Option (Family × ℕ)) (higher : List Row) : Type 0 where
  pub in_order : IsStrictlySortedBy by_key higher
  pub part : (e : Event) (z : Place) (r : Row) → row_at higher e z ≡ Some r → row_at rows e z ≡ Some r
  pub all : (e : Event) (r : Row) → is_above (family_of (facts_of e.hazard)) low ≡ true → row_at rows e own.zone ≡ Some r → is_live t r ≡ true → overlaps r.period own.period ≡ true → row_at higher e own.zone ≡ Some r

-- the same of the row of each UPG line of a product
abbrev pub AreOver : List Row → ℕ → List Line → List Row → Type 0
AreOver rows t lines higher = AllByRecursion (λ (line : Line). upgrades line ≡ true → (own : Row) → row_at rows line.event line.zone ≡ Some own → AreHigher rows t own (family_of (facts_of line.event.hazard)) higher) lines

-- Rows that are higher than a row and overlap it, after a product.

-- the row is live and above a rank, and overlaps this one
abbrev pub rises_over : ℕ → Option (Family × ℕ) → Row → Row → Bool
rises_over t low own r = is_live t r && overlaps r.period own.period && is_above (family_of (facts_of r.event.hazard)) low

-- and no UPG line speaks of it
abbrev pub stays_over : ℕ → Option (Family × ℕ) → List Seat → Row → Row → Bool
stays_over t low upgraded own r = rises_over t low own r && not (has_seat upgraded (seat_of r))

-- no UPG line speaks of the event in the zone, and no other line leaves a row of it there
abbrev pub is_untouched : List Row → List Seat → Place → Event → Bool
is_untouched counted upgraded z e = not (has_seat upgraded (seat_at e z)) && is_none (row_at counted e z)

-- the row is live and above a rank, and overlaps this one in its zone, where the product changes nothing of it
abbrev pub still_over : ℕ → Option (Family × ℕ) → List Row → List Seat → Row → Row → Bool
still_over t low counted upgraded own r = rises_over t low own r && is_untouched counted upgraded own.zone r.event

-- the row has no rank, or one is over it after the product: of those that its lines leave, or of those that stood before it
abbrev pub is_overlapped : List Row → ℕ → List Row → List Seat → Option (Family × ℕ) → Row → Bool
is_overlapped rows t counted upgraded low own =
    is_none low || list_any (stays_over t low upgraded own) (filter (is_in_zone own.zone) counted) || list_any (still_over t low counted upgraded own) (filter (is_in_zone own.zone) rows)
