-- The lines of a draft: what each intent says of each of its zones, and the rows that go on beside them.
use Rattle.std.specs.Prelude.{◌&&◌, not, ℕ, ◌+◌, Bool, true, false, List, [], ◌∷◌, ◌++◌, map, filter, nat_le, if◌then◌else◌, Option, Some, None}
use Rattle.std.specs.List.{list_any}
use Rattle.hazard_types.specs.Hazards.{facts_of}
use Rattle.hazard_types.specs.Names.{is_fl_phenomenon}
use Rattle.hazard_types.specs.Places.{Place}
use Rattle.hazard_types.specs.Same.{same_zone}
use Rattle.hazard_types.specs.contracts.codes.CategoryPartialEq.TheImpl as category
use Rattle.hazard_types.specs.declared.codes.Action.{Action}
use Rattle.hazard_types.specs.declared.codes.Action.TheVariants.{New, Con, Exa, Ext, Exb, Upg, Can, Exp, Rou}
use Rattle.hazard_types.specs.declared.codes.Category.{Category}
use Rattle.hazard_types.specs.declared.facts.Facts.{Facts}
use Rattle.hazard_types.specs.declared.hazard.Event.{Event}
use Rattle.hazard_types.specs.declared.line.Flood.{Flood}
use Rattle.hazard_types.specs.declared.line.Line.{Line}
use Rattle.hazard_types.specs.declared.line.Row.{Row}
use Rattle.hazard_types.specs.declared.period.Begin.{Begin}
use Rattle.hazard_types.specs.declared.period.Begin.TheVariants as begin
use Rattle.hazard_types.specs.declared.period.End.{End}
use Rattle.hazard_types.specs.declared.period.End.TheVariants.{At, Ufn}
use Rattle.hazard_types.specs.declared.period.Period.{Period}
use Rattle.office_types.specs.declared.request.Intent.{Intent}
use Rattle.office_types.specs.declared.request.Intent.TheVariants.{Put, Finish, Restate, Routine}
use Rattle.office_types.specs.declared.request.PutPart.{PutPart}
use Rattle.office_types.specs.declared.request.Target.{Target}
use Rattle.office_types.specs.declared.request.Target.TheVariants.{Fresh, Join}
use Rattle.event_life.specs.Higher.{outranks}
use Rattle.event_life.specs.Periods.{ends_after, is_live, overlaps, same_at}
use Rattle.event_life.specs.Products.{row_at}
use Rattle.hazard_board.specs.Board.{has_period, slice_of}
use Rattle.action_planner.specs.Placed.{Placed, zones_of, touches, speaks}

abbrev pub minute_of : Begin → ℕ → ℕ
minute_of begin.Now t = t
minute_of (begin.At m) t = m

-- the period that a put gives to a zone without a row, or whose row a line has ended
abbrev pub period_of_put : PutPart → ℕ → Period
period_of_put part t = record { begin = minute_of part.begin t; end = part.end }

-- on a row that has begun the begin stays
abbrev pub period_of_put_on : PutPart → ℕ → Row → Period
period_of_put_on part t row = record { begin = (if nat_le row.period.begin t then row.period.begin else minute_of part.begin t); end = part.end }

-- a begin that is at most the minute is printed as zeros
abbrev pub printed_begin : ℕ → ℕ → Option ℕ
printed_begin m t = if nat_le m t then None else Some m

-- NEW, or EXA where a live row of the joined event has the same period, else EXB
abbrev pub opening_action : List Row → ℕ → Event → PutPart → Target → Action
opening_action rows t e part (Fresh h) = New
opening_action rows t e part (Join d) = if has_period rows e (period_of_put part t) t then Exa else Exb

abbrev pub opening_line_by : Action → ℕ → Event → PutPart → Place → Line
opening_line_by action t e part z = record { action = action; event = e; zone = z; begin = Some (minute_of part.begin t); end = part.end; flood = part.flood }

abbrev pub opening_line : List Row → ℕ → Event → PutPart → Place → Line
opening_line rows t e part z = opening_line_by (opening_action rows t e part part.target) t e part z

-- CON where the period of the row stays, else EXT
abbrev pub carried_line : ℕ → Event → Period → Option Flood → Row → Line
carried_line t e p flood row = record { action = (if same_at t row.period p then Con else Ext); event = e; zone = row.zone; begin = printed_begin p.begin t; end = p.end; flood = flood }

abbrev pub continuing_line : ℕ → Event → PutPart → Row → Line
continuing_line t e part row = carried_line t e (period_of_put_on part t row) part.flood row

-- the row, where no line has ended it
abbrev pub unless_ended : Option Row → Option Row
unless_ended None = None
unless_ended (Some row) = if row.ended then None else Some row

-- the row that a put meets: a new event has no row yet, and a row that a line has ended is made anew
abbrev pub joined_row : List Row → Event → Place → Target → Option Row
joined_row rows e z (Fresh h) = None
joined_row rows e z (Join d) = unless_ended (row_at rows e z)

abbrev pub put_line_on : List Row → ℕ → Event → PutPart → Place → Option Row → Line
put_line_on rows t e part z None = opening_line rows t e part z
put_line_on rows t e part z (Some row) = continuing_line t e part row

abbrev pub line_of_put : List Row → ℕ → Event → PutPart → Place → Line
line_of_put rows t e part z = put_line_on rows t e part z (joined_row rows e z part.target)

-- a line that says of a row what it is, by this action
abbrev pub line_on : Action → ℕ → Row → Line
line_on action t row = record { action = action; event = row.event; zone = row.zone; begin = printed_begin row.period.begin t; end = row.period.end; flood = row.flood }

-- The rows that a draft leaves live. An action that ends a row does not matter to them.

abbrev pub puts_or_finishes : Intent → Bool
puts_or_finishes (Put part) = true
puts_or_finishes (Finish part) = true
puts_or_finishes (Restate part) = false
puts_or_finishes (Routine part) = false

-- no put and no finish is on the row
abbrev pub is_left : List Placed → Row → Bool
is_left ps row = not (list_any (λ (p : Placed). puts_or_finishes p.intent && speaks row.event row.zone p) ps)

abbrev pub period_by_put : ℕ → PutPart → Option Row → Period
period_by_put t part None = period_of_put part t
period_by_put t part (Some row) = period_of_put_on part t row

-- the row of a put in a zone, as far as its event, zone and period go
abbrev pub row_after_put : List Row → ℕ → Event → PutPart → Place → Row
row_after_put rows t e part z = record { event = e; zone = z; period = period_by_put t part (joined_row rows e z part.target); flood = part.flood; ended = false }

abbrev pub rows_by_intent : List Row → ℕ → Placed → Intent → List Row
rows_by_intent rows t p (Put part) = map (row_after_put rows t p.event part) part.zones
rows_by_intent rows t p (Finish part) = []
rows_by_intent rows t p (Restate part) = []
rows_by_intent rows t p (Routine part) = []

abbrev pub rows_by_puts : List Row → ℕ → List Placed → List Row
rows_by_puts rows t [] = []
rows_by_puts rows t (p ∷ ps) = rows_by_intent rows t p p.intent ++ rows_by_puts rows t ps

abbrev pub rows_left : List Row → ℕ → List Placed → List Row
rows_left rows t ps = filter (is_left ps) rows ++ rows_by_puts rows t ps

-- the second row is live in the zone of the first, of a higher rank of its family, and overlaps it
abbrev pub overlays : ℕ → Row → Row → Bool
overlays t row r = same_zone r.zone row.zone && is_live t r && outranks r.event.hazard row.event.hazard && overlaps r.period row.period

-- a row of a higher rank of the family is live after the product, and overlaps this one in its zone
abbrev pub is_overlaid : List Row → ℕ → List Placed → Row → Bool
is_overlaid rows t ps row = list_any (overlays t row) (rows_left rows t ps)

-- the end is a minute within half an hour of this one either way
abbrev pub is_near_end : End → ℕ → Bool
is_near_end (At m) t = nat_le m (t + 30) && nat_le t (m + 30)
is_near_end Ufn t = false

-- UPG before the end under a higher row, else EXP near the end, else CAN
abbrev pub finishing_action : List Row → ℕ → List Placed → Row → Action
finishing_action rows t ps row = if ends_after row.period.end t && is_overlaid rows t ps row then Upg else (if is_near_end row.period.end t then Exp else Can)

abbrev pub finish_lines : List Row → ℕ → List Placed → Option Row → List Line
finish_lines rows t ps None = []
finish_lines rows t ps (Some row) = line_on (finishing_action rows t ps row) t row ∷ []

abbrev pub restate_lines : ℕ → Option Row → List Line
restate_lines t None = []
restate_lines t (Some row) = line_on Con t row ∷ []

-- a routine line has number 0000 and zero times, and touches no row
abbrev pub routine_line : Event → Place → Line
routine_line e z = record { action = Rou; event = e; zone = z; begin = None; end = Ufn; flood = None }

-- what an intent says of one of its zones; a finish or a restate without a row says nothing (and is refused)
abbrev pub lines_in : List Row → ℕ → List Placed → Event → Intent → Place → List Line
lines_in rows t ps e (Put part) z = line_of_put rows t e part z ∷ []
lines_in rows t ps e (Finish part) z = finish_lines rows t ps (row_at rows e z)
lines_in rows t ps e (Restate part) z = restate_lines t (row_at rows e z)
lines_in rows t ps e (Routine part) z = routine_line e z ∷ []

abbrev pub lines_in_zones : List Row → ℕ → List Placed → Event → Intent → List Place → List Line
lines_in_zones rows t ps e i [] = []
lines_in_zones rows t ps e i (z ∷ zones) = lines_in rows t ps e i z ++ lines_in_zones rows t ps e i zones

-- by place, then zone as it was written
abbrev pub lines_from : List Row → ℕ → List Placed → List Placed → List Line
lines_from rows t all [] = []
lines_from rows t all (p ∷ ps) = lines_in_zones rows t all p.event p.intent (zones_of p.intent) ++ lines_from rows t all ps

-- Rows that go on: the other live rows of the draft's category in the zones that it touches. Each flood event has segments of its own, so FL is left out.

abbrev pub follows : Category → Option Facts → Bool
follows c None = false
follows c (Some facts) = category.eq-value.it facts.follows c

-- a row of the draft's category in a zone that it touches, and no intent is on it
abbrev pub goes_on : Category → List Placed → Row → Bool
goes_on c ps row = follows c (facts_of row.event.hazard) && not (is_fl_phenomenon row.event.hazard) && list_any (touches row.zone) ps && not (list_any (speaks row.event row.zone) ps)

abbrev pub is_continued : Category → ℕ → List Placed → Row → Bool
is_continued c t ps row = is_live t row && goes_on c ps row

abbrev pub added_lines : Category → List Row → ℕ → List Placed → List Line
added_lines c rows t ps = map (line_on Con t) (filter (is_continued c t ps) rows)

-- those of the rows of some zones, zone by zone
abbrev pub added_in : Category → List Row → ℕ → List Placed → List Place → List Line
added_in c rows t ps [] = []
added_in c rows t ps (z ∷ zones) = map (line_on Con t) (filter (is_continued c t ps) (slice_of z rows)) ++ added_in c rows t ps zones

-- all lines of a draft
abbrev pub planned_lines : Category → List Row → ℕ → List Placed → List Line
planned_lines c rows t ps = lines_from rows t ps ps ++ added_lines c rows t ps
