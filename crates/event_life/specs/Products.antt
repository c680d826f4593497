-- Products and the rows that they leave: the event of a text line, what stands around a line, its breach, the rows after a product.
use Rattle.std.specs.Prelude.{◌==◌, ◌&&◌, ◌||◌, not, ℕ, Bool, true, false, List, [], ◌∷◌, ◌++◌, fold, find, nat_lt, if◌then◌else◌, Option, Some, None, is_none, option_map, unwrap_or}
use Rattle.std.specs.List.{list_any}
use Rattle.std.specs.declared.cmp.Ordering.{Ordering}
use Rattle.std.specs.declared.cmp.Ordering.TheVariants.{Less, Equal, Greater}
use Rattle.std.specs.Ordering.{on, then_cmp}
use Rattle.hazard_types.specs.Days.{year_of}
use Rattle.hazard_types.specs.Orders.{by_event}
use Rattle.hazard_types.specs.Places.{Place, by_place}
use Rattle.hazard_types.specs.Same.{same_zone, same_hazard, same_event}
use Rattle.hazard_types.specs.ZoneLines.{ZoneLine}
use Rattle.hazard_types.specs.declared.codes.Action.{Action}
use Rattle.hazard_types.specs.declared.codes.Action.TheVariants as action
use Rattle.hazard_types.specs.declared.hazard.Event.{Event}
use Rattle.hazard_types.specs.declared.hazard.Hazard.{Hazard}
use Rattle.hazard_types.specs.declared.line.Line.{Line}
use Rattle.hazard_types.specs.declared.line.Row.{Row}
use Rattle.hazard_types.specs.declared.line.Vtec.{Vtec}
use Rattle.hazard_types.specs.declared.period.End.{End}
use Rattle.hazard_types.specs.declared.period.End.TheVariants.{At, Ufn}
use Rattle.event_life.specs.declared.life.Life.{Life}
use Rattle.event_life.specs.declared.life.Around.{Around}
use Rattle.event_life.specs.declared.life.Breach.{Breach}
use Rattle.event_life.specs.declared.life.Breach.TheVariants.{Twice}
use Rattle.event_life.specs.Higher.{may_yield, outranks}
use Rattle.event_life.specs.Periods.{is_live, keeps_open, same_at, overlaps}
use Rattle.event_life.specs.Table.{opened_period, breach_of_line, life_after_lawful_line}

-- Rows stand by zone, then event, each pair once.

abbrev pub by_key : Row → Row → Ordering
by_key = then_cmp (on (λ (r : Row). r.zone) by_place) (on (λ (r : Row). r.event) by_event)

-- before the first row, in its place, or behind it, where this is what comes behind it then
abbrev pub placed : Ordering → Row → Row → List Row → List Row → List Row
placed Less row first rows behind = row ∷ first ∷ rows
placed Equal row first rows behind = row ∷ rows
placed Greater row first rows behind = first ∷ behind

-- the row takes the place of the one of its zone and event, or its own place
abbrev pub put : Row → List Row → List Row
put row [] = row ∷ []
put row (r ∷ rows) = placed (by_key row r) row r rows (put row rows)

-- the row of an event in a zone
abbrev pub row_at : List Row → Event → Place → Option Row
row_at rows e z = find (λ (r : Row). same_event r.event e && same_zone r.zone z) rows

abbrev pub life_of : Row → Life
life_of row = record { period = row.period; flood = row.flood; ended = row.ended }

abbrev pub life_at : List Row → Line → Option Life
life_at rows line = option_map life_of (row_at rows line.event line.zone)

-- What stands around a line, read off the rows just before its product.

abbrev pub has_rows : List Row → Event → Bool
has_rows rows e = list_any (λ (r : Row). same_event r.event e) rows

-- the event has a row that no line has ended and whose end is at most half an hour past
abbrev pub is_open : List Row → ℕ → Event → Bool
is_open rows t e = list_any (λ (r : Row). same_event r.event e && keeps_open t r) rows

-- an open event of an earlier year has this hazard and number
abbrev pub is_number_held : List Row → ℕ → Event → Bool
is_number_held rows t e = list_any (λ (r : Row). same_hazard r.event.hazard e.hazard && (r.event.etn == e.etn) && nat_lt r.event.year e.year && keeps_open t r) rows

-- a live row of the line's event has the period that the line would open
abbrev pub has_opened_period : List Row → ℕ → Line → Bool
has_opened_period rows t line = list_any (λ (r : Row). same_event r.event line.event && is_live t r && same_at t r.period (opened_period line t)) rows

-- NoHigher is judged by the rows after; until these are known it is left aside
abbrev pub around_but_higher : List Row → ℕ → Line → Bool → Around
around_but_higher rows t line higher = record { opened = has_rows rows line.event; going = is_open rows t line.event; held = is_number_held rows t line.event; same = has_opened_period rows t line; higher = higher }

-- Lines of a product. A routine line touches no life, so it is no line of its event.

abbrev pub is_routine : Action → Bool
is_routine action.Rou = true
is_routine _ = false

abbrev pub is_upgrade : Action → Bool
is_upgrade action.Upg = true
is_upgrade _ = false

-- a line of this event in this zone
abbrev pub concerns : Event → Place → Line → Bool
concerns e z line = not (is_routine line.action) && same_event line.event e && same_zone line.zone z

-- one of the earlier lines speaks of its event in its zone
abbrev pub is_second : List Line → Line → Bool
is_second earlier line = list_any (concerns line.event line.zone) earlier

abbrev pub row_of : Line → Life → Row
row_of line life = record { event = line.event; zone = line.zone; period = life.period; flood = life.flood; ended = life.ended }

-- the row that a lawful line leaves
abbrev pub row_after : List Row → ℕ → Line → Row
row_after rows t line = row_of line (life_after_lawful_line (life_at rows line) line t)

-- the rows after the lawful lines other than UPG, each judged by the rows before
abbrev pub rows_after_all_but_upgrades : List Row → ℕ → List Line → List Line → List Row → List Row
rows_after_all_but_upgrades rows t earlier [] after = after
rows_after_all_but_upgrades rows t earlier (line ∷ lines) after = rows_after_all_but_upgrades rows t (earlier ++ line ∷ []) lines
    (if not (is_routine line.action) && not (is_upgrade line.action) && not (is_second earlier line) && is_none (breach_of_line (life_at rows line) line t (around_but_higher rows t line true))
    then put (row_after rows t line) after else after)

-- these, with each row that has a UPG line as ended
abbrev pub end_upgraded : List Line → List Row → List Row
end_upgraded lines [] = []
end_upgraded lines (r ∷ rows) = (if list_any (λ (line : Line). is_upgrade line.action && concerns r.event r.zone line) lines then record { event = r.event; zone = r.zone; period = r.period; flood = r.flood; ended = true } else r) ∷ end_upgraded lines rows

abbrev pub rows_for_higher : List Row → ℕ → List Line → List Row
rows_for_higher rows t lines = end_upgraded lines (rows_after_all_but_upgrades rows t [] lines rows)

-- one of the rows is live, of a higher rank of the family, and overlaps this row in its zone
abbrev pub is_overlapped : List Row → ℕ → Option Row → Bool
is_overlapped rows t None = false
is_overlapped rows t (Some own) = list_any (λ (r : Row). same_zone r.zone own.zone && is_live t r && outranks r.event.hazard own.event.hazard && overlaps r.period own.period) rows

-- the line's row is overlapped after the product, or its hazard yields to none
abbrev pub has_higher : List Row → ℕ → List Line → Line → Bool
has_higher rows t lines line = not (may_yield line.event.hazard) || is_overlapped (rows_for_higher rows t lines) t (row_at rows line.event line.zone)

abbrev pub around_of : List Row → ℕ → List Line → Line → Around
around_of rows t lines line = around_but_higher rows t line (has_higher rows t lines line)

-- the first breach of a line of a product, with its lines and those of them that stand earlier
unfoldable pub breach_in : List Row → ℕ → List Line → List Line → Line → Option Breach
breach_in rows t lines earlier line =
    if is_routine line.action then None else
    (if is_second earlier line then Some Twice else
    breach_of_line (life_at rows line) line t (around_of rows t lines line))

-- the lines of a product, each with its breach
abbrev pub judged_from : List Row → ℕ → List Line → List Line → List Line → List (Line × Option Breach)
judged_from rows t all earlier [] = []
judged_from rows t all earlier (line ∷ lines) = (line, breach_in rows t all earlier line) ∷ judged_from rows t all (earlier ++ line ∷ []) lines

abbrev pub judged : List Row → ℕ → List Line → List (Line × Option Breach)
judged rows t lines = judged_from rows t lines [] lines

-- the lawful lines that touch a life
abbrev pub lawful_of : List (Line × Option Breach) → List Line
lawful_of [] = []
lawful_of (l ∷ ls) = if not (is_routine l.0.action) && is_none l.1 then l.0 ∷ lawful_of ls else lawful_of ls

-- each lawful line leaves its row, judged by the rows before the product
abbrev pub put_all : List Row → ℕ → List Line → List Row → List Row
put_all rows t [] after = after
put_all rows t (line ∷ lines) after = put_all rows t lines (put (row_after rows t line) after)

-- the rows after a product of these lines
unfoldable pub rows_after : List Row → ℕ → List Line → List Row
rows_after rows t lines = put_all rows t (lawful_of (judged rows t lines)) rows

-- The event of a text line.

-- of two events the one of the later year
abbrev pub later_event : Option Event → Event → Option Event
later_event None e = Some e
later_event (Some d) e = if nat_lt d.year e.year then Some e else Some d

-- of the open events of a hazard and number the one of the greatest year
abbrev pub latest_open_event : List Row → Hazard → ℕ → ℕ → Option Event
latest_open_event rows h etn t = fold (λ (best : Option Event) (r : Row). if same_hazard r.event.hazard h && (r.event.etn == etn) && keeps_open t r then later_event best r.event else best) None rows

abbrev pub event_of_issue : ℕ → Vtec → Event
event_of_issue t vtec = record { hazard = vtec.hazard; etn = vtec.etn; year = year_of t }

abbrev pub is_new : Action → Bool
is_new action.New = true
is_new _ = false

-- NEW opens one of the year of issue; another line is of the open one, or where there is none of the year of issue
abbrev pub event_of : List Row → ℕ → Vtec → Event
event_of rows t vtec = if is_new vtec.action then event_of_issue t vtec else unwrap_or (latest_open_event rows vtec.hazard vtec.etn t) (event_of_issue t vtec)

abbrev pub end_of : Option ℕ → End
end_of None = Ufn
end_of (Some m) = At m

-- what a line of a text says of its event
abbrev pub line_of : List Row → ℕ → ZoneLine → Line
line_of rows t said = record { action = said.vtec.action; event = event_of rows t said.vtec; zone = said.zone; begin = said.vtec.begin; end = end_of said.vtec.end; flood = said.flood }

abbrev pub lines_of : List Row → ℕ → List ZoneLine → List Line
lines_of rows t [] = []
lines_of rows t (said ∷ more) = line_of rows t said ∷ lines_of rows t more

-- A product as the reader of an office and class sees it: its issue minute, and the lines of that office and class.
pub record Product : Type 0 where
  pub issue : ℕ
  pub said : List ZoneLine

abbrev pub rows_with : List Row → Product → List Row
rows_with rows p = rows_after rows p.issue (lines_of rows p.issue p.said)

-- the rows that a list of products leaves, from none
abbrev pub rows_of : List Product → List Row
rows_of products = fold rows_with [] products
