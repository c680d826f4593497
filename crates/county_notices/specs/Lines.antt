-- The lines of a command on a watch.
use Rattle.std.specs.Prelude.{ℕ, List, [], ◌∷◌, ◌++◌, if◌then◌else◌, Option, Some, None}
use Rattle.hazard_types.specs.Days.{year_of}
use Rattle.hazard_types.specs.Places.{Place}
use Rattle.hazard_types.specs.declared.codes.Action.{Action}
use Rattle.hazard_types.specs.declared.codes.Action.TheVariants.{New, Can, Exp}
use Rattle.hazard_types.specs.declared.hazard.Event.{Event}
use Rattle.hazard_types.specs.declared.line.Line.{Line}
use Rattle.hazard_types.specs.declared.line.Row.{Row}
use Rattle.hazard_types.specs.declared.period.Begin.TheVariants.{Now}
use Rattle.hazard_types.specs.declared.period.End.TheVariants.{At}
use Rattle.office_types.specs.declared.request.PutPart.{PutPart}
use Rattle.office_types.specs.declared.request.Target.{Target}
use Rattle.office_types.specs.declared.request.Target.TheVariants.{Fresh, Join}
use Rattle.event_life.specs.Products.{latest_open_event, row_at}
use Rattle.action_planner.specs.Lines.{is_near_end, line_on, opening_action, line_of_put}
use Rattle.action_planner.specs.Texts.{no_texts}
use Rattle.notice_json.specs.Commands.{hazard_of}
use Rattle.notice_json.specs.declared.command.Command.{Command}
use Rattle.notice_json.specs.declared.command.Deed.{Deed}
use Rattle.notice_json.specs.declared.command.Deed.TheVariants as deed

-- the event that a command would open: of the number that was handed in, and of the year of its minute
abbrev pub new_event : Command → Event
new_event c = record { hazard = hazard_of c.watch; etn = c.number; year = year_of c.at }

-- the open event of its hazard and number
abbrev pub open_event : List Row → Command → Option Event
open_event rows c = latest_open_event rows (hazard_of c.watch) c.number c.at

-- the event that a command speaks of
abbrev pub event_by : List Row → Command → Deed → Option Event
event_by rows c (deed.Open end) = Some (new_event c)
event_by rows c (deed.Join end) = open_event rows c
event_by rows c deed.End = open_event rows c

-- a put as a draft has it: it begins now, and ends at a minute
abbrev pub put_of : Target → ℕ → PutPart
put_of target end = record { target = target; zones = []; begin = Now; end = At end; flood = None; texts = no_texts }

-- the action of an event in the zones that a command brings it into; an end brings it into none
abbrev pub entering_action : List Row → ℕ → Event → Deed → Action
entering_action rows t e (deed.Open end) = New
entering_action rows t e (deed.Join end) = opening_action rows t e (put_of (Join e) end) (Join e)
entering_action rows t e deed.End = New

-- EXP within half an hour of the end, either way, else CAN
abbrev pub ending_action : ℕ → Row → Action
ending_action t row = if is_near_end row.period.end t then Exp else Can

abbrev pub ending_lines : ℕ → Option Row → List Line
ending_lines t None = []
ending_lines t (Some row) = line_on (ending_action t row) t row ∷ []

-- What a command says of a zone: an open and a join the line of such a put, an end that the row ends; it says nothing where there is no row (and is refused).
abbrev pub lines_in : List Row → ℕ → Event → Deed → Place → List Line
lines_in rows t e (deed.Open end) z = line_of_put rows t e (put_of (Fresh e.hazard) end) z ∷ []
lines_in rows t e (deed.Join end) z = line_of_put rows t e (put_of (Join e) end) z ∷ []
lines_in rows t e deed.End z = ending_lines t (row_at rows e z)

-- by zone as it was written
abbrev pub lines_in_zones : List Row → ℕ → Event → Deed → List Place → List Line
lines_in_zones rows t e d [] = []
lines_in_zones rows t e d (z ∷ zones) = lines_in rows t e d z ++ lines_in_zones rows t e d zones

abbrev pub lines_if : List Row → Command → Option Event → List Line
lines_if rows c None = []
lines_if rows c (Some e) = lines_in_zones rows c.at e c.deed c.zones

-- all lines of a command
abbrev pub lines_of : List Row → Command → List Line
lines_of rows c = lines_if rows c (event_by rows c c.deed)
