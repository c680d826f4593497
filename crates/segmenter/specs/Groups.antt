-- The groups of a product's lines, and the lines of each.
use Rattle.std.specs.Prelude.{ℕ, Bool, List, [], ◌∷◌, Option, Some, None, fold, if◌then◌else◌}
use Rattle.std.specs.List.{filter}
use Rattle.std.specs.declared.cmp.Ordering.{Ordering}
use Rattle.std.specs.Ordering.{nat_cmp, on, then_cmp, is_lt}
use Rattle.hazard_types.specs.Names.{is_fl_phenomenon}
use Rattle.hazard_types.specs.Orders.{by_event}
use Rattle.hazard_types.specs.declared.codes.Action.{Action}
use Rattle.hazard_types.specs.declared.codes.Action.TheVariants.{New, Con, Exa, Ext, Exb, Upg, Can, Exp, Cor, Rou}
use Rattle.hazard_types.specs.declared.hazard.Event.{Event}
use Rattle.hazard_types.specs.declared.line.Line.{Line}
use Rattle.hazard_types.specs.declared.line.SegLine.{SegLine}
use Rattle.segmenter.specs.declared.groups.Group.{Group}
use Rattle.segmenter.specs.contracts.groups.GroupPartialEq.TheImpl as group

-- the event that has a group of its own
abbrev pub flood_event : Event → Option Event
flood_event e = if is_fl_phenomenon e.hazard then Some e else None

-- the zone of a line, and its event where that has a group of its own
abbrev pub group_of : Line → Group
group_of line = record { zone = line.zone; flood = flood_event line.event }

-- the test `==` of groups
abbrev pub same_group : Group → Group → Bool
same_group = group.eq-value.it

abbrev pub without_zone : Line → SegLine
without_zone line = record { action = line.action; event = line.event; begin = line.begin; end = line.end; flood = line.flood }

-- UPG, CAN, EXP, NEW, EXB, EXA, EXT, CON, COR, ROU
abbrev pub action_rank : Action → ℕ
action_rank Upg = 0
action_rank Can = 1
action_rank Exp = 2
action_rank New = 3
action_rank Exb = 4
action_rank Exa = 5
action_rank Ext = 6
action_rank Con = 7
action_rank Cor = 8
action_rank Rou = 9

-- by action, then by event
abbrev pub by_line : SegLine → SegLine → Ordering
by_line = then_cmp (on (λ (l : SegLine). action_rank l.action) nat_cmp) (on (λ (l : SegLine). l.event) by_event)

-- the lines with one more, before the first that comes after it
abbrev pub placed : SegLine → List SegLine → List SegLine
placed line [] = line ∷ []
placed line (other ∷ others) = if is_lt (by_line line other) then line ∷ other ∷ others else other ∷ placed line others

-- the lines of a group, without their zone, in order
abbrev pub lines_of : List Line → Group → List SegLine
lines_of lines g = fold (λ (ordered : List SegLine) (line : Line). placed (without_zone line) ordered) [] (filter (λ line. same_group g (group_of line)) lines)
