-- Why a command on a watch is refused.
use Rattle.std.specs.Prelude.{◌&&◌, not, ℕ, Bool, false, List, [], ◌∷◌, find, nat_le, nat_lt, if◌then◌else◌, Option, Some, None, is_none, option_map}
use Rattle.std.specs.Option.{option_or}
use Rattle.hazard_types.specs.Places.{Place}
use Rattle.hazard_types.specs.contracts.zone.KindPartialEq.TheImpl as kinds
use Rattle.hazard_types.specs.declared.hazard.Event.{Event}
use Rattle.hazard_types.specs.declared.line.Row.{Row}
use Rattle.hazard_types.specs.declared.zone.Kind.TheVariants as kind
use Rattle.event_life.specs.Periods.{is_live, keeps_open}
use Rattle.event_life.specs.Products.{has_rows, row_at}
use Rattle.action_planner.specs.Fitting.{is_valid_zone_list}
use Rattle.action_planner.specs.Offences.{first_given, has_row_by, holds}
use Rattle.notice_json.specs.declared.command.Command.{Command}
use Rattle.notice_json.specs.declared.command.Deed.{Deed}
use Rattle.notice_json.specs.declared.command.Deed.TheVariants as deed
use Rattle.notice_json.specs.declared.refusal.NoticeRefusal.{NoticeRefusal}
use Rattle.notice_json.specs.declared.refusal.NoticeRefusal.TheVariants as refusal
use Rattle.county_notices.specs.declared.issuer.Issuer.{Issuer}
use Rattle.county_notices.specs.Lines.{new_event, open_event}

-- An office, and what its notices so far have left: the rows, by zone, then event, each pair once, and the minute of the last accepted command (0 before the first).
pub record Noticed : Type 0 where
  pub by : Issuer
  pub rows : List Row
  pub last : ℕ

abbrev pub refused_if : Bool → NoticeRefusal → Option NoticeRefusal
refused_if test r = if test then Some r else None

-- TimeOut: the minute is above 52,000,000
abbrev pub time_out : Command → Option NoticeRefusal
time_out c = refused_if (nat_lt 52000000 c.at) (refusal.TimeOut c.at)

-- TimeBack: it is before that of the last accepted command
abbrev pub time_back : ℕ → Command → Option NoticeRefusal
time_back last c = refused_if (nat_lt c.at last) (refusal.TimeBack last)

-- BadZones: none, more than 600, or one that stands twice
abbrev pub bad_zones : Command → Option NoticeRefusal
bad_zones c = refused_if (not (is_valid_zone_list c.zones)) refusal.BadZones

-- NotCounty: a public zone; the first one as written is named
abbrev pub is_public : Place → Bool
is_public z = kinds.eq-value.it z.kind kind.Z

abbrev pub no_county : Place → NoticeRefusal
no_county z = refusal.NotCounty z

abbrev pub not_county : Command → Option NoticeRefusal
not_county c = option_map no_county (find is_public c.zones)

-- BadEnd: the end is not after the minute
abbrev pub has_bad_end : ℕ → Deed → Bool
has_bad_end t (deed.Open end) = nat_le end t
has_bad_end t (deed.Join end) = nat_le end t
has_bad_end t deed.End = false

abbrev pub bad_end : Command → Option NoticeRefusal
bad_end c = refused_if (has_bad_end c.at c.deed) refusal.BadEnd

-- NumberUsed: the event that is to be opened has rows, ended ones among them
abbrev pub number_used : List Row → Command → Deed → Option NoticeRefusal
number_used rows c (deed.Open end) = refused_if (has_rows rows (new_event c)) (refusal.NumberUsed (new_event c))
number_used rows c (deed.Join end) = None
number_used rows c deed.End = None

-- NumberHeld: an open event of an earlier year has the number that is to be opened
abbrev pub held_by : Row → NoticeRefusal
held_by row = refusal.NumberHeld row.event

abbrev pub number_held : List Row → Command → Deed → Option NoticeRefusal
number_held rows c (deed.Open end) = option_map held_by (find (holds c.at (new_event c)) rows)
number_held rows c (deed.Join end) = None
number_held rows c deed.End = None

-- NoWatch: a join or an end, and no event of the hazard and number is open
abbrev pub none_open : List Row → Command → Option NoticeRefusal
none_open rows c = refused_if (is_none (open_event rows c)) refusal.NoWatch

abbrev pub no_watch : List Row → Command → Deed → Option NoticeRefusal
no_watch rows c (deed.Open end) = None
no_watch rows c (deed.Join end) = none_open rows c
no_watch rows c deed.End = none_open rows c

-- LeftBefore: a join in a zone with a row that no line has ended and that is not live
abbrev pub has_lapsed : ℕ → Row → Bool
has_lapsed t row = not row.ended && not (is_live t row)

abbrev pub was_left : List Row → ℕ → Event → Place → Bool
was_left rows t e z = has_row_by (has_lapsed t) (row_at rows e z)

abbrev pub county_left : Place → NoticeRefusal
county_left z = refusal.LeftBefore z

-- NotLive: an end in a zone without a row, on an ended one, or more than half an hour after its end
abbrev pub is_gone : List Row → ℕ → Event → Place → Bool
is_gone rows t e z = not (has_row_by (keeps_open t) (row_at rows e z))

abbrev pub county_gone : Place → NoticeRefusal
county_gone z = refusal.NotLive z

-- of the zones as written the first is named
abbrev pub left_in : List Row → Command → Option Event → Option NoticeRefusal
left_in rows c None = None
left_in rows c (Some e) = option_map county_left (find (was_left rows c.at e) c.zones)

abbrev pub gone_in : List Row → Command → Option Event → Option NoticeRefusal
gone_in rows c None = None
gone_in rows c (Some e) = option_map county_gone (find (is_gone rows c.at e) c.zones)

abbrev pub left_before : List Row → Command → Deed → Option NoticeRefusal
left_before rows c (deed.Open end) = None
left_before rows c (deed.Join end) = left_in rows c (open_event rows c)
left_before rows c deed.End = None

abbrev pub not_live : List Row → Command → Deed → Option NoticeRefusal
not_live rows c (deed.Open end) = None
not_live rows c (deed.Join end) = None
not_live rows c deed.End = gone_in rows c (open_event rows c)

-- The rules, in the order in which they are asked: those of the command by itself, then those by the rows. The one on the length of the notice is asked behind them.
abbrev pub command_rules : ℕ → Command → List (Option NoticeRefusal)
command_rules last c = time_out c ∷ time_back last c ∷ bad_zones c ∷ not_county c ∷ bad_end c ∷ []

abbrev pub row_rules : List Row → Command → List (Option NoticeRefusal)
row_rules rows c = number_used rows c c.deed ∷ number_held rows c c.deed ∷ no_watch rows c c.deed ∷ left_before rows c c.deed ∷ not_live rows c c.deed ∷ []

-- the first rule that is broken, with what it names
unfoldable pub broken_by_itself : ℕ → Command → Option NoticeRefusal
broken_by_itself last c = first_given (command_rules last c)

unfoldable pub broken_by_rows : List Row → Command → Option NoticeRefusal
broken_by_rows rows c = first_given (row_rules rows c)

abbrev pub broken_with : List Row → ℕ → Command → Option NoticeRefusal
broken_with rows last c = option_or (broken_by_itself last c) (broken_by_rows rows c)

abbrev pub broken : Noticed → Command → Option NoticeRefusal
broken s c = broken_with s.rows s.last c
