-- The texts of refusals: compact JSON. A member is set at its key's place, so keys are in byte order.
use Rattle.std.specs.Prelude.{ℕ, List, codes}
use Rattle.serde_json.specs.Data.{object, Members}
use Rattle.serde_json.specs.Written.{compact_text}
use Rattle.hazard_types.specs.Calendar.{stamp_of}
use Rattle.hazard_types.specs.Names.{event_text}
use Rattle.hazard_types.specs.declared.hazard.Event.{Event}
use Rattle.json_parts.specs.Written.{set_text, set_number, set_zone, refusal_members}
use Rattle.notice_json.specs.declared.refusal.NoticeRefusal.{NoticeRefusal}
use Rattle.notice_json.specs.declared.refusal.NoticeRefusal.TheVariants as refusal

-- a minute by its stamp
abbrev pub set_minute : List ℕ → ℕ → Members → Members
set_minute key m ms = set_text key (stamp_of m) ms

abbrev pub put_event_name : Event → Members → Members
put_event_name e ms = set_text (codes "event") (event_text e) ms

-- the code and the name of each refusal
unfoldable pub label : NoticeRefusal → List ℕ × List ℕ
label refusal.LineTooLong = (codes "J3", codes "LineTooLong")
label refusal.NotJson = (codes "J1", codes "NotJson")
label (refusal.WrongShape field) = (codes "J2", codes "WrongShape")
label (refusal.TimeOut minute) = (codes "A1", codes "TimeOut")
label (refusal.TimeBack last) = (codes "A2", codes "TimeBack")
label refusal.BadZones = (codes "A3", codes "BadZones")
label (refusal.NotCounty zone) = (codes "A4", codes "NotCounty")
label refusal.BadEnd = (codes "A5", codes "BadEnd")
label (refusal.NumberUsed event) = (codes "A6", codes "NumberUsed")
label (refusal.NumberHeld event) = (codes "A7", codes "NumberHeld")
label refusal.NoWatch = (codes "A8", codes "NoWatch")
label (refusal.LeftBefore zone) = (codes "A9", codes "LeftBefore")
label (refusal.NotLive zone) = (codes "A10", codes "NotLive")
label (refusal.TooLong bytes) = (codes "A11", codes "TooLong")

-- the values of a refusal, by name
unfoldable pub set_values : NoticeRefusal → Members → Members
set_values refusal.LineTooLong ms = ms
set_values refusal.NotJson ms = ms
set_values (refusal.WrongShape field) ms = set_text (codes "field") field ms
set_values (refusal.TimeOut minute) ms = set_minute (codes "minute") minute ms
set_values (refusal.TimeBack last) ms = set_minute (codes "last") last ms
set_values refusal.BadZones ms = ms
set_values (refusal.NotCounty zone) ms = set_zone zone ms
set_values refusal.BadEnd ms = ms
set_values (refusal.NumberUsed event) ms = put_event_name event ms
set_values (refusal.NumberHeld event) ms = put_event_name event ms
set_values refusal.NoWatch ms = ms
set_values (refusal.LeftBefore zone) ms = set_zone zone ms
set_values (refusal.NotLive zone) ms = set_zone zone ms
set_values (refusal.TooLong bytes) ms = set_number (codes "bytes") bytes ms

-- the object of a refusal's code, name and values
unfoldable pub refusal_text : NoticeRefusal → List ℕ
refusal_text r = compact_text (object (set_values r (refusal_members (label r))))
