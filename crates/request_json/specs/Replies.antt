-- The texts of replies, refusals and drafts.
use Rattle.std.specs.Prelude.{ℕ, List, map, codes}
use Rattle.serde_json.specs.Data.{Data, number, array, object, Items, Members, no_members, put}
use Rattle.serde_json.specs.Find.{of_integer}
use Rattle.serde_json.specs.View.{items_of}
use Rattle.serde_json.specs.Written.{compact_text}
use Rattle.hazard_types.specs.Calendar.{stamp_of}
use Rattle.hazard_types.specs.Hazards.{hazard_code}
use Rattle.hazard_types.specs.Names.{category_code, event_text}
use Rattle.hazard_types.specs.Places.{Place}
use Rattle.hazard_types.specs.declared.hazard.Event.{Event}
use Rattle.office_types.specs.Refusals.{label as refusal_label}
use Rattle.office_types.specs.declared.refusal.Refusal.{Refusal}
use Rattle.office_types.specs.declared.refusal.Refusal.TheVariants as refusal
use Rattle.office_types.specs.declared.request.Draft.{Draft}
use Rattle.office_types.specs.declared.request.Intent.{Intent}
use Rattle.office_types.specs.declared.request.Reply.{Reply}
use Rattle.office_types.specs.declared.request.Reply.TheVariants as reply
use Rattle.office_types.specs.declared.request.SentReply.{SentReply}
use Rattle.office_types.specs.declared.request.Word.{Word}
use Rattle.office_types.specs.declared.request.Word.TheVariants as word
use Rattle.json_parts.specs.Written.{as_text, set_text, set_number, set_zone, refusal_members}
use Rattle.request_json.specs.Canonical.{intent_data}

-- ---- refusals

-- the code and the name of a refusal
abbrev pub label : Refusal → List ℕ × List ℕ
label r = ((refusal_label r).0, (refusal_label r).1)

abbrev pub set_event_zone : Event → Place → Members → Members
set_event_zone e z ms = set_text (codes "event") (event_text e) (set_zone z ms)

abbrev pub set_clash : Place → Event → Event → Members → Members
set_clash zone first second ms =
    set_text (codes "second") (event_text second)
    (set_text (codes "first") (event_text first) (set_zone zone ms))

abbrev pub set_field_and_index : List ℕ → ℕ → Members → Members
set_field_and_index field at ms = set_number (codes "at") at (set_text (codes "field") field ms)

-- the values of a refusal, each under its name
unfoldable pub set_values : Refusal → Members → Members
set_values (refusal.WrongShape field) ms = set_text (codes "field") field ms
set_values (refusal.Reused last) ms = set_number (codes "last") last ms
set_values (refusal.Stale last) ms = set_number (codes "last") last ms
set_values (refusal.Gap last) ms = set_number (codes "last") last ms
set_values (refusal.ClockOut minute) ms = put (codes "minute") (number (of_integer minute)) ms
set_values (refusal.NotOwner owner) ms = set_text (codes "owner") owner ms
set_values (refusal.StillActive free_at) ms = set_text (codes "free_at") (stamp_of free_at) ms
set_values (refusal.NoIntent place) ms = set_number (codes "place") place ms
set_values (refusal.UnknownZone zone) ms = set_zone zone ms
set_values (refusal.WrongZoneKind zone) ms = set_zone zone ms
set_values (refusal.BadText field at) ms = set_field_and_index field at ms
set_values (refusal.TextTooLong field) ms = set_text (codes "field") field ms
set_values (refusal.NoEvent event) ms = set_text (codes "event") (event_text event) ms
set_values (refusal.NotLive event zone) ms = set_event_zone event zone ms
set_values (refusal.LeftBefore event zone) ms = set_event_zone event zone ms
set_values (refusal.Twice event zone) ms = set_event_zone event zone ms
set_values (refusal.BadPeriod place) ms = set_number (codes "place") place ms
set_values (refusal.BegunMoved event zone) ms = set_event_zone event zone ms
set_values (refusal.NoOpenEnd place) ms = set_number (codes "place") place ms
set_values (refusal.FloodNeeded place) ms = set_number (codes "place") place ms
set_values (refusal.FloodBarred place) ms = set_number (codes "place") place ms
set_values (refusal.SiteMoved event) ms = set_text (codes "event") (event_text event) ms
set_values (refusal.Conflict zone first second) ms = set_clash zone first second ms
set_values (refusal.NumberHeld event) ms = set_text (codes "event") (event_text event) ms
set_values (refusal.NumbersSpent hazard) ms = set_text (codes "hazard") (hazard_code hazard) ms
set_values (refusal.NotLast last) ms = set_number (codes "last") last ms
set_values (refusal.TooManyLines lines) ms = set_number (codes "lines") lines ms
set_values (refusal.TooLong bytes) ms = set_number (codes "bytes") bytes ms
set_values r ms = ms

unfoldable pub refusal_text : Refusal → List ℕ
refusal_text r = compact_text (object (set_values r (refusal_members (label r))))

-- ---- replies

-- the value of `do` of the request
abbrev pub word_code : Word → List ℕ
word_code word.Begun = codes "open"
word_code word.Dropped = codes "drop"
word_code word.Taken = codes "take"
word_code word.Discarded = codes "discard"

abbrev pub event_data : Event → Data
event_data e = as_text (event_text e)

abbrev pub event_items : List Event → Items
event_items es = items_of (map event_data es)

abbrev pub put_sent : SentReply → Members → Members
put_sent s ms =
    put (codes "events") (array (event_items s.events)) (
    set_text (codes "time") (stamp_of s.time) (
    set_number (codes "product") s.product (
    set_text (codes "ok") (codes "send") ms)))

unfoldable pub put_reply : Reply → Members → Members
put_reply (reply.Draft w n) ms =
    set_text (codes "ok") (word_code w) (set_number (codes "draft") n ms)
put_reply (reply.Placed n place) ms =
    set_text (codes "ok") (codes "put")
    (set_number (codes "place") place (set_number (codes "draft") n ms))
put_reply (reply.Sent s) ms = put_sent s ms

unfoldable pub reply_text : Reply → List ℕ
reply_text r = compact_text (object (put_reply r no_members))

-- the replies if the disk fails, and if memory runs out
abbrev pub disk_fault_text : List ℕ
disk_fault_text = codes "{\"no\":\"D1\",\"rule\":\"DiskFault\"}"

abbrev pub out_of_memory_text : List ℕ
out_of_memory_text = codes "{\"no\":\"M1\",\"rule\":\"OutOfMemory\"}"

-- ---- drafts

abbrev pub intent_items : List Intent → Items
intent_items is = items_of (map intent_data is)

unfoldable pub draft_members : Draft → Members
draft_members d =
    put (codes "intents") (array (intent_items d.intents)) (
    set_text (codes "touched") (stamp_of d.touched) (
    set_text (codes "owner") d.owner (
    set_text (codes "category") (category_code d.category) (
    set_number (codes "draft") d.id no_members))))

unfoldable pub draft_text : Draft → List ℕ
draft_text d = compact_text (object (draft_members d))
