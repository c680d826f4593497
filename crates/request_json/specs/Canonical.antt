-- Canonical texts of requests: compact JSON. `put` keeps members in byte order of their keys.
use Rattle.std.specs.Prelude.{ℕ, List, map, Option, Some, None, codes}
use Rattle.serde_json.specs.Data.{Data, array, object, Items, Members, no_members, put}
use Rattle.serde_json.specs.View.{items_of}
use Rattle.serde_json.specs.Written.{compact_text}
use Rattle.hazard_types.specs.Calendar.{stamp_of}
use Rattle.hazard_types.specs.Letters.{severity_code, status_code}
use Rattle.hazard_types.specs.Hazards.{hazard_code}
use Rattle.hazard_types.specs.Names.{category_code, zone_text, event_text}
use Rattle.hazard_types.specs.Places.{Place}
use Rattle.hazard_types.specs.Times.{time_text}
use Rattle.hazard_types.specs.declared.codes.Category.{Category}
use Rattle.hazard_types.specs.declared.line.Flood.{Flood}
use Rattle.hazard_types.specs.declared.period.Begin.{Begin}
use Rattle.hazard_types.specs.declared.period.Begin.TheVariants as begin
use Rattle.hazard_types.specs.declared.period.End.{End}
use Rattle.hazard_types.specs.declared.period.End.TheVariants as end
use Rattle.office_types.specs.declared.request.EventPart.{EventPart}
use Rattle.office_types.specs.declared.request.EventTexts.{EventTexts}
use Rattle.office_types.specs.declared.request.Intent.{Intent}
use Rattle.office_types.specs.declared.request.Intent.TheVariants as intent
use Rattle.office_types.specs.declared.request.PutPart.{PutPart}
use Rattle.office_types.specs.declared.request.Request.{Request}
use Rattle.office_types.specs.declared.request.Request.TheVariants as request
use Rattle.office_types.specs.declared.request.RoutinePart.{RoutinePart}
use Rattle.office_types.specs.declared.request.Target.{Target}
use Rattle.office_types.specs.declared.request.Target.TheVariants as target
use Rattle.office_types.specs.declared.request.Texts.{Texts}
use Rattle.json_parts.specs.Written.{as_text, set_text, set_number}
use Rattle.request_json.specs.declared.asked.Asked.{Asked}

abbrev pub write_begin : Begin → Members → Members
write_begin begin.Now ms = set_text (codes "begin") (codes "now") ms
write_begin (begin.At m) ms = set_text (codes "begin") (stamp_of m) ms

abbrev pub write_end : End → Members → Members
write_end end.Ufn ms = set_text (codes "end") (codes "ufn") ms
write_end (end.At m) ms = set_text (codes "end") (stamp_of m) ms

abbrev pub zone_data : Place → Data
zone_data z = as_text (zone_text z)

abbrev pub zone_items : List Place → Items
zone_items zs = items_of (map zone_data zs)

-- the four texts, empty ones too
unfoldable pub texts_data : Texts → Data
texts_data t =
    object (set_text (codes "details") t.details
    (set_text (codes "impacts") t.impacts
    (set_text (codes "area") t.area
    (set_text (codes "what") t.what no_members))))

abbrev pub set_source : Flood → Members → Members
set_source f ms =
    set_text (codes "cause") f.cause
    (set_text (codes "severity") (severity_code f.severity)
    (set_text (codes "site") f.site ms))

abbrev pub set_times : Flood → Members → Members
set_times f ms =
    set_text (codes "end") (time_text f.end)
    (set_text (codes "crest") (time_text f.crest)
    (set_text (codes "begin") (time_text f.begin) ms))

unfoldable pub flood_data : Flood → Data
flood_data f =
    object (set_text (codes "status") (status_code f.status)
    (set_times f (set_source f no_members)))

unfoldable pub event_texts_data : EventTexts → Data
event_texts_data t =
    object (put (codes "texts") (texts_data t.texts)
    (set_text (codes "event") (event_text t.event) no_members))

abbrev pub event_texts_items : List EventTexts → Items
event_texts_items ts = items_of (map event_texts_data ts)

-- H-VTEC values, if there are some
abbrev pub set_flood : Option Flood → Members → Members
set_flood None ms = ms
set_flood (Some f) ms = put (codes "flood") (flood_data f) ms

abbrev pub set_target : Target → Members → Members
set_target (target.Fresh h) ms = set_text (codes "hazard") (hazard_code h) ms
set_target (target.Join e) ms = set_text (codes "event") (event_text e) ms

abbrev pub set_zones_texts : List Place → Texts → Members → Members
set_zones_texts zones texts ms =
    put (codes "texts") (texts_data texts)
    (put (codes "zones") (array (zone_items zones)) ms)

unfoldable pub set_put : PutPart → Members → Members
set_put p ms =
    set_flood p.flood (
    write_end p.end (
    write_begin p.begin (
    set_zones_texts p.zones p.texts (
    set_target p.target ms))))

unfoldable pub set_event_part : EventPart → Members → Members
set_event_part p ms =
    set_zones_texts p.zones p.texts (set_text (codes "event") (event_text p.event) ms)

unfoldable pub set_routine : RoutinePart → Members → Members
set_routine p ms =
    set_zones_texts p.zones p.texts (set_text (codes "hazard") (hazard_code p.hazard) ms)

-- the members with `do`
abbrev pub put_do : List ℕ → Members → Members
put_do word ms = set_text (codes "do") word ms

abbrev pub set_put_do : List ℕ → PutPart → Members → Members
set_put_do word p ms = set_put p (put_do word ms)

abbrev pub set_event_do : List ℕ → EventPart → Members → Members
set_event_do word p ms = set_event_part p (put_do word ms)

abbrev pub set_routine_do : RoutinePart → Members → Members
set_routine_do p ms = set_routine p (put_do (codes "routine") ms)

-- an intent: its request without desk, number and draft
unfoldable pub set_intent : Intent → Members → Members
set_intent (intent.Put p) ms = set_put_do (codes "put") p ms
set_intent (intent.Finish p) ms = set_event_do (codes "end") p ms
set_intent (intent.Restate p) ms = set_event_do (codes "restate") p ms
set_intent (intent.Routine p) ms = set_routine_do p ms

unfoldable pub intent_data : Intent → Data
intent_data i = object (set_intent i no_members)

unfoldable pub intent_text : Intent → List ℕ
intent_text i = compact_text (intent_data i)

abbrev pub put_draft : ℕ → Members → Members
put_draft n ms = set_number (codes "draft") n ms

abbrev pub set_draft_do : List ℕ → ℕ → Members → Members
set_draft_do word n ms = put_draft n (put_do word ms)

abbrev pub set_drop : ℕ → ℕ → Members → Members
set_drop n place ms = set_number (codes "place") place (set_draft_do (codes "drop") n ms)

abbrev pub set_open : Category → Members → Members
set_open c ms = set_text (codes "category") (category_code c) (put_do (codes "open") ms)

-- the texts of a correction are an array, empty if there are none
abbrev pub set_correct : ℕ → List EventTexts → Members → Members
set_correct n ts ms =
    put (codes "texts") (array (event_texts_items ts))
    (set_number (codes "product") n (put_do (codes "correct") ms))

-- a request without desk and number
unfoldable pub set_request : Request → Members → Members
set_request (request.Begin c) ms = set_open c ms
set_request (request.Issue p) ms = set_put_do (codes "issue") p ms
set_request (request.Put n p) ms = set_put_do (codes "put") p (put_draft n ms)
set_request (request.Finish n p) ms = set_event_do (codes "end") p (put_draft n ms)
set_request (request.Restate n p) ms = set_event_do (codes "restate") p (put_draft n ms)
set_request (request.Routine n p) ms = set_routine_do p (put_draft n ms)
set_request (request.Drop n place) ms = set_drop n place ms
set_request (request.Take n) ms = set_draft_do (codes "take") n ms
set_request (request.Discard n) ms = set_draft_do (codes "discard") n ms
set_request (request.Send n) ms = set_draft_do (codes "send") n ms
set_request (request.Correct n ts) ms = set_correct n ts ms

unfoldable pub asked_members : Asked → Members
asked_members a =
    set_number (codes "seq") a.seq
    (set_text (codes "desk") a.desk (set_request a.request no_members))

-- the canonical text of a request
unfoldable pub asked_text : Asked → List ℕ
asked_text a = compact_text (object (asked_members a))
