-- No canonical text has a float.
use Rattle.std.proofs.Common.{◌≡◌, false, ℕ, List, Option, Some, None, refl, codes}
use Rattle.serde_json.specs.Data.{array, Members, no_members, put}
use Rattle.serde_json.specs.Written.{has_float, items_have_float, members_have_float}
use Rattle.hazard_types.specs.Calendar.{stamp_of}
use Rattle.hazard_types.specs.Hazards.{hazard_code}
use Rattle.hazard_types.specs.Names.{category_code, zone_text, event_text}
use Rattle.hazard_types.specs.Places.{Place}
use Rattle.hazard_types.specs.Times.{time_text}
use Rattle.hazard_types.specs.declared.line.Flood.{Flood}
use Rattle.hazard_types.specs.declared.period.Begin.{Begin}
use Rattle.hazard_types.specs.declared.period.Begin.TheVariants as begin
use Rattle.hazard_types.specs.declared.period.End.{End}
use Rattle.hazard_types.specs.declared.period.End.TheVariants as end
use Rattle.office_types.specs.declared.request.EventPart.{EventPart}
use Rattle.office_types.specs.declared.request.EventTexts.{EventTexts}
use Rattle.office_types.specs.declared.request.Intent.{Intent}
use Rattle.office_types.specs.declared.request.Intent.TheVariants as intent
use Rattle.office_types.specs.declared.request.PutPart.{PutPart}
use Rattle.office_types.specs.declared.request.Request.{Request}
use Rattle.office_types.specs.declared.request.Request.TheVariants as request
use Rattle.office_types.specs.declared.request.RoutinePart.{RoutinePart}
use Rattle.office_types.specs.declared.request.Target.{Target}
use Rattle.office_types.specs.declared.request.Target.TheVariants as target
use Rattle.office_types.specs.declared.request.Texts.{Texts}
use Rattle.hazard_types.specs.Letters.{severity_code, status_code}
use Rattle.json_parts.specs.Written.{set_text, set_number}
use Rattle.request_json.specs.Canonical.{set_source, set_times, write_begin, write_end, zone_data, zone_items, texts_data, flood_data, event_texts_data, event_texts_items, set_flood, set_target, set_zones_texts, set_put, set_event_part, set_routine, put_do, put_draft, set_put_do, set_event_do, set_routine_do, set_intent, intent_data, set_request, asked_members}
use Rattle.request_json.specs.Replies.{draft_members, intent_items}
use Rattle.office_types.specs.declared.request.Draft.{Draft}
use Rattle.request_json.specs.declared.asked.Asked.{Asked}
use Rattle.json_parts.proofs.Floats.{no_float_put, put_text_no_float, put_number_no_float, text_no_float}
use Rattle.request_json.proofs.Floats.{mapped_no_float}

-- members without a float
abbrev Clean : Members → Type 0
Clean ms = members_have_float ms ≡ false

texts_clean : (t : Texts) → has_float (texts_data t) ≡ false
unfolding texts_data
texts_clean t =
    let a = put_text_no_float (codes "what") t.what no_members refl in
    let b = put_text_no_float (codes "area") t.area (set_text (codes "what") t.what no_members) a in
    let c = put_text_no_float (codes "impacts") t.impacts (set_text (codes "area") t.area (set_text (codes "what") t.what no_members)) b in
    put_text_no_float (codes "details") t.details (set_text (codes "impacts") t.impacts (set_text (codes "area") t.area (set_text (codes "what") t.what no_members))) c

source_clean : (f : Flood) (ms : Members) → Clean ms → Clean (set_source f ms)
source_clean f ms h =
    let m0 : Members = set_text (codes "site") f.site ms in
    let h0 : Clean m0 = put_text_no_float (codes "site") f.site ms h in
    let m1 : Members = set_text (codes "severity") (severity_code f.severity) m0 in
    let h1 : Clean m1 = put_text_no_float (codes "severity") (severity_code f.severity) m0 h0 in
    put_text_no_float (codes "cause") f.cause m1 h1

times_clean : (f : Flood) (ms : Members) → Clean ms → Clean (set_times f ms)
times_clean f ms h =
    let m0 : Members = set_text (codes "begin") (time_text f.begin) ms in
    let h0 : Clean m0 = put_text_no_float (codes "begin") (time_text f.begin) ms h in
    let m1 : Members = set_text (codes "crest") (time_text f.crest) m0 in
    let h1 : Clean m1 = put_text_no_float (codes "crest") (time_text f.crest) m0 h0 in
    put_text_no_float (codes "end") (time_text f.end) m1 h1

flood_clean : (f : Flood) → has_float (flood_data f) ≡ false
unfolding flood_data
flood_clean f =
    let m0 : Members = set_source f no_members in
    put_text_no_float (codes "status") (status_code f.status) (set_times f m0) (times_clean f m0 (source_clean f no_members refl))

event_texts_clean : (t : EventTexts) → has_float (event_texts_data t) ≡ false
unfolding event_texts_data
event_texts_clean t = no_float_put (codes "texts") (texts_data t.texts) (set_text (codes "event") (event_text t.event) no_members) (texts_clean t.texts) (put_text_no_float (codes "event") (event_text t.event) no_members refl)

flood_put : (o : Option Flood) (ms : Members) → Clean ms → Clean (set_flood o ms)
flood_put None ms h = h
flood_put (Some f) ms h = no_float_put (codes "flood") (flood_data f) ms (flood_clean f) h

target_put : (t : Target) (ms : Members) → Clean ms → Clean (set_target t ms)
target_put (target.Fresh x) ms h = put_text_no_float (codes "hazard") (hazard_code x) ms h
target_put (target.Join e) ms h = put_text_no_float (codes "event") (event_text e) ms h

begin_put : (b : Begin) (ms : Members) → Clean ms → Clean (write_begin b ms)
begin_put begin.Now ms h = put_text_no_float (codes "begin") (codes "now") ms h
begin_put (begin.At m) ms h = put_text_no_float (codes "begin") (stamp_of m) ms h

end_put : (e : End) (ms : Members) → Clean ms → Clean (write_end e ms)
end_put end.Ufn ms h = put_text_no_float (codes "end") (codes "ufn") ms h
end_put (end.At m) ms h = put_text_no_float (codes "end") (stamp_of m) ms h

zones_texts_put : (zs : List Place) (t : Texts) (ms : Members) → Clean ms → Clean (set_zones_texts zs t ms)
zones_texts_put zs t ms h =
    let zones = mapped_no_float zone_data (λ (z : Place). text_no_float (zone_text z)) zs in
    no_float_put (codes "texts") (texts_data t) (put (codes "zones") (array (zone_items zs)) ms) (texts_clean t) (no_float_put (codes "zones") (array (zone_items zs)) ms zones h)

put_put_clean : (p : PutPart) (ms : Members) → Clean ms → Clean (set_put p ms)
unfolding set_put
put_put_clean p ms h =
    let m0 : Members = set_target p.target ms in
    let h0 : Clean m0 = target_put p.target ms h in
    let m1 : Members = set_zones_texts p.zones p.texts m0 in
    let h1 : Clean m1 = zones_texts_put p.zones p.texts m0 h0 in
    let m2 : Members = write_begin p.begin m1 in
    let h2 : Clean m2 = begin_put p.begin m1 h1 in
    let m3 : Members = write_end p.end m2 in
    flood_put p.flood m3 (end_put p.end m2 h2)

event_part_clean : (p : EventPart) (ms : Members) → Clean ms → Clean (set_event_part p ms)
unfolding set_event_part
event_part_clean p ms h = zones_texts_put p.zones p.texts (set_text (codes "event") (event_text p.event) ms) (put_text_no_float (codes "event") (event_text p.event) ms h)

routine_clean : (p : RoutinePart) (ms : Members) → Clean ms → Clean (set_routine p ms)
unfolding set_routine
routine_clean p ms h = zones_texts_put p.zones p.texts (set_text (codes "hazard") (hazard_code p.hazard) ms) (put_text_no_float (codes "hazard") (hazard_code p.hazard) ms h)

do_clean : (word : List ℕ) (ms : Members) → Clean ms → Clean (put_do word ms)
do_clean word ms h = put_text_no_float (codes "do") word ms h

put_do_clean : (word : List ℕ) (p : PutPart) (ms : Members) → Clean ms → Clean (set_put_do word p ms)
put_do_clean word p ms h = put_put_clean p (put_do word ms) (do_clean word ms h)

event_do_clean : (word : List ℕ) (p : EventPart) (ms : Members) → Clean ms → Clean (set_event_do word p ms)
event_do_clean word p ms h = event_part_clean p (put_do word ms) (do_clean word ms h)

routine_do_clean : (p : RoutinePart) (ms : Members) → Clean ms → Clean (set_routine_do p ms)
routine_do_clean p ms h = routine_clean p (put_do (codes "routine") ms) (do_clean (codes "routine") ms h)

intent_put : (i : Intent) (ms : Members) → Clean ms → Clean (set_intent i ms)
unfolding set_intent
intent_put (intent.Put p) ms h = put_do_clean (codes "put") p ms h
intent_put (intent.Finish p) ms h = event_do_clean (codes "end") p ms h
intent_put (intent.Restate p) ms h = event_do_clean (codes "restate") p ms h
intent_put (intent.Routine p) ms h = routine_do_clean p ms h

pub intent_clean : (i : Intent) → has_float (intent_data i) ≡ false
unfolding intent_data
intent_clean i = intent_put i no_members refl

draft_clean : (n : ℕ) (ms : Members) → Clean ms → Clean (put_draft n ms)
draft_clean n ms h = put_number_no_float (codes "draft") n ms h

texts_items_clean : (ts : List EventTexts) → items_have_float (event_texts_items ts) ≡ false
texts_items_clean ts = mapped_no_float event_texts_data event_texts_clean ts

request_put : (r : Request) (ms : Members) → Clean ms → Clean (set_request r ms)
unfolding set_request
request_put (request.Begin c) ms h = put_text_no_float (codes "category") (category_code c) (put_do (codes "open") ms) (do_clean (codes "open") ms h)
request_put (request.Issue p) ms h = put_do_clean (codes "issue") p ms h
request_put (request.Put n p) ms h = put_do_clean (codes "put") p (put_draft n ms) (draft_clean n ms h)
request_put (request.Finish n p) ms h = event_do_clean (codes "end") p (put_draft n ms) (draft_clean n ms h)
request_put (request.Restate n p) ms h = event_do_clean (codes "restate") p (put_draft n ms) (draft_clean n ms h)
request_put (request.Routine n p) ms h = routine_do_clean p (put_draft n ms) (draft_clean n ms h)
request_put (request.Drop n place) ms h = put_number_no_float (codes "place") place (put_draft n (put_do (codes "drop") ms)) (draft_clean n (put_do (codes "drop") ms) (do_clean (codes "drop") ms h))
request_put (request.Take n) ms h = draft_clean n (put_do (codes "take") ms) (do_clean (codes "take") ms h)
request_put (request.Discard n) ms h = draft_clean n (put_do (codes "discard") ms) (do_clean (codes "discard") ms h)
request_put (request.Send n) ms h = draft_clean n (put_do (codes "send") ms) (do_clean (codes "send") ms h)
request_put (request.Correct n ts) ms h =
    no_float_put (codes "texts") (array (event_texts_items ts)) (set_number (codes "product") n (put_do (codes "correct") ms)) (texts_items_clean ts)
    (put_number_no_float (codes "product") n (put_do (codes "correct") ms) (do_clean (codes "correct") ms h))

pub asked_no_float : (a : Asked) → members_have_float (asked_members a) ≡ false
unfolding asked_members
asked_no_float a =
    let m0 : Members = set_request a.request no_members in
    let h0 : Clean m0 = request_put a.request no_members refl in
    put_number_no_float (codes "seq") a.seq (set_text (codes "desk") a.desk m0) (put_text_no_float (codes "desk") a.desk m0 h0)

pub draft_no_float : (d : Draft) → members_have_float (draft_members d) ≡ false
unfolding draft_members
draft_no_float d =
    let m0 : Members = set_number (codes "draft") d.id no_members in
    let h0 : Clean m0 = put_number_no_float (codes "draft") d.id no_members refl in
    let m1 : Members = set_text (codes "category") (category_code d.category) m0 in
    let h1 : Clean m1 = put_text_no_float (codes "category") (category_code d.category) m0 h0 in
    let m2 : Members = set_text (codes "owner") d.owner m1 in
    let h2 : Clean m2 = put_text_no_float (codes "owner") d.owner m1 h1 in
    let m3 : Members = set_text (codes "touched") (stamp_of d.touched) m2 in
    let h3 : Clean m3 = put_text_no_float (codes "touched") (stamp_of d.touched) m2 h2 in
    no_float_put (codes "intents") (array (intent_items d.intents)) m3 (mapped_no_float intent_data intent_clean d.intents) h3
