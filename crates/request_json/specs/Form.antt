-- Which JSON values are requests, and which requests they are. The first field that is missing or
-- wrong is named, and an unknown key last.
use Rattle.std.specs.Prelude.{ℕ, not, Bool, false, List, [], if◌then◌else◌, Option, Some, None, option_map, option_and_then, codes, Result, Ok, Err}
use Rattle.std.specs.Option.{ok_or}
use Rattle.std.specs.Str.{bytes_eq}
use Rattle.serde_json.specs.Data.{Data}
use Rattle.serde_json.specs.Find.{get, as_array, as_object}
use Rattle.hazard_types.specs.Codes.{value_for_code}
use Rattle.hazard_types.specs.Given.{◌>>=◌}
use Rattle.hazard_types.specs.Names.{hazard_at, event_at}
use Rattle.hazard_types.specs.Places.{Place}
use Rattle.hazard_types.specs.Tables.{category_rows}
use Rattle.hazard_types.specs.declared.codes.Category.{Category}
use Rattle.hazard_types.specs.declared.hazard.Event.{Event}
use Rattle.hazard_types.specs.declared.hazard.Hazard.{Hazard}
use Rattle.hazard_types.specs.declared.line.Flood.{Flood}
use Rattle.hazard_types.specs.declared.period.Begin.{Begin}
use Rattle.hazard_types.specs.declared.period.End.{End}
use Rattle.office_types.specs.declared.refusal.Refusal.{Refusal}
use Rattle.office_types.specs.declared.refusal.Refusal.TheVariants.{NotJson, WrongShape}
use Rattle.office_types.specs.declared.request.EventPart.{EventPart}
use Rattle.office_types.specs.declared.request.EventTexts.{EventTexts}
use Rattle.office_types.specs.declared.request.PutPart.{PutPart}
use Rattle.office_types.specs.declared.request.Request.{Request}
use Rattle.office_types.specs.declared.request.Request.TheVariants as request
use Rattle.office_types.specs.declared.request.RoutinePart.{RoutinePart}
use Rattle.office_types.specs.declared.request.Target.{Target}
use Rattle.office_types.specs.declared.request.Target.TheVariants as target
use Rattle.office_types.specs.declared.request.Texts.{Texts}
use Rattle.json_parts.specs.Json.{json_of, given, text_at, zones_field}
use Rattle.request_json.specs.Fields.{begin_at, end_at, desk_named, number_at, if_counted, flood_of, texts_of, each_event_texts}
use Rattle.request_json.specs.Keys.{verb_at, keys_of, all_known}
use Rattle.request_json.specs.declared.asked.Asked.{Asked}
use Rattle.request_json.specs.declared.keys.Keys.TheVariants as keys
use Rattle.request_json.specs.declared.keys.Verb.{Verb}
use Rattle.request_json.specs.declared.keys.Verb.TheVariants as verb

-- what a field that is a text says, or its name if it is missing or wrong
abbrev pub text_field : {X : Type 0} → (List ℕ → Option X) → List ℕ → Data → Result X (List ℕ)
text_field says key d = given (option_and_then says (text_at key d)) key

abbrev pub desk_field : Data → Result (List ℕ) (List ℕ)
desk_field d = text_field desk_named (codes "desk") d

abbrev pub seq_field : Data → Result ℕ (List ℕ)
seq_field d = given (option_and_then if_counted (number_at (codes "seq") d)) (codes "seq")

abbrev pub verb_field : Data → Result Verb (List ℕ)
verb_field d = text_field verb_at (codes "do") d

abbrev pub category_field : Data → Result Category (List ℕ)
category_field d = text_field (value_for_code category_rows) (codes "category") d

abbrev pub number_field : List ℕ → Data → Result ℕ (List ℕ)
number_field key d = given (number_at key d) key

abbrev pub hazard_field : Data → Result Hazard (List ℕ)
hazard_field d = text_field hazard_at (codes "hazard") d

abbrev pub event_field : Data → Result Event (List ℕ)
event_field d = text_field event_at (codes "event") d

abbrev pub begin_field : Data → Result Begin (List ℕ)
begin_field d = text_field begin_at (codes "begin") d

abbrev pub end_field : Data → Result End (List ℕ)
end_field d = text_field end_at (codes "end") d

-- H-VTEC values may be absent
abbrev pub flood_or_none : Option Data → Option (Option Flood)
flood_or_none None = Some None
flood_or_none (Some d) = option_map (λ flood. Some flood) (flood_of d)

abbrev pub flood_field : Data → Result (Option Flood) (List ℕ)
flood_field d = given (flood_or_none (get (codes "flood") d)) (codes "flood")

-- absent texts are empty
abbrev pub no_texts : Texts
no_texts = record { what = []; area = []; impacts = []; details = [] }

abbrev pub texts_or_empty : Option Data → Option Texts
texts_or_empty None = Some no_texts
texts_or_empty (Some d) = texts_of d

abbrev pub texts_field : Data → Result Texts (List ℕ)
texts_field d = given (texts_or_empty (get (codes "texts") d)) (codes "texts")

-- the texts of a correction are an array, and may be absent
abbrev pub event_texts_or_none : Option Data → Option (List EventTexts)
event_texts_or_none None = Some []
event_texts_or_none (Some d) = option_and_then each_event_texts (as_array d)

abbrev pub event_texts_field : Data → Result (List EventTexts) (List ℕ)
event_texts_field d = given (event_texts_or_none (get (codes "texts") d)) (codes "texts")

-- exactly one of hazard and event is there
abbrev pub target_given : Option Data → Option Data → Data → Result Target (List ℕ)
target_given (Some h) None d = hazard_field d >>= λ hazard. Ok (target.Fresh hazard)
target_given None (Some e) d = event_field d >>= λ event. Ok (target.Join event)
target_given None None d = Err (codes "hazard")
target_given (Some h) (Some e) d = Err (codes "hazard")

abbrev pub target_field : Data → Result Target (List ℕ)
target_field d = target_given (get (codes "hazard") d) (get (codes "event") d) d

-- the zones, the period, the H-VTEC values and the texts of a put
unfoldable pub put_on : Target → Data → Result PutPart (List ℕ)
put_on t d =
    zones_field d >>= λ zones.
    begin_field d >>= λ begin.
    end_field d >>= λ end.
    flood_field d >>= λ flood.
    texts_field d >>= λ texts.
    Ok (record { target = t; zones = zones; begin = begin; end = end; flood = flood; texts = texts })

unfoldable pub issue_part : Data → Result PutPart (List ℕ)
issue_part d = hazard_field d >>= λ hazard. put_on (target.Fresh hazard) d

unfoldable pub put_part : Data → Result PutPart (List ℕ)
put_part d = target_field d >>= λ t. put_on t d

-- a value, and the zones and the texts behind it
abbrev pub part_of : {A P : Type 0} → (A → List Place → Texts → P) → Result A (List ℕ) → Data → Result P (List ℕ)
part_of make first d =
    first >>= λ value.
    zones_field d >>= λ zones.
    texts_field d >>= λ texts.
    Ok (make value zones texts)

abbrev pub on_event : Event → List Place → Texts → EventPart
on_event e zs ts = record { event = e; zones = zs; texts = ts }

abbrev pub of_hazard : Hazard → List Place → Texts → RoutinePart
of_hazard h zs ts = record { hazard = h; zones = zs; texts = ts }

unfoldable pub event_part : Data → Result EventPart (List ℕ)
event_part d = part_of on_event (event_field d) d

unfoldable pub routine_part : Data → Result RoutinePart (List ℕ)
routine_part d = part_of of_hazard (hazard_field d) d

-- the fields of a request on a draft that follow `draft`
unfoldable pub draft_in : Verb → ℕ → Data → Result Request (List ℕ)
draft_in verb.Put draft d = put_part d >>= λ part. Ok (request.Put draft part)
draft_in verb.End draft d = event_part d >>= λ part. Ok (request.Finish draft part)
draft_in verb.Restate draft d = event_part d >>= λ part. Ok (request.Restate draft part)
draft_in verb.Routine draft d = routine_part d >>= λ part. Ok (request.Routine draft part)
draft_in verb.Drop draft d =
    number_field (codes "place") d >>= λ place. Ok (request.Drop draft place)
draft_in verb.Take draft d = Ok (request.Take draft)
draft_in verb.Discard draft d = Ok (request.Discard draft)
draft_in v draft d = Ok (request.Send draft)

unfoldable pub draft_request : Verb → Data → Result Request (List ℕ)
draft_request v d = number_field (codes "draft") d >>= λ draft. draft_in v draft d

-- the fields of a request that follow `do`, in their order
unfoldable pub request_in : Verb → Data → Result Request (List ℕ)
request_in verb.Open d = category_field d >>= λ category. Ok (request.Begin category)
request_in verb.Issue d = issue_part d >>= λ part. Ok (request.Issue part)
request_in verb.Correct d =
    number_field (codes "product") d >>= λ product.
    event_texts_field d >>= λ texts.
    Ok (request.Correct product texts)
request_in v d = draft_request v d

-- a whole request: its desk, its number and what it does come first, and it has no other keys
unfoldable pub asked_in : Data → Result Asked (List ℕ)
asked_in d =
    given (as_object d) (codes ".") >>= λ ms.
    desk_field d >>= λ desk.
    seq_field d >>= λ seq.
    verb_field d >>= λ v.
    request_in v d >>= λ r.
    if all_known (keys_of v) ms then Ok (record { desk = desk; seq = seq; request = r })
    else Err (codes "?")

-- the name of a field is told as that of a wrong one
abbrev pub told : {X : Type 0} → Result X (List ℕ) → Result X Refusal
told (Ok x) = Ok x
told (Err field) = Err (WrongShape field)

-- the request that the bytes are, or the first fault
unfoldable pub asked_of : List ℕ → Result Asked Refusal
asked_of bytes = ok_or (json_of bytes) NotJson >>= λ d. told (asked_in d)

abbrev pub is_issue : Option (List ℕ) → Bool
is_issue None = false
is_issue (Some word) = bytes_eq word (codes "issue")

-- an issue without desk and number
unfoldable pub training_issue_in : Data → Result PutPart (List ℕ)
training_issue_in d =
    given (as_object d) (codes ".") >>= λ ms.
    if not (is_issue (text_at (codes "do") d)) then Err (codes "do") else (
    issue_part d >>= λ part.
    if all_known keys.Training ms then Ok part else Err (codes "?"))

unfoldable pub training_issue_of : List ℕ → Result PutPart Refusal
training_issue_of line = ok_or (json_of line) NotJson >>= λ d. told (training_issue_in d)
