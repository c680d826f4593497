-- The values that fields of JSON objects have, if they are right.
use Rattle.std.specs.Prelude.{ℕ, ◌^◌, List, [], ◌∷◌, nat_le, nat_lt, if◌then◌else◌, Option, Some, None, option_map, option_and_then, codes}
use Rattle.std.specs.Str.{bytes_eq}
use Rattle.serde_json.specs.Data.{Data, Items, no_items, item}
use Rattle.serde_json.specs.Find.{get, as_str, as_number, as_u64, as_object}
use Rattle.hazard_types.specs.Calendar.{stamp_at}
use Rattle.hazard_types.specs.Characters.{location_at}
use Rattle.hazard_types.specs.Codes.{value_for_code}
use Rattle.office_types.specs.Desks.{is_desk_name}
use Rattle.hazard_types.specs.Names.{event_at}
use Rattle.hazard_types.specs.Times.{time_at}
use Rattle.hazard_types.specs.Tables.{severity_rows, cause_rows, status_rows}
use Rattle.hazard_types.specs.declared.codes.Severity.{Severity}
use Rattle.hazard_types.specs.declared.codes.Status.{Status}
use Rattle.hazard_types.specs.declared.line.Flood.{Flood}
use Rattle.hazard_types.specs.declared.period.Begin.{Begin}
use Rattle.hazard_types.specs.declared.period.Begin.TheVariants as begin
use Rattle.hazard_types.specs.declared.period.End.{End}
use Rattle.hazard_types.specs.declared.period.End.TheVariants as end
use Rattle.office_types.specs.declared.request.EventTexts.{EventTexts}
use Rattle.office_types.specs.declared.request.Texts.{Texts}
use Rattle.json_parts.specs.Json.{text_at}
use Rattle.request_json.specs.Keys.{all_known}
use Rattle.request_json.specs.declared.keys.Keys.TheVariants as keys

-- a begin: `now`, or a stamp
abbrev pub begin_at : List ℕ → Option Begin
begin_at bs =
    if bytes_eq bs (codes "now") then Some begin.Now else option_map (λ m. begin.At m) (stamp_at bs)

-- an end: `ufn`, or a stamp
abbrev pub end_at : List ℕ → Option End
end_at bs =
    if bytes_eq bs (codes "ufn") then Some end.Ufn else option_map (λ m. end.At m) (stamp_at bs)

abbrev pub desk_named : List ℕ → Option (List ℕ)
desk_named bs = if is_desk_name bs then Some bs else None

-- a whole number below 2^32
abbrev pub if_small : ℕ → Option ℕ
if_small n = if nat_lt n (2 ^ 32) then Some n else None

abbrev pub number_at : List ℕ → Data → Option ℕ
number_at key d =
    option_and_then if_small (option_and_then as_u64 (option_and_then as_number (get key d)))

-- a number that is not 0
abbrev pub if_counted : ℕ → Option ℕ
if_counted n = if nat_le 1 n then Some n else None

-- ---- H-VTEC values

abbrev pub site_in : Data → Option (List ℕ)
site_in d = option_and_then location_at (text_at (codes "site") d)

abbrev pub severity_in : Data → Option Severity
severity_in d = option_and_then (value_for_code severity_rows) (text_at (codes "severity") d)

-- one of the seven causes that a request may name
abbrev pub cause_in : Data → Option (List ℕ)
cause_in d = option_and_then (value_for_code cause_rows) (text_at (codes "cause") d)

abbrev pub time_in : List ℕ → Data → Option (Option ℕ)
time_in key d = option_and_then time_at (text_at key d)

abbrev pub status_in : Data → Option Status
status_in d = option_and_then (value_for_code status_rows) (text_at (codes "status") d)

-- the values of an object, if each is there and right
unfoldable pub values_in : Data → Option Flood
values_in d =
    option_and_then (λ site. option_and_then (λ severity. option_and_then (λ cause.
    option_and_then (λ begin. option_and_then (λ crest. option_and_then (λ end.
    option_map (λ status.
    record { site = site; severity = severity; cause = cause; begin = begin; crest = crest; end = end; status = status })
    (status_in d))
    (time_in (codes "end") d)) (time_in (codes "crest") d)) (time_in (codes "begin") d))
    (cause_in d)) (severity_in d)) (site_in d)

-- the same, if no other key is there
unfoldable pub flood_of : Data → Option Flood
flood_of d =
    option_and_then (λ ms. if all_known keys.Flood ms then values_in d else None) (as_object d)

-- ---- texts

-- an absent text is empty
abbrev pub text_or_empty : Option Data → Option (List ℕ)
text_or_empty None = Some []
text_or_empty (Some d) = as_str d

abbrev pub free_text : List ℕ → Data → Option (List ℕ)
free_text key d = text_or_empty (get key d)

unfoldable pub four_texts : Data → Option Texts
four_texts d =
    option_and_then (λ what. option_and_then (λ area.
    option_and_then (λ impacts. option_map (λ details.
    record { what = what; area = area; impacts = impacts; details = details })
    (free_text (codes "details") d)) (free_text (codes "impacts") d))
    (free_text (codes "area") d)) (free_text (codes "what") d)

unfoldable pub texts_of : Data → Option Texts
texts_of d =
    option_and_then (λ ms. if all_known keys.Texts ms then four_texts d else None) (as_object d)

-- an event with its texts, if both are there and no other key is
unfoldable pub event_texts_of : Data → Option EventTexts
event_texts_of d = option_and_then (λ ms. if all_known keys.EventTexts ms
    then option_and_then (λ event. option_map (λ texts. record { event = event; texts = texts })
    (option_and_then texts_of (get (codes "texts") d)))
    (option_and_then event_at (text_at (codes "event") d))
    else None) (as_object d)

-- the events with texts of an array, if each item is one
abbrev pub each_event_texts : Items → Option (List EventTexts)
each_event_texts no_items = Some []
each_event_texts (item d ds) =
    option_and_then (λ t. option_map (λ ts. t ∷ ts) (each_event_texts ds)) (event_texts_of d)
