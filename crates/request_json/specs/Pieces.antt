-- Pieces of compact JSON, of which the texts of issues and replies are made.
use Rattle.std.specs.Prelude.{◌==◌, ◌&&◌, not, ℕ, nat_le, nat_lt, Bool, List, ◌++◌, codes}
use Rattle.serde_json.specs.Data.{number, unsigned, array}
use Rattle.serde_json.specs.Written.{compact_text}
use Rattle.hazard_types.specs.Calendar.{stamp_of}
use Rattle.hazard_types.specs.Hazards.{hazard_code}
use Rattle.hazard_types.specs.Places.{Place}
use Rattle.hazard_types.specs.declared.hazard.Event.{Event}
use Rattle.hazard_types.specs.declared.hazard.Hazard.{Hazard}
use Rattle.hazard_types.specs.declared.period.Begin.{Begin}
use Rattle.hazard_types.specs.declared.period.Begin.TheVariants as begin
use Rattle.hazard_types.specs.declared.period.End.{End}
use Rattle.hazard_types.specs.declared.period.End.TheVariants as end
use Rattle.office_types.specs.declared.request.Texts.{Texts}
use Rattle.json_parts.specs.Written.{as_text}
use Rattle.request_json.specs.Canonical.{texts_data, zone_items}
use Rattle.request_json.specs.Replies.{event_items}

-- a byte that strings have as it is: a printable one, but no quote and no backslash
abbrev pub is_plain : ℕ → Bool
is_plain b = nat_le 32 b && nat_lt b 127 && not (b == 34) && not (b == 92)

unfoldable pub string_text : List ℕ → List ℕ
string_text bytes = compact_text (as_text bytes)

unfoldable pub whole_text : ℕ → List ℕ
whole_text n = compact_text (number (unsigned n))

unfoldable pub zones_text : List Place → List ℕ
zones_text zones = compact_text (array (zone_items zones))

unfoldable pub events_text : List Event → List ℕ
events_text events = compact_text (array (event_items events))

unfoldable pub texts_text : Texts → List ℕ
texts_text t = compact_text (texts_data t)

abbrev pub begin_bytes : Begin → List ℕ
begin_bytes begin.Now = codes "now"
begin_bytes (begin.At m) = stamp_of m

abbrev pub end_bytes : End → List ℕ
end_bytes end.Ufn = codes "ufn"
end_bytes (end.At m) = stamp_of m

-- ---- the four texts

unfoldable pub area_details : Texts → List ℕ
area_details t =
    codes "{\"area\":" ++ (string_text t.area ++ (codes ",\"details\":" ++ string_text t.details))

unfoldable pub impacts_what : Texts → List ℕ
impacts_what t =
    codes ",\"impacts\":"
    ++ (string_text t.impacts ++ (codes ",\"what\":" ++ (string_text t.what ++ codes "}")))

-- ---- an issue of a new event without H-VTEC values

unfoldable pub begin_desk : Begin → List ℕ → List ℕ
begin_desk b desk =
    codes "{\"begin\":" ++ (string_text (begin_bytes b) ++ (codes ",\"desk\":" ++ string_text desk))

unfoldable pub do_end : List ℕ → End → List ℕ
do_end word e =
    codes ",\"do\":" ++ (string_text word ++ (codes ",\"end\":" ++ string_text (end_bytes e)))

unfoldable pub hazard_seq : Hazard → ℕ → List ℕ
hazard_seq h seq =
    codes ",\"hazard\":" ++ (string_text (hazard_code h) ++ (codes ",\"seq\":" ++ whole_text seq))

unfoldable pub texts_zones : Texts → List Place → List ℕ
texts_zones t zones =
    codes ",\"texts\":"
    ++ (texts_text t ++ (codes ",\"zones\":" ++ (zones_text zones ++ codes "}")))

-- ---- replies

unfoldable pub draft_ok : ℕ → List ℕ → List ℕ
draft_ok draft word =
    codes "{\"draft\":" ++ (whole_text draft ++ (codes ",\"ok\":" ++ string_text word))

unfoldable pub place_end : ℕ → List ℕ
place_end place = codes ",\"place\":" ++ (whole_text place ++ codes "}")

unfoldable pub events_ok : List Event → List ℕ
events_ok events =
    codes "{\"events\":" ++ (events_text events ++ (codes ",\"ok\":" ++ string_text (codes "send")))

unfoldable pub product_time : ℕ → ℕ → List ℕ
product_time product time =
    codes ",\"product\":"
    ++ (whole_text product ++ (codes ",\"time\":" ++ (string_text (stamp_of time) ++ codes "}")))
