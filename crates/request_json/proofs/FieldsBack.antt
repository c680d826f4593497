-- Each field's value is read back from its text.
use Rattle.std.proofs.Common.{◌≡◌, ◌≤◌, ◌^◌, ℕ, Bool, true, false, cond, List, [], ◌∷◌, nat_le, nat_lt, Option, Some, None, option_and_then, IfSome, IsTrue, IsUtf8, refl, ap, ◌∙◌, arith, codes}
use Rattle.std.specs.List.{All, AllByRecursion}
use Rattle.std.specs.Str.{bytes_eq}
use Rattle.std.proofs.lemmas.Bool.Decides.{nat_tests}
use Rattle.std.proofs.lemmas.List.Elements.{recursion_from_All}
use Rattle.std.proofs.lemmas.Slice.Eq.{bytes_eq-Decides}
use Rattle.std.proofs.lemmas.Str.{utf8_lossy-IsUtf8}
use Rattle.serde_json.specs.Data.{Data, number, unsigned, string, object, Members, no_members, put}
use Rattle.serde_json.specs.Find.{get, as_str, as_number, as_u64, as_object}
use Rattle.hazard_types.specs.Calendar.{stamp_of, stamp_at, is_civil}
use Rattle.hazard_types.specs.Characters.{location_at, is_location}
use Rattle.hazard_types.specs.Codes.{value_for_code}
use Rattle.office_types.specs.Desks.{is_desk_name}
use Rattle.hazard_types.specs.Hazards.{hazard_code}
use Rattle.hazard_types.specs.Names.{zone_text, zone_at, event_text, event_at, hazard_at}
use Rattle.hazard_types.specs.Places.{Place, IsPlace}
use Rattle.hazard_types.specs.Tables.{severity_rows, status_rows, cause_rows}
use Rattle.hazard_types.specs.Times.{time_at, time_text}
use Rattle.hazard_types.specs.declared.hazard.Event.{Event}
use Rattle.hazard_types.specs.declared.hazard.Hazard.{Hazard}
use Rattle.hazard_types.specs.declared.line.Flood.{Flood}
use Rattle.hazard_types.specs.declared.period.Begin.{Begin}
use Rattle.hazard_types.specs.declared.period.Begin.TheVariants as begin
use Rattle.hazard_types.specs.declared.period.End.{End}
use Rattle.hazard_types.specs.declared.period.End.TheVariants as end
use Rattle.office_types.specs.declared.request.EventTexts.{EventTexts}
use Rattle.office_types.specs.declared.request.Texts.{Texts}
use Rattle.hazard_types.proofs.CodesBack.{severity_found, status_found}
use Rattle.hazard_types.proofs.NamesBack.{zone_back, hazard_back, event_back}
use Rattle.hazard_types.proofs.Stamps.{stamp_spells}
use Rattle.hazard_types.specs.Letters.{severity_code, status_code}
use Rattle.json_parts.specs.Json.{zones_of, text_at}
use Rattle.json_parts.specs.Written.{as_text}
use Rattle.request_json.specs.Canonical.{set_source, set_times, zone_data, zone_items, texts_data, flood_data, event_texts_data, event_texts_items}
use Rattle.request_json.specs.Fields.{begin_at, end_at, desk_named, if_small, if_counted, number_at, site_in, severity_in, cause_in, time_in, status_in, values_in, flood_of, text_or_empty, free_text, four_texts, texts_of, event_texts_of, each_event_texts}
use Rattle.request_json.specs.Formed.{IsMinute, IsNumber, IsHazard, IsEvent, AreTexts, AreEventTexts, AreFloodValues, IsBegin, IsEnd}
use Rattle.request_json.specs.Pieces.{begin_bytes, end_bytes}
use Rattle.request_json.specs.Keys.{has_key, all_known}
use Rattle.request_json.specs.declared.keys.Keys.TheVariants as keys
use Rattle.request_json.proofs.CanonicalUtf8.{time_utf8, location_utf8, event_utf8, zone_utf8, severity_utf8, status_utf8, cause_utf8}

-- a text that is UTF-8 is written as it is
pub text_is : (bytes : List ℕ) → IsUtf8 bytes → as_text bytes ≡ string bytes
unfolding as_text
text_is bytes h = ap string (utf8_lossy-IsUtf8 bytes h)

pub text_back : (bytes : List ℕ) → IsUtf8 bytes → as_str (as_text bytes) ≡ Some bytes
text_back bytes h = ap as_str (text_is bytes h)

-- what a member's text says
pub text_of : (key bytes : List ℕ) (d : Data) → get key d ≡ Some (as_text bytes) → IsUtf8 bytes → text_at key d ≡ Some bytes
text_of key bytes d found utf8 = ap (option_and_then as_str) found ∙ text_back bytes utf8

pub value_of : {X : Type 0} (key bytes : List ℕ) (d : Data) (f : List ℕ → Option X) (x : X) → get key d ≡ Some (as_text bytes) → IsUtf8 bytes → f bytes ≡ Some x → option_and_then f (text_at key d) ≡ Some x
value_of key bytes d f x found utf8 reads = ap (option_and_then f) (text_of key bytes d found utf8) ∙ reads

-- ---- numbers

small_back : (n : ℕ) → IsNumber n → if_small n ≡ Some n
small_back n h = let below : nat_lt n (2 ^ 32) ≡ true = grind (arith, nat_tests) in rw below refl

pub number_back : (key : List ℕ) (n : ℕ) (d : Data) → get key d ≡ Some (number (unsigned n)) → IsNumber n → number_at key d ≡ Some n
number_back key n d found h = ap (λ o. option_and_then if_small (option_and_then as_u64 (option_and_then as_number o))) found ∙ small_back n h

pub counted_back : (n : ℕ) → 1 ≤ n → if_counted n ≡ Some n
counted_back n h = let above : nat_le 1 n ≡ true = grind (arith, nat_tests) in rw above refl

pub desk_back : (desk : List ℕ) → IsTrue (is_desk_name desk) → desk_named desk ≡ Some desk
desk_back desk h = rw h refl

-- ---- stamps

differs_by : (t : Bool) (a b : List ℕ) (m : ℕ) → bytes_eq a b ≡ t → stamp_at a ≡ Some m → stamp_at b ≡ None → t ≡ false
differs_by false a b m e some none = refl
differs_by true a b m e some none = let same : a ≡ b = (bytes_eq-Decides a b).0 e in let n : stamp_at a ≡ None = ap stamp_at same ∙ none in absurd (cc)

-- a stamp is not a word that is none
differs : (a b : List ℕ) (m : ℕ) → stamp_at a ≡ Some m → stamp_at b ≡ None → bytes_eq a b ≡ false
differs a b m some none = differs_by (bytes_eq a b) a b m refl some none

now_is_none : stamp_at (codes "now") ≡ None
unfolding stamp_at
now_is_none = refl

ufn_is_none : stamp_at (codes "ufn") ≡ None
unfolding stamp_at
ufn_is_none = refl

zeros_are_none : stamp_at (codes "000000T0000Z") ≡ None
unfolding stamp_at is_civil
zeros_are_none = refl

pub begin_back : (b : Begin) → IsBegin b → begin_at (begin_bytes b) ≡ Some b
begin_back begin.Now h = refl
begin_back (begin.At m) h = rw (differs (stamp_of m) (codes "now") m (stamp_spells m h) now_is_none, stamp_spells m h) refl

pub end_back : (e : End) → IsEnd e → end_at (end_bytes e) ≡ Some e
end_back end.Ufn h = refl
end_back (end.At m) h = rw (differs (stamp_of m) (codes "ufn") m (stamp_spells m h) ufn_is_none, stamp_spells m h) refl

time_back : (t : Option ℕ) → IfSome t IsMinute → time_at (time_text t) ≡ Some t
unfolding time_at
time_back None h = refl
time_back (Some m) h = rw (differs (stamp_of m) (codes "000000T0000Z") m (stamp_spells m h) zeros_are_none, stamp_spells m h) refl

-- ---- names

pub hazard_reads : (h : Hazard) → IsHazard h → hazard_at (hazard_code h) ≡ Some h
hazard_reads h is = hazard_back h is.0 is.1

pub event_reads : (e : Event) → IsEvent e → event_at (event_text e) ≡ Some e
event_reads e is = event_back e is.hazard.0 is.hazard.1 is.first_number is.last_number is.first_year is.last_year

zone_reads : (z : Place) → IsPlace z → option_and_then zone_at (as_str (zone_data z)) ≡ Some z
zone_reads z is = ap (option_and_then zone_at) (text_back (zone_text z) (zone_utf8 z is)) ∙ zone_back z is

each_zone : (zs : List Place) → AllByRecursion IsPlace zs → zones_of (zone_items zs) ≡ Some zs
each_zone [] h = refl
each_zone (z ∷ zs) h = rw (zone_reads z h.0, each_zone zs h.1) refl

pub zones_back : (zs : List Place) → All IsPlace zs → zones_of (zone_items zs) ≡ Some zs
zones_back zs h = each_zone zs (recursion_from_All IsPlace zs h)

-- ---- flood values

location_back : (site : List ℕ) → IsTrue (is_location site) → location_at site ≡ Some site
location_back site h = rw h refl

values_by : (d : Data) (f : Flood) → site_in d ≡ Some f.site → severity_in d ≡ Some f.severity → cause_in d ≡ Some f.cause → time_in (codes "begin") d ≡ Some f.begin → time_in (codes "crest") d ≡ Some f.crest
    → time_in (codes "end") d ≡ Some f.end → status_in d ≡ Some f.status → values_in d ≡ Some f
unfolding values_in
values_by d f site severity cause begin crest end status = rw (site, severity, cause, begin, crest, end, status) refl

flood_values : (f : Flood) → AreFloodValues f → values_in (flood_data f) ≡ Some f
unfolding flood_data
flood_values f is =
    let d = object (put (codes "status") (as_text (status_code f.status)) (set_times f (set_source f no_members))) in
    values_by d f
    (value_of (codes "site") f.site d location_at f.site refl (location_utf8 f.site is.site) (location_back f.site is.site))
    (value_of (codes "severity") (severity_code f.severity) d (value_for_code severity_rows) f.severity refl (severity_utf8 f.severity) (severity_found f.severity))
    (value_of (codes "cause") f.cause d (value_for_code cause_rows) f.cause refl (cause_utf8 f.cause is.cause) is.cause)
    (value_of (codes "begin") (time_text f.begin) d time_at f.begin refl (time_utf8 f.begin is.begin) (time_back f.begin is.begin))
    (value_of (codes "crest") (time_text f.crest) d time_at f.crest refl (time_utf8 f.crest is.crest) (time_back f.crest is.crest))
    (value_of (codes "end") (time_text f.end) d time_at f.end refl (time_utf8 f.end is.end) (time_back f.end is.end))
    (value_of (codes "status") (status_code f.status) d (value_for_code status_rows) f.status refl (status_utf8 f.status) (status_found f.status))

if_known : {X : Type 0} (t : Bool) (o : Option X) (x : X) → t ≡ true → o ≡ Some x → cond t o None ≡ Some x
if_known t o x known found = rw (known, found) refl

flood_keys : (f : Flood) → all_known keys.Flood (put (codes "status") (as_text (status_code f.status)) (set_times f (set_source f no_members))) ≡ true
unfolding has_key
flood_keys f = refl

pub flood_back : (f : Flood) → AreFloodValues f → flood_of (flood_data f) ≡ Some f
unfolding flood_of flood_data
flood_back f is = if_known (all_known keys.Flood (put (codes "status") (as_text (status_code f.status)) (set_times f (set_source f no_members)))) (values_in (flood_data f)) f (flood_keys f) (flood_values f is)

-- ---- texts

free_back : (key bytes : List ℕ) (d : Data) → get key d ≡ Some (as_text bytes) → IsUtf8 bytes → free_text key d ≡ Some bytes
free_back key bytes d found utf8 = ap text_or_empty found ∙ text_back bytes utf8

four_by : (d : Data) (t : Texts) → free_text (codes "what") d ≡ Some t.what → free_text (codes "area") d ≡ Some t.area → free_text (codes "impacts") d ≡ Some t.impacts → free_text (codes "details") d ≡ Some t.details → four_texts d ≡ Some t
unfolding four_texts
four_by d t what area impacts details = rw (what, area, impacts, details) refl

four_back : (t : Texts) → AreTexts t → four_texts (texts_data t) ≡ Some t
unfolding texts_data
four_back t is =
    let d = texts_data t in
    four_by d t (free_back (codes "what") t.what d refl is.what) (free_back (codes "area") t.area d refl is.area) (free_back (codes "impacts") t.impacts d refl is.impacts) (free_back (codes "details") t.details d refl is.details)

pub texts_back : (t : Texts) → AreTexts t → texts_of (texts_data t) ≡ Some t
unfolding texts_of texts_data has_key
texts_back t is = if_known _ (four_texts (texts_data t)) t refl (four_back t is)

-- ---- events with their texts

event_texts_by : (d : Data) (ms : Members) (t : EventTexts) → as_object d ≡ Some ms → all_known keys.EventTexts ms ≡ true → option_and_then event_at (text_at (codes "event") d) ≡ Some t.event → option_and_then texts_of (get (codes "texts") d) ≡ Some t.texts → event_texts_of d ≡ Some t
unfolding event_texts_of
event_texts_by d ms t whole known event texts = rw (whole, known, event, texts) refl

pub event_texts_back : (t : EventTexts) → AreEventTexts t → event_texts_of (event_texts_data t) ≡ Some t
unfolding event_texts_data has_key
event_texts_back t is =
    event_texts_by (event_texts_data t) (put (codes "texts") (texts_data t.texts) (put (codes "event") (as_text (event_text t.event)) no_members)) t refl refl
    (value_of (codes "event") (event_text t.event) (event_texts_data t) event_at t.event refl (event_utf8 t.event is.event) (event_reads t.event is.event)) (texts_back t.texts is.texts)

each_back : (ts : List EventTexts) → AllByRecursion AreEventTexts ts → each_event_texts (event_texts_items ts) ≡ Some ts
each_back [] h = refl
each_back (t ∷ ts) h = rw (event_texts_back t h.0, each_back ts h.1) refl

pub list_back : (ts : List EventTexts) → All AreEventTexts ts → each_event_texts (event_texts_items ts) ≡ Some ts
list_back ts h = each_back ts (recursion_from_All AreEventTexts ts h)
