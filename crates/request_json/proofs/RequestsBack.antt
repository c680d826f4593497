-- The canonical text of a request that has the form is read back as the request.
use Rattle.std.proofs.Common.{◌≡◌, ℕ, true, false, List, Option, Some, None, option_map, option_and_then, IfSome, IsUtf8, Result, Ok, refl, ap, ◌∙◌, arith, codes}
use Rattle.std.specs.List.{All}
use Rattle.std.specs.Ordering.{is_eq}
use Rattle.std.proofs.lemmas.Str.{is_utf8-from_IsUtf8}
use Rattle.serde_json.specs.Data.{Data, number, unsigned, array, object, Members, no_members, put}
use Rattle.serde_json.specs.Find.{get, get_member, as_array}
use Rattle.serde_json.specs.Read.{read}
use Rattle.serde_json.specs.Written.{compact_text}
use Rattle.hazard_types.specs.Codes.{value_for_code}
use Rattle.hazard_types.specs.Given.{◌>>=◌}
use Rattle.hazard_types.specs.Hazards.{hazard_code}
use Rattle.hazard_types.specs.Names.{category_code, event_text, event_at, hazard_at}
use Rattle.hazard_types.specs.Places.{Place, IsPlace}
use Rattle.hazard_types.specs.Tables.{category_rows}
use Rattle.hazard_types.specs.declared.codes.Category.{Category}
use Rattle.hazard_types.specs.declared.hazard.Event.{Event}
use Rattle.hazard_types.specs.declared.hazard.Hazard.{Hazard}
use Rattle.hazard_types.specs.declared.line.Flood.{Flood}
use Rattle.hazard_types.specs.declared.period.Begin.{Begin}
use Rattle.hazard_types.specs.declared.period.Begin.TheVariants as begin
use Rattle.hazard_types.specs.declared.period.End.{End}
use Rattle.hazard_types.specs.declared.period.End.TheVariants as end
use Rattle.office_types.specs.declared.request.EventPart.{EventPart}
use Rattle.office_types.specs.declared.request.EventTexts.{EventTexts}
use Rattle.office_types.specs.declared.request.PutPart.{PutPart}
use Rattle.office_types.specs.declared.request.Request.{Request}
use Rattle.office_types.specs.declared.request.Request.TheVariants as request
use Rattle.office_types.specs.declared.request.RoutinePart.{RoutinePart}
use Rattle.office_types.specs.declared.request.Target.{Target}
use Rattle.office_types.specs.declared.request.Target.TheVariants as target
use Rattle.office_types.specs.declared.request.Texts.{Texts}
use Rattle.hazard_types.proofs.NamesBack.{category_back}
use Rattle.json_parts.specs.Json.{zones_of, given, zones_field}
use Rattle.json_parts.specs.Written.{as_text, set_text}
use Rattle.request_json.specs.Canonical.{zone_items, texts_data, flood_data, event_texts_items, write_begin, write_end, set_flood, set_target, set_zones_texts, set_put, set_event_part, set_routine, put_do, put_draft, set_request, asked_members, asked_text}
use Rattle.request_json.specs.Fields.{begin_at, end_at, desk_named, if_counted}
use Rattle.request_json.specs.Form.{desk_field, seq_field, verb_field, category_field, number_field, hazard_field, event_field, begin_field, end_field, flood_or_none, flood_field, texts_or_empty, texts_field, event_texts_or_none, event_texts_field, target_given, target_field, put_on, issue_part, put_part, event_part, routine_part, draft_in, draft_request, request_in, asked_in, told, asked_of}
use Rattle.request_json.specs.Formed.{IsNumber, IsHazard, IsEvent, AreTexts, AreEventTexts, AreFloodValues, IsBegin, IsEnd, IsTarget, IsFresh, IsPutPart, IsEventPart, IsRoutinePart, HasRequestForm, HasForm}
use Rattle.request_json.specs.Pieces.{begin_bytes, end_bytes}
use Rattle.request_json.specs.Keys.{verb_at, keys_of, has_key, all_known}
use Rattle.request_json.specs.declared.asked.Asked.{Asked}
use Rattle.request_json.specs.declared.keys.Keys.{Keys}
use Rattle.request_json.specs.declared.keys.Keys.TheVariants as keys
use Rattle.request_json.specs.declared.keys.Verb.{Verb}
use Rattle.request_json.specs.declared.keys.Verb.TheVariants as verb
use Rattle.request_json.proofs.CanonicalPlain.{asked_plain}
use Rattle.request_json.proofs.CanonicalUtf8.{stamp_utf8, desk_utf8, hazard_utf8, event_utf8, category_utf8}
use Rattle.request_json.proofs.CompactReading.{reads_back, utf8_text}
use Rattle.request_json.proofs.FieldsBack.{value_of, number_back, counted_back, desk_back, begin_back, end_back, hazard_reads, event_reads, zones_back, flood_back, texts_back, list_back}
use Rattle.request_json.proofs.Putting.{order, here, beside, known_put}
use Rattle.json.proofs.Printed.Utf8.{are_ascii, IsUtf8-are_ascii}

-- neither key is the other
abbrev AreApart : List ℕ → List ℕ → Type 0
AreApart k l = is_eq (order k l) ≡ false

given_back : {X : Type 0} (o : Option X) (x : X) (name : List ℕ) → o ≡ Some x → given o name ≡ Ok x
given_back o x name h = rw h refl

-- ---- the fields of a part, wherever it stands

begin_is : (b : Begin) (ms : Members) → write_begin b ms ≡ set_text (codes "begin") (begin_bytes b) ms
begin_is begin.Now ms = refl
begin_is (begin.At m) ms = refl

end_is : (e : End) (ms : Members) → write_end e ms ≡ set_text (codes "end") (end_bytes e) ms
end_is end.Ufn ms = refl
end_is (end.At m) ms = refl

begin_utf8 : (b : Begin) → IsBegin b → IsUtf8 (begin_bytes b)
begin_utf8 begin.Now h = IsUtf8-are_ascii _ refl
begin_utf8 (begin.At m) h = stamp_utf8 m h

end_utf8 : (e : End) → IsEnd e → IsUtf8 (end_bytes e)
end_utf8 end.Ufn h = IsUtf8-are_ascii _ refl
end_utf8 (end.At m) h = stamp_utf8 m h

flood_here : (o : Option Flood) (ms : Members) → get_member (codes "flood") ms ≡ None → get_member (codes "flood") (set_flood o ms) ≡ option_map flood_data o
flood_here None ms h = h
flood_here (Some f) ms h = here (codes "flood") (flood_data f) ms

beside_flood : (k : List ℕ) (o : Option Flood) (ms : Members) → AreApart k (codes "flood") → get_member k (set_flood o ms) ≡ get_member k ms
beside_flood k None ms h = refl
beside_flood k (Some f) ms h = beside k (codes "flood") (flood_data f) ms h

beside_begin : (k : List ℕ) (b : Begin) (ms : Members) → AreApart k (codes "begin") → get_member k (write_begin b ms) ≡ get_member k ms
beside_begin k b ms h = ap (get_member k) (begin_is b ms) ∙ beside k (codes "begin") (as_text (begin_bytes b)) ms h

beside_end : (k : List ℕ) (e : End) (ms : Members) → AreApart k (codes "end") → get_member k (write_end e ms) ≡ get_member k ms
beside_end k e ms h = ap (get_member k) (end_is e ms) ∙ beside k (codes "end") (as_text (end_bytes e)) ms h

beside_target : (k : List ℕ) (t : Target) (ms : Members) → AreApart k (codes "hazard") → AreApart k (codes "event") → get_member k (set_target t ms) ≡ get_member k ms
beside_target k (target.Fresh h) ms hazard event = beside k (codes "hazard") (as_text (hazard_code h)) ms hazard
beside_target k (target.Join e) ms hazard event = beside k (codes "event") (as_text (event_text e)) ms event

beside_zones_texts : (k : List ℕ) (zs : List Place) (t : Texts) (ms : Members) → AreApart k (codes "texts") → AreApart k (codes "zones") → get_member k (set_zones_texts zs t ms) ≡ get_member k ms
beside_zones_texts k zs t ms texts zones = beside k (codes "texts") (texts_data t) (put (codes "zones") (array (zone_items zs)) ms) texts ∙ beside k (codes "zones") (array (zone_items zs)) ms zones

-- ---- zones and texts

zones_here : (zs : List Place) (t : Texts) (ms : Members) → get_member (codes "zones") (set_zones_texts zs t ms) ≡ Some (array (zone_items zs))
zones_here zs t ms = beside (codes "zones") (codes "texts") (texts_data t) (put (codes "zones") (array (zone_items zs)) ms) refl ∙ here (codes "zones") (array (zone_items zs)) ms

texts_here : (zs : List Place) (t : Texts) (ms : Members) → get_member (codes "texts") (set_zones_texts zs t ms) ≡ Some (texts_data t)
texts_here zs t ms = here (codes "texts") (texts_data t) (put (codes "zones") (array (zone_items zs)) ms)

zones_read : (zs : List Place) (d : Data) → All IsPlace zs → get (codes "zones") d ≡ Some (array (zone_items zs)) → zones_field d ≡ Ok zs
zones_read zs d is found = given_back _ zs (codes "zones") (ap (λ o. option_and_then zones_of (option_and_then as_array o)) found ∙ zones_back zs is)

texts_read : (t : Texts) (d : Data) → AreTexts t → get (codes "texts") d ≡ Some (texts_data t) → texts_field d ≡ Ok t
texts_read t d is found = given_back _ t (codes "texts") (ap texts_or_empty found ∙ texts_back t is)

begin_read : (b : Begin) (d : Data) → IsBegin b → get (codes "begin") d ≡ Some (as_text (begin_bytes b)) → begin_field d ≡ Ok b
begin_read b d is found = given_back _ b (codes "begin") (value_of (codes "begin") (begin_bytes b) d begin_at b found (begin_utf8 b is) (begin_back b is))

end_read : (e : End) (d : Data) → IsEnd e → get (codes "end") d ≡ Some (as_text (end_bytes e)) → end_field d ≡ Ok e
end_read e d is found = given_back _ e (codes "end") (value_of (codes "end") (end_bytes e) d end_at e found (end_utf8 e is) (end_back e is))

flood_of_none : (o : Option Flood) → IfSome o AreFloodValues → flood_or_none (option_map flood_data o) ≡ Some o
flood_of_none None is = refl
flood_of_none (Some f) is = rw (flood_back f is) refl

flood_read : (o : Option Flood) (d : Data) → IfSome o AreFloodValues → get (codes "flood") d ≡ option_map flood_data o → flood_field d ≡ Ok o
flood_read o d is found = given_back _ o (codes "flood") (ap flood_or_none found ∙ flood_of_none o is)

hazard_read : (h : Hazard) (d : Data) → IsHazard h → get (codes "hazard") d ≡ Some (as_text (hazard_code h)) → hazard_field d ≡ Ok h
hazard_read h d is found = given_back _ h (codes "hazard") (value_of (codes "hazard") (hazard_code h) d hazard_at h found (hazard_utf8 h is) (hazard_reads h is))

event_read : (e : Event) (d : Data) → IsEvent e → get (codes "event") d ≡ Some (as_text (event_text e)) → event_field d ≡ Ok e
event_read e d is found = given_back _ e (codes "event") (value_of (codes "event") (event_text e) d event_at e found (event_utf8 e is) (event_reads e is))

number_read : (key : List ℕ) (n : ℕ) (d : Data) → IsNumber n → get key d ≡ Some (number (unsigned n)) → number_field key d ≡ Ok n
number_read key n d small found = given_back _ n key (number_back key n d found small)

-- ---- parts

-- the members of a part stand in the data
pub record HasPart (d : Data) (p : PutPart) : Type 0 where
  pub zones : get (codes "zones") d ≡ Some (array (zone_items p.zones))
  pub begin : get (codes "begin") d ≡ Some (as_text (begin_bytes p.begin))
  pub end : get (codes "end") d ≡ Some (as_text (end_bytes p.end))
  pub flood : get (codes "flood") d ≡ option_map flood_data p.flood
  pub texts : get (codes "texts") d ≡ Some (texts_data p.texts)

put_by : (t : Target) (d : Data) (p : PutPart) → zones_field d ≡ Ok p.zones → begin_field d ≡ Ok p.begin → end_field d ≡ Ok p.end → flood_field d ≡ Ok p.flood → texts_field d ≡ Ok p.texts → t ≡ p.target → put_on t d ≡ Ok p
unfolding put_on
put_by t d p zones begin end flood texts same = rw (zones, begin, end, flood, texts, same) refl

put_read : (d : Data) (p : PutPart) → IsPutPart p → HasPart d p → put_on p.target d ≡ Ok p
put_read d p is has =
    put_by p.target d p (zones_read p.zones d is.zones has.zones) (begin_read p.begin d is.begin has.begin) (end_read p.end d is.end has.end) (flood_read p.flood d is.flood has.flood) (texts_read p.texts d is.texts has.texts) refl

-- each member but the desk and the number stands in the data
abbrev HasMembers : Data → Members → Type 0
HasMembers d ms = (k : List ℕ) → AreApart k (codes "seq") → AreApart k (codes "desk") → get k d ≡ get_member k ms

-- under the members of a part
below_times : (k : List ℕ) (p : PutPart) (ms : Members) → AreApart k (codes "flood") → AreApart k (codes "end") → AreApart k (codes "begin") → get_member k (set_flood p.flood (write_end p.end (write_begin p.begin ms))) ≡ get_member k ms
below_times k p ms flood end begin = beside_flood k p.flood (write_end p.end (write_begin p.begin ms)) flood ∙ beside_end k p.end (write_begin p.begin ms) end ∙ beside_begin k p.begin ms begin

below_part : (k : List ℕ) (p : PutPart) (ms : Members) → AreApart k (codes "flood") → AreApart k (codes "end") → AreApart k (codes "begin") → AreApart k (codes "texts") → AreApart k (codes "zones") → get_member k (set_put p ms) ≡ get_member k (set_target p.target ms)
unfolding set_put
below_part k p ms flood end begin texts zones =
    below_times k p (set_zones_texts p.zones p.texts (set_target p.target ms)) flood end begin ∙ beside_zones_texts k p.zones p.texts (set_target p.target ms) texts zones

begin_here : (b : Begin) (ms : Members) → get_member (codes "begin") (write_begin b ms) ≡ Some (as_text (begin_bytes b))
begin_here b ms = ap (get_member (codes "begin")) (begin_is b ms) ∙ here (codes "begin") (as_text (begin_bytes b)) ms

end_here : (e : End) (ms : Members) → get_member (codes "end") (write_end e ms) ≡ Some (as_text (end_bytes e))
end_here e ms = ap (get_member (codes "end")) (end_is e ms) ∙ here (codes "end") (as_text (end_bytes e)) ms

part_has : (p : PutPart) (ms : Members) (d : Data) → HasMembers d (set_put p ms) → get_member (codes "flood") ms ≡ None → HasPart d p
unfolding set_put
part_has p ms d through none =
    let m0 = set_target p.target ms in
    let m1 = set_zones_texts p.zones p.texts m0 in
    let m2 = write_begin p.begin m1 in
    let m3 = write_end p.end m2 in
    let no_flood : get_member (codes "flood") m3 ≡ None = beside_end (codes "flood") p.end m2 refl ∙ beside_begin (codes "flood") p.begin m1 refl ∙ beside_zones_texts (codes "flood") p.zones p.texts m0 refl refl ∙ beside_target (codes "flood") p.target ms refl refl ∙ none in
    record {
      zones = through (codes "zones") refl refl ∙ below_times (codes "zones") p m1 refl refl refl ∙ zones_here p.zones p.texts m0;
      begin = through (codes "begin") refl refl ∙ beside_flood (codes "begin") p.flood m3 refl ∙ beside_end (codes "begin") p.end m2 refl ∙ begin_here p.begin m1;
      end = through (codes "end") refl refl ∙ beside_flood (codes "end") p.flood m3 refl ∙ end_here p.end m2;
      flood = through (codes "flood") refl refl ∙ flood_here p.flood m3 no_flood;
      texts = through (codes "texts") refl refl ∙ below_times (codes "texts") p m1 refl refl refl ∙ texts_here p.zones p.texts m0;
    }

target_by : (a b : Option Data) (d : Data) → get (codes "hazard") d ≡ a → get (codes "event") d ≡ b → target_field d ≡ target_given a b d
target_by a b d h e = ap (λ (x : Option Data). target_given x (get (codes "event") d) d) h ∙ ap (λ (y : Option Data). target_given a y d) e

target_read : (t : Target) (ms : Members) (d : Data) → IsTarget t → get (codes "hazard") d ≡ get_member (codes "hazard") (set_target t ms) → get (codes "event") d ≡ get_member (codes "event") (set_target t ms)
    → get_member (codes "hazard") ms ≡ None → get_member (codes "event") ms ≡ None → target_field d ≡ Ok t
target_read (target.Fresh h) ms d is hazard event no_hazard no_event =
    let one : get (codes "hazard") d ≡ Some (as_text (hazard_code h)) = hazard ∙ here (codes "hazard") (as_text (hazard_code h)) ms in
    let two : get (codes "event") d ≡ None = event ∙ beside (codes "event") (codes "hazard") (as_text (hazard_code h)) ms refl ∙ no_event in
    target_by (Some (as_text (hazard_code h))) None d one two ∙ ap (λ (r : Result Hazard (List ℕ)). r >>= λ hazard. Ok (target.Fresh hazard)) (hazard_read h d is one)
target_read (target.Join e) ms d is hazard event no_hazard no_event =
    let one : get (codes "event") d ≡ Some (as_text (event_text e)) = event ∙ here (codes "event") (as_text (event_text e)) ms in
    let two : get (codes "hazard") d ≡ None = hazard ∙ beside (codes "hazard") (codes "event") (as_text (event_text e)) ms refl ∙ no_hazard in
    target_by None (Some (as_text (event_text e))) d two one ∙ ap (λ (r : Result Event (List ℕ)). r >>= λ event. Ok (target.Join event)) (event_read e d is one)

part_read : (p : PutPart) (ms : Members) (d : Data) → IsPutPart p → HasMembers d (set_put p ms) → get_member (codes "flood") ms ≡ None → get_member (codes "hazard") ms ≡ None → get_member (codes "event") ms ≡ None → put_part d ≡ Ok p
unfolding put_part
part_read p ms d is through no_flood no_hazard no_event =
    let told = target_read p.target ms d is.target (through (codes "hazard") refl refl ∙ below_part (codes "hazard") p ms refl refl refl refl refl) (through (codes "event") refl refl ∙ below_part (codes "event") p ms refl refl refl refl refl) no_hazard no_event in
    rw told (put_read d p is (part_has p ms d through no_flood))

fresh_read : (t : Target) (ms : Members) (d : Data) → IsTarget t → IsFresh t → get (codes "hazard") d ≡ get_member (codes "hazard") (set_target t ms) → (hazard_field d >>= λ hazard. put_on (target.Fresh hazard) d) ≡ put_on t d
fresh_read (target.Fresh h) ms d is fresh found = rw (hazard_read h d is (found ∙ here (codes "hazard") (as_text (hazard_code h)) ms)) refl
fresh_read (target.Join e) ms d is fresh found = absurd fresh

issue_read : (p : PutPart) (ms : Members) (d : Data) → IsPutPart p → IsFresh p.target → HasMembers d (set_put p ms) → get_member (codes "flood") ms ≡ None → issue_part d ≡ Ok p
unfolding issue_part
issue_read p ms d is fresh through no_flood =
    fresh_read p.target ms d is.target fresh (through (codes "hazard") refl refl ∙ below_part (codes "hazard") p ms refl refl refl refl refl) ∙ put_read d p is (part_has p ms d through no_flood)

event_by : (d : Data) (p : EventPart) → event_field d ≡ Ok p.event → zones_field d ≡ Ok p.zones → texts_field d ≡ Ok p.texts → event_part d ≡ Ok p
unfolding event_part
event_by d p event zones texts = rw (event, zones, texts) refl

event_part_read : (p : EventPart) (d : Data) → IsEventPart p → get (codes "event") d ≡ Some (as_text (event_text p.event)) → get (codes "zones") d ≡ Some (array (zone_items p.zones)) → get (codes "texts") d ≡ Some (texts_data p.texts) → event_part d ≡ Ok p
event_part_read p d is event zones texts = event_by d p (event_read p.event d is.event event) (zones_read p.zones d is.zones zones) (texts_read p.texts d is.texts texts)

routine_by : (d : Data) (p : RoutinePart) → hazard_field d ≡ Ok p.hazard → zones_field d ≡ Ok p.zones → texts_field d ≡ Ok p.texts → routine_part d ≡ Ok p
unfolding routine_part
routine_by d p hazard zones texts = rw (hazard, zones, texts) refl

routine_read : (p : RoutinePart) (d : Data) → IsRoutinePart p → get (codes "hazard") d ≡ Some (as_text (hazard_code p.hazard)) → get (codes "zones") d ≡ Some (array (zone_items p.zones)) → get (codes "texts") d ≡ Some (texts_data p.texts) → routine_part d ≡ Ok p
routine_read p d is hazard zones texts = routine_by d p (hazard_read p.hazard d is.hazard hazard) (zones_read p.zones d is.zones zones) (texts_read p.texts d is.texts texts)

-- ---- known keys

known_flood : (ks : Keys) (o : Option Flood) (ms : Members) → has_key ks (codes "flood") ≡ true → all_known ks ms ≡ true → all_known ks (set_flood o ms) ≡ true
known_flood ks None ms key h = h
known_flood ks (Some f) ms key h = known_put ks (codes "flood") (flood_data f) ms key h

known_begin : (ks : Keys) (b : Begin) (ms : Members) → has_key ks (codes "begin") ≡ true → all_known ks ms ≡ true → all_known ks (write_begin b ms) ≡ true
known_begin ks b ms key h = ap (all_known ks) (begin_is b ms) ∙ known_put ks (codes "begin") (as_text (begin_bytes b)) ms key h

known_end : (ks : Keys) (e : End) (ms : Members) → has_key ks (codes "end") ≡ true → all_known ks ms ≡ true → all_known ks (write_end e ms) ≡ true
known_end ks e ms key h = ap (all_known ks) (end_is e ms) ∙ known_put ks (codes "end") (as_text (end_bytes e)) ms key h

known_part : (ks : Keys) (p : PutPart) (ms : Members) → has_key ks (codes "flood") ≡ true → has_key ks (codes "end") ≡ true → has_key ks (codes "begin") ≡ true → has_key ks (codes "texts") ≡ true → has_key ks (codes "zones") ≡ true
    → all_known ks (set_target p.target ms) ≡ true → all_known ks (set_put p ms) ≡ true
unfolding set_put
known_part ks p ms flood end begin texts zones h =
    let m0 = set_target p.target ms in
    let m1 = set_zones_texts p.zones p.texts m0 in
    let m2 = write_begin p.begin m1 in
    let k1 : all_known ks m1 ≡ true = known_put ks (codes "texts") (texts_data p.texts) (put (codes "zones") (array (zone_items p.zones)) m0) texts (known_put ks (codes "zones") (array (zone_items p.zones)) m0 zones h) in
    known_flood ks p.flood (write_end p.end m2) flood (known_end ks p.end m2 end (known_begin ks p.begin m1 begin k1))

known_target : (t : Target) (ms : Members) → all_known keys.Put ms ≡ true → all_known keys.Put (set_target t ms) ≡ true
unfolding has_key
known_target (target.Fresh h) ms known = known_put keys.Put (codes "hazard") (as_text (hazard_code h)) ms refl known
known_target (target.Join e) ms known = known_put keys.Put (codes "event") (as_text (event_text e)) ms refl known

known_fresh : (t : Target) (ms : Members) → IsFresh t → all_known keys.Issue ms ≡ true → all_known keys.Issue (set_target t ms) ≡ true
unfolding has_key
known_fresh (target.Fresh h) ms fresh known = known_put keys.Issue (codes "hazard") (as_text (hazard_code h)) ms refl known
known_fresh (target.Join e) ms fresh known = absurd fresh

-- ---- requests

abbrev verb_of : Request → Verb
verb_of (request.Begin c) = verb.Open
verb_of (request.Issue p) = verb.Issue
verb_of (request.Put n p) = verb.Put
verb_of (request.Finish n p) = verb.End
verb_of (request.Restate n p) = verb.Restate
verb_of (request.Routine n p) = verb.Routine
verb_of (request.Drop n place) = verb.Drop
verb_of (request.Take n) = verb.Take
verb_of (request.Discard n) = verb.Discard
verb_of (request.Send n) = verb.Send
verb_of (request.Correct n ts) = verb.Correct

word_read : (word : List ℕ) (v : Verb) (d : Data) → get (codes "do") d ≡ Some (as_text word) → are_ascii word ≡ true → verb_at word ≡ Some v → verb_field d ≡ Ok v
word_read word v d found ascii reads = given_back _ v (codes "do") (value_of (codes "do") word d verb_at v found (IsUtf8-are_ascii word ascii) reads)

verb_read : (r : Request) (d : Data) → HasMembers d (set_request r no_members) → verb_field d ≡ Ok (verb_of r)
unfolding set_request set_event_part set_routine
verb_read (request.Begin c) d has = word_read (codes "open") verb.Open d (has (codes "do") refl refl) refl refl
verb_read (request.Issue p) d has = word_read (codes "issue") verb.Issue d (has (codes "do") refl refl ∙ below_part (codes "do") p (put_do (codes "issue") no_members) refl refl refl refl refl ∙ beside_target (codes "do") p.target (put_do (codes "issue") no_members) refl refl) refl refl
verb_read (request.Put n p) d has = word_read (codes "put") verb.Put d (has (codes "do") refl refl ∙ below_part (codes "do") p (put_do (codes "put") (put_draft n no_members)) refl refl refl refl refl ∙ beside_target (codes "do") p.target (put_do (codes "put") (put_draft n no_members)) refl refl) refl refl
verb_read (request.Finish n p) d has = word_read (codes "end") verb.End d (has (codes "do") refl refl) refl refl
verb_read (request.Restate n p) d has = word_read (codes "restate") verb.Restate d (has (codes "do") refl refl) refl refl
verb_read (request.Routine n p) d has = word_read (codes "routine") verb.Routine d (has (codes "do") refl refl) refl refl
verb_read (request.Drop n place) d has = word_read (codes "drop") verb.Drop d (has (codes "do") refl refl) refl refl
verb_read (request.Take n) d has = word_read (codes "take") verb.Take d (has (codes "do") refl refl) refl refl
verb_read (request.Discard n) d has = word_read (codes "discard") verb.Discard d (has (codes "do") refl refl) refl refl
verb_read (request.Send n) d has = word_read (codes "send") verb.Send d (has (codes "do") refl refl) refl refl
verb_read (request.Correct n ts) d has = word_read (codes "correct") verb.Correct d (has (codes "do") refl refl) refl refl

category_read : (c : Category) (d : Data) → get (codes "category") d ≡ Some (as_text (category_code c)) → category_field d ≡ Ok c
category_read c d found = given_back _ c (codes "category") (value_of (codes "category") (category_code c) d (value_for_code category_rows) c found (category_utf8 c) (category_back c))

list_read : (ts : List EventTexts) (d : Data) → All AreEventTexts ts → get (codes "texts") d ≡ Some (array (event_texts_items ts)) → event_texts_field d ≡ Ok ts
list_read ts d is found = given_back _ ts (codes "texts") (ap event_texts_or_none found ∙ list_back ts is)

request_read : (r : Request) (d : Data) → HasRequestForm r → HasMembers d (set_request r no_members) → request_in (verb_of r) d ≡ Ok r
unfolding set_request set_event_part set_routine request_in draft_request draft_in
request_read (request.Begin c) d is has = rw (category_read c d (has (codes "category") refl refl)) refl
request_read (request.Issue p) d is has = rw (issue_read p (put_do (codes "issue") no_members) d is.0 is.1 has refl) refl
request_read (request.Put n p) d is has =
    let ms = put_do (codes "put") (put_draft n no_members) in
    let draft : get (codes "draft") d ≡ Some (number (unsigned n)) = has (codes "draft") refl refl ∙ below_part (codes "draft") p ms refl refl refl refl refl ∙ beside_target (codes "draft") p.target ms refl refl in
    rw (number_read (codes "draft") n d is.0 draft, part_read p ms d is.1 has refl refl refl) refl
request_read (request.Finish n p) d is has = rw (number_read (codes "draft") n d is.0 (has (codes "draft") refl refl), event_part_read p d is.1 (has (codes "event") refl refl) (has (codes "zones") refl refl) (has (codes "texts") refl refl)) refl
request_read (request.Restate n p) d is has = rw (number_read (codes "draft") n d is.0 (has (codes "draft") refl refl), event_part_read p d is.1 (has (codes "event") refl refl) (has (codes "zones") refl refl) (has (codes "texts") refl refl)) refl
request_read (request.Routine n p) d is has = rw (number_read (codes "draft") n d is.0 (has (codes "draft") refl refl), routine_read p d is.1 (has (codes "hazard") refl refl) (has (codes "zones") refl refl) (has (codes "texts") refl refl)) refl
request_read (request.Drop n place) d is has = rw (number_read (codes "draft") n d is.0 (has (codes "draft") refl refl), number_read (codes "place") place d is.1 (has (codes "place") refl refl)) refl
request_read (request.Take n) d is has = rw (number_read (codes "draft") n d is (has (codes "draft") refl refl)) refl
request_read (request.Discard n) d is has = rw (number_read (codes "draft") n d is (has (codes "draft") refl refl)) refl
request_read (request.Send n) d is has = rw (number_read (codes "draft") n d is (has (codes "draft") refl refl)) refl
request_read (request.Correct n ts) d is has = rw (number_read (codes "product") n d is.0 (has (codes "product") refl refl), list_read ts d is.1 (has (codes "texts") refl refl)) refl

request_known : (r : Request) → HasRequestForm r → all_known (keys_of (verb_of r)) (set_request r no_members) ≡ true
unfolding set_request set_event_part set_routine has_key
request_known (request.Begin c) is = refl
request_known (request.Issue p) is = known_part keys.Issue p (put_do (codes "issue") no_members) refl refl refl refl refl (known_fresh p.target (put_do (codes "issue") no_members) is.1 refl)
request_known (request.Put n p) is = known_part keys.Put p (put_do (codes "put") (put_draft n no_members)) refl refl refl refl refl (known_target p.target (put_do (codes "put") (put_draft n no_members)) refl)
request_known (request.Finish n p) is = refl
request_known (request.Restate n p) is = refl
request_known (request.Routine n p) is = refl
request_known (request.Drop n place) is = refl
request_known (request.Take n) is = refl
request_known (request.Discard n) is = refl
request_known (request.Send n) is = refl
request_known (request.Correct n ts) is = refl

common_known : (v : Verb) → (has_key (keys_of v) (codes "seq") ≡ true) × (has_key (keys_of v) (codes "desk") ≡ true)
unfolding has_key
common_known verb.Open = (refl, refl)
common_known verb.Issue = (refl, refl)
common_known verb.Put = (refl, refl)
common_known verb.End = (refl, refl)
common_known verb.Restate = (refl, refl)
common_known verb.Routine = (refl, refl)
common_known verb.Drop = (refl, refl)
common_known verb.Take = (refl, refl)
common_known verb.Discard = (refl, refl)
common_known verb.Send = (refl, refl)
common_known verb.Correct = (refl, refl)

-- ---- a request whole

asked_has : (a : Asked) → HasMembers (object (asked_members a)) (set_request a.request no_members)
unfolding asked_members
asked_has a k seq desk = beside k (codes "seq") (number (unsigned a.seq)) (set_text (codes "desk") a.desk (set_request a.request no_members)) seq ∙ beside k (codes "desk") (as_text a.desk) (set_request a.request no_members) desk

asked_known : (a : Asked) → HasRequestForm a.request → all_known (keys_of (verb_of a.request)) (asked_members a) ≡ true
unfolding asked_members
asked_known a is =
    let ks = keys_of (verb_of a.request) in
    let common = common_known (verb_of a.request) in
    known_put ks (codes "seq") (number (unsigned a.seq)) (set_text (codes "desk") a.desk (set_request a.request no_members)) common.0 (known_put ks (codes "desk") (as_text a.desk) (set_request a.request no_members) common.1 (request_known a.request is))

desk_read : (a : Asked) → HasForm a → desk_field (object (asked_members a)) ≡ Ok a.desk
unfolding asked_members
desk_read a is =
    let ms = set_request a.request no_members in
    let found : get (codes "desk") (object (asked_members a)) ≡ Some (as_text a.desk) = beside (codes "desk") (codes "seq") (number (unsigned a.seq)) (set_text (codes "desk") a.desk ms) refl ∙ here (codes "desk") (as_text a.desk) ms in
    given_back _ a.desk (codes "desk") (value_of (codes "desk") a.desk (object (asked_members a)) desk_named a.desk found (desk_utf8 a.desk is.desk) (desk_back a.desk is.desk))

seq_read : (a : Asked) → HasForm a → seq_field (object (asked_members a)) ≡ Ok a.seq
unfolding asked_members
seq_read a is =
    let found : get (codes "seq") (object (asked_members a)) ≡ Some (number (unsigned a.seq)) = here (codes "seq") (number (unsigned a.seq)) (set_text (codes "desk") a.desk (set_request a.request no_members)) in
    given_back _ a.seq (codes "seq") (ap (option_and_then if_counted) (number_back (codes "seq") a.seq (object (asked_members a)) found is.seq) ∙ counted_back a.seq is.counted)

asked_by : (ms : Members) (a : Asked) (v : Verb) → desk_field (object ms) ≡ Ok a.desk → seq_field (object ms) ≡ Ok a.seq → verb_field (object ms) ≡ Ok v → request_in v (object ms) ≡ Ok a.request → all_known (keys_of v) ms ≡ true → asked_in (object ms) ≡ Ok a
unfolding asked_in
asked_by ms a v desk seq does asks known = rw (desk, seq, does, asks, known) refl

asked_back : (a : Asked) → HasForm a → asked_in (object (asked_members a)) ≡ Ok a
asked_back a is =
    let has = asked_has a in
    asked_by (asked_members a) a (verb_of a.request) (desk_read a is) (seq_read a is) (verb_read a.request (object (asked_members a)) has) (request_read a.request (object (asked_members a)) is.request has) (asked_known a is.request)

asked_from : (bytes : List ℕ) (d : Data) → IsUtf8 bytes → read bytes ≡ Some d → asked_of bytes ≡ told (asked_in d)
unfolding asked_of
asked_from bytes d utf8 reads = rw (is_utf8-from_IsUtf8 bytes utf8, reads) refl

pub text_reads_back : (a : Asked) → HasForm a → asked_of (asked_text a) ≡ Ok a
unfolding asked_text
text_reads_back a is =
    let d = object (asked_members a) in
    let plain = asked_plain a 0 is in
    asked_from (compact_text d) d (utf8_text d 4 plain) (reads_back d 4 plain (omega arith)) ∙ ap (λ (r : Result Asked (List ℕ)). told r) (asked_back a is)
