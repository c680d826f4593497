-- The canonical text of a request that has the form is one of plain data.
use Rattle.std.proofs.Common.{◌≡◌, ℕ, suc, true, List, [], ◌∷◌, map, Option, Some, None, IfSome, IsUtf8, refl, sym, subst, codes, arith}
use Rattle.std.specs.List.{All, AllByRecursion}
use Rattle.std.proofs.lemmas.List.Elements.{recursion_from_All}
use Rattle.std.proofs.lemmas.Str.{utf8_lossy-IsUtf8}
use Rattle.json.proofs.Printed.Utf8.{are_ascii, IsUtf8-are_ascii}
use Rattle.serde_json.specs.Data.{Data, array, object, Members, no_members, put}
use Rattle.serde_json.specs.View.{items_of}
use Rattle.hazard_types.specs.Calendar.{stamp_of}
use Rattle.hazard_types.specs.Hazards.{hazard_code}
use Rattle.hazard_types.specs.Names.{category_code, zone_text, event_text}
use Rattle.hazard_types.specs.Places.{Place, IsPlace}
use Rattle.hazard_types.specs.Times.{time_text}
use Rattle.hazard_types.specs.declared.line.Flood.{Flood}
use Rattle.hazard_types.specs.declared.period.Begin.{Begin}
use Rattle.hazard_types.specs.declared.period.Begin.TheVariants as begin
use Rattle.hazard_types.specs.declared.period.End.{End}
use Rattle.hazard_types.specs.declared.period.End.TheVariants as end
use Rattle.office_types.specs.declared.request.EventPart.{EventPart}
use Rattle.office_types.specs.declared.request.EventTexts.{EventTexts}
use Rattle.office_types.specs.declared.request.PutPart.{PutPart}
use Rattle.office_types.specs.declared.request.Request.{Request}
use Rattle.office_types.specs.declared.request.Request.TheVariants as request
use Rattle.office_types.specs.declared.request.RoutinePart.{RoutinePart}
use Rattle.office_types.specs.declared.request.Target.{Target}
use Rattle.office_types.specs.declared.request.Target.TheVariants as target
use Rattle.office_types.specs.declared.request.Texts.{Texts}
use Rattle.hazard_types.specs.Letters.{severity_code, status_code}
use Rattle.json_parts.specs.Written.{as_text, set_text, set_number}
use Rattle.request_json.specs.Canonical.{set_source, set_times, write_begin, write_end, zone_data, zone_items, texts_data, flood_data, event_texts_data, event_texts_items, set_flood, set_target, set_zones_texts, set_put, set_event_part, set_routine, put_do, put_draft, set_request, asked_members}
use Rattle.request_json.specs.Formed.{IsNumber, AreTexts, AreEventTexts, AreFloodValues, IsBegin, IsEnd, IsTarget, IsPutPart, IsEventPart, IsRoutinePart, HasRequestForm, HasForm}
use Rattle.request_json.specs.declared.asked.Asked.{Asked}
use Rattle.request_json.proofs.CanonicalUtf8.{stamp_utf8, time_utf8, desk_utf8, location_utf8, hazard_utf8, event_utf8, zone_utf8, category_utf8, severity_utf8, status_utf8, cause_utf8}
use Rattle.request_json.proofs.CompactReading.{IsPlain, ArePlain, ArePlainMembers, plain_put}

text_plain : (bytes : List ℕ) (n : ℕ) → IsUtf8 bytes → IsPlain (as_text bytes) n
unfolding as_text
text_plain bytes n h = subst IsUtf8 (sym (utf8_lossy-IsUtf8 bytes h)) h

write_plain : (k : List ℕ) (d : Data) (ms : Members) (n : ℕ) → are_ascii k ≡ true → IsPlain d n → ArePlainMembers ms n → ArePlainMembers (put k d ms) n
write_plain k d ms n key plain all = plain_put k d ms n (IsUtf8-are_ascii k key) plain all

put_text_plain : (k bytes : List ℕ) (ms : Members) (n : ℕ) → are_ascii k ≡ true → IsUtf8 bytes → ArePlainMembers ms n → ArePlainMembers (set_text k bytes ms) n
put_text_plain k bytes ms n key utf8 all = write_plain k (as_text bytes) ms n key (text_plain bytes n utf8) all

put_number_plain : (k : List ℕ) (x : ℕ) (ms : Members) (n : ℕ) → are_ascii k ≡ true → IsNumber x → ArePlainMembers ms n → ArePlainMembers (set_number k x ms) n
put_number_plain k x ms n key small all = plain_put k _ ms n (IsUtf8-are_ascii k key) (omega (arith, small)) all

mapped_plain : {X : Type 0} (f : X → Data) (P : X → Type 0) (n : ℕ) → ((x : X) → P x → IsPlain (f x) n) → (xs : List X) → AllByRecursion P xs → ArePlain (items_of (map f xs)) n
mapped_plain f P n each [] h = tt
mapped_plain f P n each (x ∷ xs) h = (each x h.0, mapped_plain f P n each xs h.1)

zones_plain : (zs : List Place) (n : ℕ) → All IsPlace zs → ArePlain (zone_items zs) n
zones_plain zs n h = mapped_plain zone_data IsPlace n (λ (z : Place) (is : IsPlace z). text_plain (zone_text z) n (zone_utf8 z is)) zs (recursion_from_All IsPlace zs h)

texts_plain : (t : Texts) (n : ℕ) → AreTexts t → IsPlain (texts_data t) (suc n)
unfolding texts_data
texts_plain t n h =
    let m0 = set_text (codes "what") t.what no_members in
    let h0 : ArePlainMembers m0 n = put_text_plain (codes "what") t.what no_members n refl h.what tt in
    let m1 = set_text (codes "area") t.area m0 in
    let h1 : ArePlainMembers m1 n = put_text_plain (codes "area") t.area m0 n refl h.area h0 in
    let m2 = set_text (codes "impacts") t.impacts m1 in
    let h2 : ArePlainMembers m2 n = put_text_plain (codes "impacts") t.impacts m1 n refl h.impacts h1 in
    put_text_plain (codes "details") t.details m2 n refl h.details h2

source_plain : (f : Flood) (ms : Members) (n : ℕ) → AreFloodValues f → ArePlainMembers ms n → ArePlainMembers (set_source f ms) n
source_plain f ms n is h =
    let m0 = set_text (codes "site") f.site ms in
    let h0 : ArePlainMembers m0 n = put_text_plain (codes "site") f.site ms n refl (location_utf8 f.site is.site) h in
    let m1 = set_text (codes "severity") (severity_code f.severity) m0 in
    let h1 : ArePlainMembers m1 n = put_text_plain (codes "severity") (severity_code f.severity) m0 n refl (severity_utf8 f.severity) h0 in
    put_text_plain (codes "cause") f.cause m1 n refl (cause_utf8 f.cause is.cause) h1

times_plain : (f : Flood) (ms : Members) (n : ℕ) → AreFloodValues f → ArePlainMembers ms n → ArePlainMembers (set_times f ms) n
times_plain f ms n is h =
    let m0 = set_text (codes "begin") (time_text f.begin) ms in
    let h0 : ArePlainMembers m0 n = put_text_plain (codes "begin") (time_text f.begin) ms n refl (time_utf8 f.begin is.begin) h in
    let m1 = set_text (codes "crest") (time_text f.crest) m0 in
    let h1 : ArePlainMembers m1 n = put_text_plain (codes "crest") (time_text f.crest) m0 n refl (time_utf8 f.crest is.crest) h0 in
    put_text_plain (codes "end") (time_text f.end) m1 n refl (time_utf8 f.end is.end) h1

flood_plain : (f : Flood) (n : ℕ) → AreFloodValues f → IsPlain (flood_data f) (suc n)
unfolding flood_data
flood_plain f n is =
    let m0 = set_source f no_members in
    put_text_plain (codes "status") (status_code f.status) (set_times f m0) n refl (status_utf8 f.status) (times_plain f m0 n is (source_plain f no_members n is tt))

event_texts_plain : (t : EventTexts) (n : ℕ) → AreEventTexts t → IsPlain (event_texts_data t) (suc (suc n))
unfolding event_texts_data
event_texts_plain t n is =
    let m0 = set_text (codes "event") (event_text t.event) no_members in
    write_plain (codes "texts") (texts_data t.texts) m0 (suc n) refl (texts_plain t.texts n is.texts) (put_text_plain (codes "event") (event_text t.event) no_members (suc n) refl (event_utf8 t.event is.event) tt)

flood_put : (o : Option Flood) (ms : Members) (n : ℕ) → IfSome o AreFloodValues → ArePlainMembers ms (suc n) → ArePlainMembers (set_flood o ms) (suc n)
flood_put None ms n is h = h
flood_put (Some f) ms n is h = write_plain (codes "flood") (flood_data f) ms (suc n) refl (flood_plain f n is) h

target_put : (t : Target) (ms : Members) (n : ℕ) → IsTarget t → ArePlainMembers ms n → ArePlainMembers (set_target t ms) n
target_put (target.Fresh x) ms n is h = put_text_plain (codes "hazard") (hazard_code x) ms n refl (hazard_utf8 x is) h
target_put (target.Join e) ms n is h = put_text_plain (codes "event") (event_text e) ms n refl (event_utf8 e is) h

begin_put : (b : Begin) (ms : Members) (n : ℕ) → IsBegin b → ArePlainMembers ms n → ArePlainMembers (write_begin b ms) n
begin_put begin.Now ms n is h = put_text_plain (codes "begin") (codes "now") ms n refl (IsUtf8-are_ascii _ refl) h
begin_put (begin.At m) ms n is h = put_text_plain (codes "begin") (stamp_of m) ms n refl (stamp_utf8 m is) h

end_put : (e : End) (ms : Members) (n : ℕ) → IsEnd e → ArePlainMembers ms n → ArePlainMembers (write_end e ms) n
end_put end.Ufn ms n is h = put_text_plain (codes "end") (codes "ufn") ms n refl (IsUtf8-are_ascii _ refl) h
end_put (end.At m) ms n is h = put_text_plain (codes "end") (stamp_of m) ms n refl (stamp_utf8 m is) h

zones_texts_put : (zs : List Place) (t : Texts) (ms : Members) (n : ℕ) → All IsPlace zs → AreTexts t → ArePlainMembers ms (suc n) → ArePlainMembers (set_zones_texts zs t ms) (suc n)
zones_texts_put zs t ms n zones texts h =
    write_plain (codes "texts") (texts_data t) (put (codes "zones") (array (zone_items zs)) ms) (suc n) refl (texts_plain t n texts)
    (write_plain (codes "zones") (array (zone_items zs)) ms (suc n) refl (zones_plain zs n zones) h)

put_put_plain : (p : PutPart) (ms : Members) (n : ℕ) → IsPutPart p → ArePlainMembers ms (suc n) → ArePlainMembers (set_put p ms) (suc n)
unfolding set_put
put_put_plain p ms n is h =
    let m0 = set_target p.target ms in
    let h0 : ArePlainMembers m0 (suc n) = target_put p.target ms (suc n) is.target h in
    let m1 = set_zones_texts p.zones p.texts m0 in
    let h1 : ArePlainMembers m1 (suc n) = zones_texts_put p.zones p.texts m0 n is.zones is.texts h0 in
    let m2 = write_begin p.begin m1 in
    let h2 : ArePlainMembers m2 (suc n) = begin_put p.begin m1 (suc n) is.begin h1 in
    flood_put p.flood (write_end p.end m2) n is.flood (end_put p.end m2 (suc n) is.end h2)

event_part_plain : (p : EventPart) (ms : Members) (n : ℕ) → IsEventPart p → ArePlainMembers ms (suc n) → ArePlainMembers (set_event_part p ms) (suc n)
unfolding set_event_part
event_part_plain p ms n is h = zones_texts_put p.zones p.texts (set_text (codes "event") (event_text p.event) ms) n is.zones is.texts (put_text_plain (codes "event") (event_text p.event) ms (suc n) refl (event_utf8 p.event is.event) h)

routine_plain : (p : RoutinePart) (ms : Members) (n : ℕ) → IsRoutinePart p → ArePlainMembers ms (suc n) → ArePlainMembers (set_routine p ms) (suc n)
unfolding set_routine
routine_plain p ms n is h = zones_texts_put p.zones p.texts (set_text (codes "hazard") (hazard_code p.hazard) ms) n is.zones is.texts (put_text_plain (codes "hazard") (hazard_code p.hazard) ms (suc n) refl (hazard_utf8 p.hazard is.hazard) h)

do_plain : (word : List ℕ) (ms : Members) (n : ℕ) → are_ascii word ≡ true → ArePlainMembers ms n → ArePlainMembers (put_do word ms) n
do_plain word ms n ascii h = put_text_plain (codes "do") word ms n refl (IsUtf8-are_ascii word ascii) h

draft_plain : (x : ℕ) (ms : Members) (n : ℕ) → IsNumber x → ArePlainMembers ms n → ArePlainMembers (put_draft x ms) n
draft_plain x ms n small h = put_number_plain (codes "draft") x ms n refl small h

-- what a request does, alone, and to a draft
alone : (word : List ℕ) (n : ℕ) → are_ascii word ≡ true → ArePlainMembers (put_do word no_members) n
alone word n ascii = do_plain word no_members n ascii tt

in_draft : (word : List ℕ) (x n : ℕ) → are_ascii word ≡ true → IsNumber x → ArePlainMembers (put_do word (put_draft x no_members)) n
in_draft word x n ascii small = do_plain word (put_draft x no_members) n ascii (draft_plain x no_members n small tt)

on_draft : (word : List ℕ) (x n : ℕ) → are_ascii word ≡ true → IsNumber x → ArePlainMembers (put_draft x (put_do word no_members)) n
on_draft word x n ascii small = draft_plain x (put_do word no_members) n small (alone word n ascii)

-- the deepest is a correction's: its texts are an array of objects of objects
request_plain : (r : Request) (n : ℕ) → HasRequestForm r → ArePlainMembers (set_request r no_members) (suc (suc (suc n)))
unfolding set_request
request_plain (request.Begin c) n is = put_text_plain (codes "category") (category_code c) (put_do (codes "open") no_members) (suc (suc (suc n))) refl (category_utf8 c) (alone (codes "open") (suc (suc (suc n))) refl)
request_plain (request.Issue p) n is = put_put_plain p (put_do (codes "issue") no_members) (suc (suc n)) is.0 (alone (codes "issue") (suc (suc (suc n))) refl)
request_plain (request.Put x p) n is = put_put_plain p (put_do (codes "put") (put_draft x no_members)) (suc (suc n)) is.1 (in_draft (codes "put") x (suc (suc (suc n))) refl is.0)
request_plain (request.Finish x p) n is = event_part_plain p (put_do (codes "end") (put_draft x no_members)) (suc (suc n)) is.1 (in_draft (codes "end") x (suc (suc (suc n))) refl is.0)
request_plain (request.Restate x p) n is = event_part_plain p (put_do (codes "restate") (put_draft x no_members)) (suc (suc n)) is.1 (in_draft (codes "restate") x (suc (suc (suc n))) refl is.0)
request_plain (request.Routine x p) n is = routine_plain p (put_do (codes "routine") (put_draft x no_members)) (suc (suc n)) is.1 (in_draft (codes "routine") x (suc (suc (suc n))) refl is.0)
request_plain (request.Drop x place) n is = put_number_plain (codes "place") place (put_draft x (put_do (codes "drop") no_members)) (suc (suc (suc n))) refl is.1 (on_draft (codes "drop") x (suc (suc (suc n))) refl is.0)
request_plain (request.Take x) n is = on_draft (codes "take") x (suc (suc (suc n))) refl is
request_plain (request.Discard x) n is = on_draft (codes "discard") x (suc (suc (suc n))) refl is
request_plain (request.Send x) n is = on_draft (codes "send") x (suc (suc (suc n))) refl is
request_plain (request.Correct x ts) n is =
    let listed : ArePlain (event_texts_items ts) (suc (suc n)) = mapped_plain event_texts_data AreEventTexts (suc (suc n)) (λ (t : EventTexts) (h : AreEventTexts t). event_texts_plain t n h) ts (recursion_from_All AreEventTexts ts is.1) in
    write_plain (codes "texts") (array (event_texts_items ts)) (set_number (codes "product") x (put_do (codes "correct") no_members)) (suc (suc (suc n))) refl listed
    (put_number_plain (codes "product") x (put_do (codes "correct") no_members) (suc (suc (suc n))) refl is.0 (alone (codes "correct") (suc (suc (suc n))) refl))

pub asked_plain : (a : Asked) (n : ℕ) → HasForm a → IsPlain (object (asked_members a)) (suc (suc (suc (suc n))))
unfolding asked_members
asked_plain a n is =
    let m0 = set_request a.request no_members in
    let h0 : ArePlainMembers m0 (suc (suc (suc n))) = request_plain a.request n is.request in
    put_number_plain (codes "seq") a.seq (set_text (codes "desk") a.desk m0) (suc (suc (suc n))) refl is.seq (put_text_plain (codes "desk") a.desk m0 (suc (suc (suc n))) refl (desk_utf8 a.desk is.desk) h0)
