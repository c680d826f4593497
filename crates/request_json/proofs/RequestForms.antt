-- What is read has its form.
use Rattle.std.proofs.Common.{not, ◌≡◌, ℕ, Bool, true, false, cond, List, [], Option, Some, None, option_and_then, IfSome, IfOk, Result, Ok, Err, refl, ap, subst, ◌∙◌, codes}
use Rattle.std.specs.List.{All}
use Rattle.std.proofs.lemmas.List.Elements.{All-from_recursion}
use Rattle.std.proofs.lemmas.Option.{same_Some}
use Rattle.std.proofs.lemmas.Str.{IsUtf8-nil}
use Rattle.serde_json.specs.Data.{Data, null, boolean, number, string, array, object, Items, Members}
use Rattle.serde_json.specs.Find.{get, as_array, as_object}
use Rattle.serde_json.specs.View.{view}
use Rattle.serde_json.specs.declared.value.Value.{Value}
use Rattle.hazard_types.specs.Given.{◌>>=◌, Gives}
use Rattle.hazard_types.specs.Names.{hazard_at, event_at}
use Rattle.hazard_types.specs.Places.{Place}
use Rattle.hazard_types.specs.declared.hazard.Event.{Event}
use Rattle.hazard_types.specs.declared.hazard.Hazard.{Hazard}
use Rattle.hazard_types.specs.declared.line.Flood.{Flood}
use Rattle.hazard_types.specs.declared.or.Or.{Or}
use Rattle.hazard_types.specs.declared.period.Begin.{Begin}
use Rattle.hazard_types.specs.declared.period.End.{End}
use Rattle.office_types.specs.declared.refusal.Refusal.{Refusal}
use Rattle.office_types.specs.declared.request.EventPart.{EventPart}
use Rattle.office_types.specs.declared.request.EventTexts.{EventTexts}
use Rattle.office_types.specs.declared.request.PutPart.{PutPart}
use Rattle.office_types.specs.declared.request.Request.{Request}
use Rattle.office_types.specs.declared.request.Request.TheVariants as request
use Rattle.office_types.specs.declared.request.RoutinePart.{RoutinePart}
use Rattle.office_types.specs.declared.request.Target.{Target}
use Rattle.office_types.specs.declared.request.Target.TheVariants as target
use Rattle.office_types.specs.declared.request.Texts.{Texts}
use Rattle.json_parts.specs.Json.{given, text_at, zones_field}
use Rattle.json_parts.proofs.Zones.{zones_form}
use Rattle.request_json.specs.Fields.{begin_at, end_at, desk_named, if_counted, number_at, flood_of, each_event_texts}
use Rattle.request_json.specs.Form.{desk_field, seq_field, verb_field, category_field, number_field, hazard_field, event_field, begin_field, end_field, flood_or_none, flood_field, no_texts, texts_or_empty, texts_field, event_texts_or_none, event_texts_field, target_given, target_field, put_on, issue_part, put_part, on_event, of_hazard, event_part, routine_part, draft_in, draft_request, request_in, asked_in, is_issue, training_issue_in}
use Rattle.request_json.specs.Formed.{IsNumber, IsHazard, IsEvent, AreTexts, AreEventTexts, AreFloodValues, IsBegin, IsEnd, IsTarget, IsFresh, IsPutPart, IsIssuePart, IsEventPart, IsRoutinePart, HasRequestForm, HasForm}
use Rattle.request_json.specs.Keys.{keys_of, all_known}
use Rattle.request_json.specs.declared.keys.Keys.TheVariants as keys
use Rattle.request_json.specs.declared.asked.Asked.{Asked}
use Rattle.request_json.specs.declared.keys.Verb.{Verb}
use Rattle.request_json.specs.declared.keys.Verb.TheVariants as verb
use Rattle.hazard_types.proofs.Inverting.{then_ok, unless_ok, ok_or_ok, and_then_some, map_some}
use Rattle.request_json.proofs.FieldForms.{number_form, counted_form, desk_form, hazard_form, event_form, begin_form, end_form, flood_form, found_texts, texts_form, list_form}
use Rattle.request_json.proofs.ValueTexts.{HasTexts, ItemsHaveTexts, view_texts}

same_Ok : {X E : Type 0} (x y : X) → ◌≡◌ {A = Result X E} (Ok x) (Ok y) → x ≡ y
same_Ok x y h = cc

-- what a field that is there says
given_ok : {X : Type 0} (o : Option X) (name : List ℕ) (x : X) → given o name ≡ Ok x → o ≡ Some x
given_ok o name x h = ok_or_ok o name x h

-- and what it was read from
read_from : {X : Type 0} (o : Option (List ℕ)) (f : List ℕ → Option X) (name : List ℕ) (x : X) → given (option_and_then f o) name ≡ Ok x → (text : List ℕ) × (f text ≡ Some x)
read_from o f name x h = let a = and_then_some o f x (given_ok (option_and_then f o) name x h) in (a.0, a.2)

number_ok : (key : List ℕ) (d : Data) (n : ℕ) → number_field key d ≡ Ok n → IsNumber n
number_ok key d n h = number_form key d n (given_ok (number_at key d) key n h)

hazard_ok : (d : Data) (x : Hazard) → hazard_field d ≡ Ok x → IsHazard x
hazard_ok d x h = let a = read_from (text_at (codes "hazard") d) hazard_at (codes "hazard") x h in hazard_form a.0 x a.1

event_ok : (d : Data) (x : Event) → event_field d ≡ Ok x → IsEvent x
event_ok d x h = let a = read_from (text_at (codes "event") d) event_at (codes "event") x h in event_form a.0 x a.1

begin_ok : (d : Data) (x : Begin) → begin_field d ≡ Ok x → IsBegin x
begin_ok d x h = let a = read_from (text_at (codes "begin") d) begin_at (codes "begin") x h in begin_form a.0 x a.1

end_ok : (d : Data) (x : End) → end_field d ≡ Ok x → IsEnd x
end_ok d x h = let a = read_from (text_at (codes "end") d) end_at (codes "end") x h in end_form a.0 x a.1

flood_by : (o : Option Data) (x : Option Flood) → flood_or_none o ≡ Some x → IfSome x AreFloodValues
flood_by None x h = subst (λ (y : Option Flood). IfSome y AreFloodValues) (same_Some None x h) tt
flood_by (Some d) x h = let m = map_some (flood_of d) (λ (f : Flood). Some f) x h in subst (λ (y : Option Flood). IfSome y AreFloodValues) m.2 (flood_form d m.0 m.1)

flood_ok : (d : Data) (x : Option Flood) → flood_field d ≡ Ok x → IfSome x AreFloodValues
flood_ok d x h = flood_by (get (codes "flood") d) x (given_ok (flood_or_none (get (codes "flood") d)) (codes "flood") x h)

none_told : AreTexts no_texts
none_told = record { what = IsUtf8-nil; area = IsUtf8-nil; impacts = IsUtf8-nil; details = IsUtf8-nil }

texts_by : (o : Option Data) (t : Texts) → ((d : Data) → o ≡ Some d → HasTexts d) → texts_or_empty o ≡ Some t → AreTexts t
texts_by None t has h = subst AreTexts (same_Some no_texts t h) none_told
texts_by (Some d) t has h = texts_form d t (has d refl) h

texts_ok : (d : Data) (t : Texts) → HasTexts d → texts_field d ≡ Ok t → AreTexts t
texts_ok d t has h = texts_by (get (codes "texts") d) t (λ e found. found_texts (codes "texts") d e has found) (given_ok (texts_or_empty (get (codes "texts") d)) (codes "texts") t h)

items_texts : (d : Data) (items : Items) → HasTexts d → as_array d ≡ Some items → ItemsHaveTexts items
items_texts null items has h = absurd (cc)
items_texts (boolean b) items has h = absurd (cc)
items_texts (number n) items has h = absurd (cc)
items_texts (string s) items has h = absurd (cc)
items_texts (array ds) items has h = subst ItemsHaveTexts (same_Some ds items h) has
items_texts (object ms) items has h = absurd (cc)

list_by : (o : Option Data) (ts : List EventTexts) → ((d : Data) → o ≡ Some d → HasTexts d) → event_texts_or_none o ≡ Some ts → All AreEventTexts ts
list_by None ts has h = subst (λ (l : List EventTexts). All AreEventTexts l) (same_Some [] ts h) (All-from_recursion AreEventTexts [] tt)
list_by (Some d) ts has h = let a = and_then_some (as_array d) each_event_texts ts h in list_form a.0 ts (items_texts d a.0 (has d refl) a.1) a.2

list_ok : (d : Data) (ts : List EventTexts) → HasTexts d → event_texts_field d ≡ Ok ts → All AreEventTexts ts
list_ok d ts has h = list_by (get (codes "texts") d) ts (λ e found. found_texts (codes "texts") d e has found) (given_ok (event_texts_or_none (get (codes "texts") d)) (codes "texts") ts h)

target_by : (a b : Option Data) (d : Data) (t : Target) → target_given a b d ≡ Ok t → IsTarget t
target_by None None d t h = absurd (cc)
target_by (Some x) (Some y) d t h = absurd (cc)
target_by (Some x) None d t h =
    let a = then_ok (hazard_field d) (λ hazard. Ok (target.Fresh hazard)) t h in
    subst IsTarget (same_Ok (target.Fresh a.0) t a.2) (hazard_ok d a.0 a.1)
target_by None (Some y) d t h =
    let a = then_ok (event_field d) (λ event. Ok (target.Join event)) t h in
    subst IsTarget (same_Ok (target.Join a.0) t a.2) (event_ok d a.0 a.1)

-- ---- parts

put_chain : (t : Target) (zones : Result (List Place) (List ℕ)) (begin : Result Begin (List ℕ)) (end : Result End (List ℕ)) (flood : Result (Option Flood) (List ℕ)) (texts : Result Texts (List ℕ)) (p : PutPart)
    → (zones >>= λ zones. begin >>= λ begin. end >>= λ end. flood >>= λ flood. texts >>= λ texts. Ok (record { target = t; zones = zones; begin = begin; end = end; flood = flood; texts = texts })) ≡ Ok p
    → (zones ≡ Ok p.zones) × (begin ≡ Ok p.begin) × (end ≡ Ok p.end) × (flood ≡ Ok p.flood) × (texts ≡ Ok p.texts) × (t ≡ p.target)
put_chain t (Err e) begin end flood texts p h = absurd (cc)
put_chain t (Ok z) (Err e) end flood texts p h = absurd (cc)
put_chain t (Ok z) (Ok b) (Err e) flood texts p h = absurd (cc)
put_chain t (Ok z) (Ok b) (Ok n) (Err e) texts p h = absurd (cc)
put_chain t (Ok z) (Ok b) (Ok n) (Ok f) (Err e) p h = absurd (cc)
put_chain t (Ok z) (Ok b) (Ok n) (Ok f) (Ok x) p h =
    let made : PutPart = record { target = t; zones = z; begin = b; end = n; flood = f; texts = x } in
    let same : made ≡ p = same_Ok made p h in
    (ap (λ (y : PutPart). Ok y.zones) same, ap (λ (y : PutPart). Ok y.begin) same, ap (λ (y : PutPart). Ok y.end) same, ap (λ (y : PutPart). Ok y.flood) same, ap (λ (y : PutPart). Ok y.texts) same, ap (λ (y : PutPart). y.target) same)

put_ok : (t : Target) (d : Data) (p : PutPart) → HasTexts d → IsTarget t → put_on t d ≡ Ok p → IsPutPart p × (t ≡ p.target)
unfolding put_on
put_ok t d p has is h =
    let c = put_chain t (zones_field d) (begin_field d) (end_field d) (flood_field d) (texts_field d) p h in
    (record { target = subst IsTarget c.5 is; zones = zones_form d p.zones c.0; begin = begin_ok d p.begin c.1; end = end_ok d p.end c.2; flood = flood_ok d p.flood c.3; texts = texts_ok d p.texts has c.4 }, c.5)

issue_ok : (d : Data) (p : PutPart) → HasTexts d → issue_part d ≡ Ok p → IsIssuePart p
unfolding issue_part
issue_ok d p has h =
    let a = then_ok (hazard_field d) (λ hazard. put_on (target.Fresh hazard) d) p h in
    let b = put_ok (target.Fresh a.0) d p has (hazard_ok d a.0 a.1) a.2 in
    (b.0, subst IsFresh b.1 tt)

part_ok : (d : Data) (p : PutPart) → HasTexts d → put_part d ≡ Ok p → IsPutPart p
unfolding put_part
part_ok d p has h =
    let a = then_ok (target_field d) (λ t. put_on t d) p h in
    (put_ok a.0 d p has (target_by (get (codes "hazard") d) (get (codes "event") d) d a.0 a.1) a.2).0

part_chain : {A P : Type 0} (make : A → List Place → Texts → P) (first : Result A (List ℕ)) (zones : Result (List Place) (List ℕ)) (texts : Result Texts (List ℕ)) (p : P)
    → (first >>= λ value. zones >>= λ zones. texts >>= λ texts. Ok (make value zones texts)) ≡ Ok p
    → (a : A) × (zs : List Place) × (ts : Texts) × (first ≡ Ok a) × (zones ≡ Ok zs) × (texts ≡ Ok ts) × (make a zs ts ≡ p)
part_chain make (Err e) zones texts p h = absurd (cc)
part_chain make (Ok a) (Err e) texts p h = absurd (cc)
part_chain make (Ok a) (Ok z) (Err e) p h = absurd (cc)
part_chain make (Ok a) (Ok z) (Ok t) p h = (a, z, t, refl, refl, refl, same_Ok (make a z t) p h)

event_part_ok : (d : Data) (p : EventPart) → HasTexts d → event_part d ≡ Ok p → IsEventPart p
unfolding event_part
event_part_ok d p has h =
    let c = part_chain on_event (event_field d) (zones_field d) (texts_field d) p h in
    subst IsEventPart c.6 (record { event = event_ok d c.0 c.3; zones = zones_form d c.1 c.4; texts = texts_ok d c.2 has c.5 })

routine_ok : (d : Data) (p : RoutinePart) → HasTexts d → routine_part d ≡ Ok p → IsRoutinePart p
unfolding routine_part
routine_ok d p has h =
    let c = part_chain of_hazard (hazard_field d) (zones_field d) (texts_field d) p h in
    subst IsRoutinePart c.6 (record { hazard = hazard_ok d c.0 c.3; zones = zones_form d c.1 c.4; texts = texts_ok d c.2 has c.5 })

-- ---- requests

send_ok : (n : ℕ) (r : Request) → IsNumber n → ◌≡◌ {A = Result Request (List ℕ)} (Ok (request.Send n)) (Ok r) → HasRequestForm r
send_ok n r small h = subst HasRequestForm (same_Ok (request.Send n) r h) small

in_draft : (v : Verb) (n : ℕ) (d : Data) (r : Request) → IsNumber n → HasTexts d → draft_in v n d ≡ Ok r → HasRequestForm r
unfolding draft_in
in_draft verb.Put n d r small has h = let a = then_ok (put_part d) (λ part. Ok (request.Put n part)) r h in subst HasRequestForm (same_Ok (request.Put n a.0) r a.2) (small, part_ok d a.0 has a.1)
in_draft verb.End n d r small has h = let a = then_ok (event_part d) (λ part. Ok (request.Finish n part)) r h in subst HasRequestForm (same_Ok (request.Finish n a.0) r a.2) (small, event_part_ok d a.0 has a.1)
in_draft verb.Restate n d r small has h = let a = then_ok (event_part d) (λ part. Ok (request.Restate n part)) r h in subst HasRequestForm (same_Ok (request.Restate n a.0) r a.2) (small, event_part_ok d a.0 has a.1)
in_draft verb.Routine n d r small has h = let a = then_ok (routine_part d) (λ part. Ok (request.Routine n part)) r h in subst HasRequestForm (same_Ok (request.Routine n a.0) r a.2) (small, routine_ok d a.0 has a.1)
in_draft verb.Drop n d r small has h = let a = then_ok (number_field (codes "place") d) (λ place. Ok (request.Drop n place)) r h in subst HasRequestForm (same_Ok (request.Drop n a.0) r a.2) (small, number_ok (codes "place") d a.0 a.1)
in_draft verb.Take n d r small has h = subst HasRequestForm (same_Ok (request.Take n) r h) small
in_draft verb.Discard n d r small has h = subst HasRequestForm (same_Ok (request.Discard n) r h) small
in_draft verb.Send n d r small has h = send_ok n r small h
in_draft verb.Open n d r small has h = send_ok n r small h
in_draft verb.Issue n d r small has h = send_ok n r small h
in_draft verb.Correct n d r small has h = send_ok n r small h

of_draft : (v : Verb) (d : Data) (r : Request) → HasTexts d → draft_request v d ≡ Ok r → HasRequestForm r
unfolding draft_request
of_draft v d r has h = let a = then_ok (number_field (codes "draft") d) (λ draft. draft_in v draft d) r h in in_draft v a.0 d r (number_ok (codes "draft") d a.0 a.1) has a.2

request_ok : (v : Verb) (d : Data) (r : Request) → HasTexts d → request_in v d ≡ Ok r → HasRequestForm r
unfolding request_in
request_ok verb.Open d r has h = let a = then_ok (category_field d) (λ category. Ok (request.Begin category)) r h in subst HasRequestForm (same_Ok (request.Begin a.0) r a.2) tt
request_ok verb.Issue d r has h = let a = then_ok (issue_part d) (λ part. Ok (request.Issue part)) r h in subst HasRequestForm (same_Ok (request.Issue a.0) r a.2) (issue_ok d a.0 has a.1)
request_ok verb.Correct d r has h =
    let a = then_ok (number_field (codes "product") d) (λ product. event_texts_field d >>= λ texts. Ok (request.Correct product texts)) r h in
    let b = then_ok (event_texts_field d) (λ texts. Ok (request.Correct a.0 texts)) r a.2 in
    subst HasRequestForm (same_Ok (request.Correct a.0 b.0) r b.2) (number_ok (codes "product") d a.0 a.1, list_ok d b.0 has b.1)
request_ok verb.Put d r has h = of_draft verb.Put d r has h
request_ok verb.End d r has h = of_draft verb.End d r has h
request_ok verb.Restate d r has h = of_draft verb.Restate d r has h
request_ok verb.Routine d r has h = of_draft verb.Routine d r has h
request_ok verb.Drop d r has h = of_draft verb.Drop d r has h
request_ok verb.Take d r has h = of_draft verb.Take d r has h
request_ok verb.Discard d r has h = of_draft verb.Discard d r has h
request_ok verb.Send d r has h = of_draft verb.Send d r has h

-- ---- a request whole

if_ok : {X E : Type 0} (t : Bool) (x : X) (e : E) (y : X) → ◌≡◌ {A = Result X E} (cond t (Ok x) (Err e)) (Ok y) → x ≡ y
if_ok true x e y h = same_Ok x y h
if_ok false x e y h = absurd (cc)

asked_chain : (whole : Result Members (List ℕ)) (desk : Result (List ℕ) (List ℕ)) (seq : Result ℕ (List ℕ)) (does : Result Verb (List ℕ)) (asks : Verb → Result Request (List ℕ)) (known : Verb → Members → Bool) (e : List ℕ) (a : Asked)
    → (whole >>= λ ms. desk >>= λ desk. seq >>= λ seq. does >>= λ v. asks v >>= λ r. cond (known v ms) (Ok (record { desk = desk; seq = seq; request = r })) (Err e)) ≡ Ok a
    → (desk ≡ Ok a.desk) × (seq ≡ Ok a.seq) × ((v : Verb) × (asks v ≡ Ok a.request))
asked_chain (Err o) desk seq does asks known e a h = absurd (cc)
asked_chain (Ok ms) (Err o) seq does asks known e a h = absurd (cc)
asked_chain (Ok ms) (Ok d) (Err o) does asks known e a h = absurd (cc)
asked_chain (Ok ms) (Ok d) (Ok s) (Err o) asks known e a h = absurd (cc)
asked_chain (Ok ms) (Ok d) (Ok s) (Ok v) asks known e a h =
    let r = then_ok (asks v) (λ r. cond (known v ms) (Ok (record { desk = d; seq = s; request = r })) (Err e)) a h in
    let made : Asked = record { desk = d; seq = s; request = r.0 } in
    let same : made ≡ a = if_ok (known v ms) made e a r.2 in
    (ap (λ (x : Asked). Ok x.desk) same, ap (λ (x : Asked). Ok x.seq) same, (v, r.1 ∙ ap (λ (x : Asked). Ok x.request) same))

asked_ok : (d : Data) (a : Asked) → HasTexts d → asked_in d ≡ Ok a → HasForm a
unfolding asked_in
asked_ok d a has h =
    let c = asked_chain (given (as_object d) (codes ".")) (desk_field d) (seq_field d) (verb_field d) (λ v. request_in v d) (λ v ms. all_known (keys_of v) ms) (codes "?") a h in
    let seq = counted_form (number_at (codes "seq") d) a.seq (given_ok (option_and_then if_counted (number_at (codes "seq") d)) (codes "seq") a.seq c.1) in
    record {
      desk = desk_form (text_at (codes "desk") d) a.desk (given_ok (option_and_then desk_named (text_at (codes "desk") d)) (codes "desk") a.desk c.0);
      counted = seq.1;
      seq = number_form (codes "seq") d a.seq seq.0;
      request = request_ok c.2.0 d a.request has c.2.1;
    }

answers_by : (r : Result Asked (Or (List ℕ))) (d : Data) → HasTexts d → Gives r (asked_in d) → IfOk r HasForm
answers_by (Ok a) d has h = asked_ok d a has h
answers_by (Err e) d has h = tt

-- what was read is told as it is
kept_form : {X : Type 0} (Good : X → Type 0) (read : Result X (Or (List ℕ))) (r : Result X (Or Refusal)) → IfOk read Good → IfOk r (λ found. read ≡ Ok found) → IfOk r Good
kept_form {X} Good read (Ok x) good kept = subst (λ (o : Result X (Or (List ℕ))). IfOk o Good) kept good
kept_form Good read (Err e) good kept = tt

-- what is read of a value and told has the form
pub answers_have_form : (v : Value) (read : Result Asked (Or (List ℕ))) (r : Result Asked (Or Refusal)) → Gives read (asked_in (view v)) → IfOk r (λ found. read ≡ Ok found) → IfOk r HasForm
answers_have_form v read r h kept = kept_form HasForm read r (answers_by read (view v) (view_texts v) h) kept

training_ok : (d : Data) (p : PutPart) → HasTexts d → training_issue_in d ≡ Ok p → IsIssuePart p
unfolding training_issue_in
training_ok d p has h =
    let known = λ (ms : Members). all_known keys.Training ms in
    let a = then_ok (given (as_object d) (codes ".")) (λ ms. cond (not (is_issue (text_at (codes "do") d))) (Err (codes "do")) (issue_part d >>= λ part. cond (known ms) (Ok part) (Err (codes "?")))) p h in
    let b = unless_ok (not (is_issue (text_at (codes "do") d))) (codes "do") (issue_part d >>= λ part. cond (known a.0) (Ok part) (Err (codes "?"))) p a.2 in
    let c = then_ok (issue_part d) (λ part. cond (known a.0) (Ok part) (Err (codes "?"))) p b.1 in
    subst IsIssuePart (if_ok (known a.0) c.0 (codes "?") p c.2) (issue_ok d c.0 has c.1)

training_by : (r : Result PutPart (Or (List ℕ))) (d : Data) → HasTexts d → Gives r (training_issue_in d) → IfOk r IsIssuePart
training_by (Ok p) d has h = training_ok d p has h
training_by (Err e) d has h = tt

pub issues_have_form : (v : Value) (read : Result PutPart (Or (List ℕ))) (r : Result PutPart (Or Refusal)) → Gives read (training_issue_in (view v)) → IfOk r (λ found. read ≡ Ok found) → IfOk r IsIssuePart
issues_have_form v read r h kept = kept_form IsIssuePart read r (training_by read (view v) (view_texts v) h) kept
