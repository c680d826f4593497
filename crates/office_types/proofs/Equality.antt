-- What the derived `==` of desks and requests tells: it holds exactly of identical values.
use Rattle.std.proofs.Common.{◌≡◌, ◌∙◌, ℕ, List, true, ap, sym, length, take, nat_eq}
use Rattle.std.specs.Bool.{Decides}
use Rattle.std.specs.Option.{option_eq}
use Rattle.std.specs.Str.{bytes_eq}
use Rattle.std.specs.Cmp.Lexicographic.{pointwise}
use Rattle.std.proofs.lemmas.Bool.{and_parts}
use Rattle.hazard_types.proofs.Equality.{decided, two_one, three_one, number_one, nat_decides, bytes_one, option_one, list_one, category_one, zone_decides, hazard_one, event_one, end_one, begin_one, flood_one}
use Rattle.office_types.specs.Desks.{padded}
use Rattle.office_types.proofs.DeskNames.{padded_take}
use Rattle.hazard_types.specs.Places.{Place}
use Rattle.hazard_types.specs.declared.hazard.Hazard.{Hazard}
use Rattle.hazard_types.specs.declared.hazard.Event.{Event}
use Rattle.office_types.specs.declared.request.Texts.{Texts}
use Rattle.office_types.specs.declared.request.EventTexts.{EventTexts}
use Rattle.office_types.specs.declared.request.Target.{Target}
use Rattle.office_types.specs.declared.request.PutPart.{PutPart}
use Rattle.office_types.specs.declared.request.EventPart.{EventPart}
use Rattle.office_types.specs.declared.request.RoutinePart.{RoutinePart}
use Rattle.office_types.specs.declared.request.Request.{Request}
use Rattle.office_types.specs.contracts.desk.DeskPartialEq.TheImpl as desk
use Rattle.hazard_types.specs.contracts.zone.ZonePartialEq.TheImpl as zone
use Rattle.hazard_types.specs.contracts.hazard.HazardPartialEq.TheImpl as hazard
use Rattle.hazard_types.specs.contracts.hazard.EventPartialEq.TheImpl as event
use Rattle.hazard_types.specs.contracts.period.EndPartialEq.TheImpl as end
use Rattle.hazard_types.specs.contracts.period.BeginPartialEq.TheImpl as begin
use Rattle.hazard_types.specs.contracts.line.FloodPartialEq.TheImpl as flood
use Rattle.office_types.specs.contracts.request.TextsPartialEq.TheImpl as texts
use Rattle.office_types.specs.contracts.request.EventTextsPartialEq.TheImpl as event_texts
use Rattle.office_types.specs.contracts.request.TargetPartialEq.TheImpl as target
use Rattle.office_types.specs.contracts.request.PutPartPartialEq.TheImpl as put_part
use Rattle.office_types.specs.contracts.request.EventPartPartialEq.TheImpl as event_part
use Rattle.office_types.specs.contracts.request.RoutinePartPartialEq.TheImpl as routine_part
use Rattle.office_types.specs.contracts.request.RequestPartialEq.TheImpl as request
use Rattle.office_types.specs.contracts.desk.DeskEq.TheImpl.Laws as desk_laws
use Rattle.office_types.specs.contracts.request.EventTextsEq.TheImpl.Laws as event_texts_laws
use Rattle.office_types.specs.contracts.request.RequestEq.TheImpl.Laws as request_laws
use Rattle.office_types.specs.declared.request.Target.TheVariants as target_is
use Rattle.office_types.specs.declared.request.Request.TheVariants as request_is

pub desk_one : (a b : List ℕ) → desk.eq-value.it a b ≡ true → a ≡ b
desk_one a b h =
    let p = and_parts (bytes_eq (padded a) (padded b)) _ h in
    let bytes_is : padded a ≡ padded b = bytes_one _ _ p.0 in
    let size_is : length a ≡ length b = number_one _ _ p.1 in
    let front : take (length a) (padded a) ≡ take (length b) (padded b) = λ i. take (size_is i) (bytes_is i) in
    sym (padded_take a) ∙ front ∙ padded_take b

pub desk_itself : (a : List ℕ) → desk.eq-value.it a a ≡ true
desk_itself = desk_laws.laws-law.refl

pub desk_decides : (a b : List ℕ) → Decides (desk.eq-value.it a b) (a ≡ b)
desk_decides = decided desk.eq-value.it desk_itself desk_one

pub texts_one : (a b : Texts) → texts.eq-value.it a b ≡ true → a ≡ b
texts_one a b h =
    let p0 = and_parts ((pointwise nat_eq) a.what b.what) _ h in
    let p1 = and_parts ((pointwise nat_eq) a.area b.area) _ p0.1 in
    let p2 = and_parts ((pointwise nat_eq) a.impacts b.impacts) _ p1.1 in
    let what_is = (list_one nat_eq nat_decides) a.what b.what p0.0 in
    let area_is = (list_one nat_eq nat_decides) a.area b.area p1.0 in
    let impacts_is = (list_one nat_eq nat_decides) a.impacts b.impacts p2.0 in
    let details_is = (list_one nat_eq nat_decides) a.details b.details p2.1 in
    λ i. record { what = what_is i; area = area_is i; impacts = impacts_is i; details = details_is i }

zones_one : (xs ys : List Place) → pointwise zone.eq-value.it xs ys ≡ true → xs ≡ ys
zones_one = list_one zone.eq-value.it zone_decides

pub event_texts_one : (a b : EventTexts) → event_texts.eq-value.it a b ≡ true → a ≡ b
event_texts_one a b h = two_one (λ (e : Event) (t : Texts). record { event = e; texts = t }) event.eq-value.it texts.eq-value.it event_one texts_one a.event b.event a.texts b.texts h

pub event_texts_itself : (a : EventTexts) → event_texts.eq-value.it a a ≡ true
event_texts_itself = event_texts_laws.laws-law.refl

pub event_texts_decides : (a b : EventTexts) → Decides (event_texts.eq-value.it a b) (a ≡ b)
event_texts_decides = decided event_texts.eq-value.it event_texts_itself event_texts_one

pub target_one : (a b : Target) → target.eq-value.it a b ≡ true → a ≡ b
target_one (target_is.Fresh x) (target_is.Fresh y) h = ap (λ z. target_is.Fresh z) (hazard_one x y h)
target_one (target_is.Join x) (target_is.Join y) h = ap (λ z. target_is.Join z) (event_one x y h)
target_one _ _ h = cc

pub put_part_one : (a b : PutPart) → put_part.eq-value.it a b ≡ true → a ≡ b
put_part_one a b h =
    let p0 = and_parts (target.eq-value.it a.target b.target) _ h in
    let p1 = and_parts ((pointwise zone.eq-value.it) a.zones b.zones) _ p0.1 in
    let p2 = and_parts (begin.eq-value.it a.begin b.begin) _ p1.1 in
    let p3 = and_parts (end.eq-value.it a.end b.end) _ p2.1 in
    let p4 = and_parts ((option_eq flood.eq-value.it) a.flood b.flood) _ p3.1 in
    let target_is = target_one a.target b.target p0.0 in
    let zones_is = (list_one zone.eq-value.it zone_decides) a.zones b.zones p1.0 in
    let begin_is = begin_one a.begin b.begin p2.0 in
    let end_is = end_one a.end b.end p3.0 in
    let flood_is = (option_one flood.eq-value.it flood_one) a.flood b.flood p4.0 in
    let texts_is = texts_one a.texts b.texts p4.1 in
    λ i. record { target = target_is i; zones = zones_is i; begin = begin_is i; end = end_is i; flood = flood_is i; texts = texts_is i }

pub event_part_one : (a b : EventPart) → event_part.eq-value.it a b ≡ true → a ≡ b
event_part_one a b h = three_one (λ (e : Event) (zs : List Place) (t : Texts). record { event = e; zones = zs; texts = t }) event.eq-value.it (pointwise zone.eq-value.it) texts.eq-value.it event_one zones_one texts_one a.event b.event a.zones b.zones a.texts b.texts h

pub routine_part_one : (a b : RoutinePart) → routine_part.eq-value.it a b ≡ true → a ≡ b
routine_part_one a b h = three_one (λ (x : Hazard) (zs : List Place) (t : Texts). record { hazard = x; zones = zs; texts = t }) hazard.eq-value.it (pointwise zone.eq-value.it) texts.eq-value.it hazard_one zones_one texts_one a.hazard b.hazard a.zones b.zones a.texts b.texts h

pub request_one : (a b : Request) → request.eq-value.it a b ≡ true → a ≡ b
request_one (request_is.Issue x) (request_is.Issue y) h = ap (λ z. request_is.Issue z) (put_part_one x y h)
request_one (request_is.Begin x) (request_is.Begin y) h = ap (λ z. request_is.Begin z) (category_one x y h)
request_one (request_is.Put x p) (request_is.Put y q) h = two_one request_is.Put nat_eq put_part.eq-value.it number_one put_part_one x y p q h
request_one (request_is.Finish x p) (request_is.Finish y q) h = two_one request_is.Finish nat_eq event_part.eq-value.it number_one event_part_one x y p q h
request_one (request_is.Restate x p) (request_is.Restate y q) h = two_one request_is.Restate nat_eq event_part.eq-value.it number_one event_part_one x y p q h
request_one (request_is.Routine x p) (request_is.Routine y q) h = two_one request_is.Routine nat_eq routine_part.eq-value.it number_one routine_part_one x y p q h
request_one (request_is.Drop x p) (request_is.Drop y q) h = two_one request_is.Drop nat_eq nat_eq number_one number_one x y p q h
request_one (request_is.Take x) (request_is.Take y) h = ap (λ z. request_is.Take z) (number_one x y h)
request_one (request_is.Discard x) (request_is.Discard y) h = ap (λ z. request_is.Discard z) (number_one x y h)
request_one (request_is.Send x) (request_is.Send y) h = ap (λ z. request_is.Send z) (number_one x y h)
request_one (request_is.Correct x p) (request_is.Correct y q) h = two_one request_is.Correct nat_eq (pointwise event_texts.eq-value.it) number_one (list_one event_texts.eq-value.it event_texts_decides) x y p q h
request_one _ _ h = cc

pub request_itself : (a : Request) → request.eq-value.it a a ≡ true
request_itself = request_laws.laws-law.refl

pub request_decides : (a b : Request) → Decides (request.eq-value.it a b) (a ≡ b)
request_decides = decided request.eq-value.it request_itself request_one
