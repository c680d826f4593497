-- The lines of a run open what they do in one of its zones.
use Rattle.std.proofs.Common.{◌≡◌, ◌∙◌, ◌&&◌, not, List, [], ◌∷◌, ◌++◌, Bool, true, false, cond, is_none, map, Option, Ordering, Less, Equal, Greater, append_assoc, refl, ap, sym, subst}
use Rattle.std.proofs.lemmas.Cmp.{tied_itself}
use Rattle.std.specs.List.{flat_map}
use Rattle.std.specs.Ordering.{ordering_reverse}
use Rattle.hazard_types.specs.Orders.{by_event}
use Rattle.hazard_types.specs.Places.{Place}
use Rattle.hazard_types.specs.declared.hazard.Event.{Event}
use Rattle.hazard_types.specs.declared.line.Line.{Line}
use Rattle.hazard_types.proofs.OrderLaws.{by_event_total, by_event_ties}
use Rattle.event_life.specs.declared.life.Breach.{Breach}
use Rattle.event_life.specs.Openings.{event_placed, add_event, events_opened_by}
use Rattle.event_life.specs.Products.{is_new, is_routine, lawful_of}
use Rattle.row_index.specs.declared.verdicts.Run.{Run}
use Rattle.row_index.specs.declared.verdicts.Verdict.{Verdict}
use Rattle.row_index.specs.Runs.{in_zone}
use Rattle.row_index.specs.Verdicts.{expand, expand_at}
use Rattle.product_decoder.specs.Runs.{Judged, judged_by, firsts_in, firsts_of}

-- an event that is added twice is added once

added : (e : Event) (events : List Event) → add_event e (add_event e events) ≡ add_event e events
added e [] = rw (tied_itself by_event_total e) refl
added e (d ∷ events) = by_first (by_event e d) refl (added e events)
  where
    by_first : (o : Ordering) → by_event e d ≡ o → add_event e (add_event e events) ≡ add_event e events → add_event e (event_placed o e d events (add_event e events)) ≡ event_placed o e d events (add_event e events)
    by_first Less h later = rw (tied_itself by_event_total e) refl
    by_first Equal h later = rw h refl
    by_first Greater h later = rw h (ap (λ (behind : List Event). d ∷ behind) later)

-- two events are added in either order

abbrev Turns : Event → Event → List Event → Type 0
Turns d e events = add_event e (add_event d events) ≡ add_event d (add_event e events)

added_less : (d e : Event) (events : List Event) → by_event d e ≡ Less → Turns d e events
added_less d e [] h =
    let turned : by_event e d ≡ Greater = by_event_total.antisymm e d ∙ ap ordering_reverse h in
    rw (h, turned) refl
added_less d e (f ∷ events) h = by_second (by_event e f) refl (added_less d e events h)
  where
    turned : by_event e d ≡ Greater
    turned = by_event_total.antisymm e d ∙ ap ordering_reverse h

    by_first : (o : Ordering) → by_event d f ≡ o → by_event e f ≡ Greater → Turns d e events → Turns d e (f ∷ events)
    by_first Less g k later = simp (g, k, turned) refl
    by_first Equal g k later = simp (g, k) refl
    by_first Greater g k later = simp (g, k) (ap (λ (behind : List Event). f ∷ behind) later)

    by_second : (o : Ordering) → by_event e f ≡ o → Turns d e events → Turns d e (f ∷ events)
    by_second Less k later =
        let g : by_event d f ≡ Less = by_event_total.trans d e f h k in
        simp (g, k, turned, h) refl
    by_second Equal k later =
        let g : by_event d f ≡ Less = subst (λ (c : Event). by_event d c ≡ Less) (by_event_ties e f k) h in
        simp (g, k, turned) refl
    by_second Greater k later = by_first (by_event d f) refl k later

added_both : (d e : Event) (events : List Event) → Turns d e events
added_both d e events = by_order (by_event d e) refl
  where
    by_order : (o : Ordering) → by_event d e ≡ o → Turns d e events
    by_order Less h = added_less d e events h
    by_order Equal h = subst (λ (c : Event). add_event c (add_event d events) ≡ add_event d (add_event c events)) (by_event_ties d e h) refl
    by_order Greater h = sym (added_less e d events (by_event_total.antisymm e d ∙ ap ordering_reverse h))

-- one line in front

abbrev opens : Bool → Event → List Event → List Event
opens new e events = cond new (add_event e events) events

twice : (new : Bool) (e : Event) (events : List Event) → opens new e (opens new e events) ≡ opens new e events
twice true e events = added e events
twice false e events = refl

both : (a b : Bool) (e f : Event) (events : List Event) → opens a e (opens b f events) ≡ opens b f (opens a e events)
both true true e f events = added_both f e events
both true false e f events = refl
both false b e f events = refl

-- a line opens its event where it is lawful, not routine, and NEW
abbrev is_opening : Line → Option Breach → Bool
is_opening line o = (not (is_routine line.action) && is_none o) && is_new line.action

abbrev opened_with : Line → Option Breach → List Event → List Event
opened_with line o events = opens (is_opening line o) line.event events

one_more : (line : Line) (o : Option Breach) (rest : List Judged) → events_opened_by (lawful_of ((line, o) ∷ rest)) ≡ opened_with line o (events_opened_by (lawful_of rest))
one_more line o rest = by_test (not (is_routine line.action) && is_none o)
  where
    by_test : (b : Bool) → events_opened_by (cond b (line ∷ lawful_of rest) (lawful_of rest)) ≡ opens (b && is_new line.action) line.event (events_opened_by (lawful_of rest))
    by_test true = refl
    by_test false = refl

-- the lines of a run in one zone

abbrev all_opened : List Verdict → List Event → List Event
all_opened [] events = events
all_opened (v ∷ vs) events = opened_with v.line v.breach (all_opened vs events)

firsts_told : (vs : List Verdict) (rest : List Judged) → events_opened_by (lawful_of (map judged_by vs ++ rest)) ≡ all_opened vs (events_opened_by (lawful_of rest))
firsts_told [] rest = refl
firsts_told (v ∷ vs) rest = one_more v.line v.breach (map judged_by vs ++ rest) ∙ ap (opened_with v.line v.breach) (firsts_told vs rest)

zone_told : (z : Place) (vs : List Verdict) (rest : List Judged) → events_opened_by (lawful_of (expand_at vs z ++ rest)) ≡ all_opened vs (events_opened_by (lawful_of rest))
zone_told z [] rest = refl
zone_told z (v ∷ vs) rest = one_more (in_zone v.line z) v.breach (expand_at vs z ++ rest) ∙ ap (opened_with v.line v.breach) (zone_told z vs rest)

-- said again, they add nothing

past_all : (v : Verdict) (vs : List Verdict) (events : List Event) → all_opened vs (opened_with v.line v.breach events) ≡ opened_with v.line v.breach (all_opened vs events)
past_all v [] events = refl
past_all v (w ∷ vs) events =
    ap (opened_with w.line w.breach) (past_all v vs events)
    ∙ both (is_opening w.line w.breach) (is_opening v.line v.breach) w.line.event v.line.event (all_opened vs events)

again : (vs : List Verdict) (events : List Event) → all_opened vs (all_opened vs events) ≡ all_opened vs events
again [] events = refl
again (v ∷ vs) events =
    ap (opened_with v.line v.breach) (past_all v vs (all_opened vs events))
    ∙ twice (is_opening v.line v.breach) v.line.event (all_opened vs (all_opened vs events))
    ∙ ap (opened_with v.line v.breach) (again vs events)

-- one zone more
zone_more : (z : Place) (zones : List Place) (vs : List Verdict) (rest : List Judged)
    → events_opened_by (lawful_of (flat_map (expand_at vs) (z ∷ zones) ++ rest)) ≡ all_opened vs (events_opened_by (lawful_of (flat_map (expand_at vs) zones ++ rest)))
zone_more z zones vs rest =
    ap (λ (judged : List Judged). events_opened_by (lawful_of judged)) (append_assoc (expand_at vs z) (flat_map (expand_at vs) zones) rest)
    ∙ zone_told z vs (flat_map (expand_at vs) zones ++ rest)

-- in front of what they open, other zones add nothing
zones_again : (zones : List Place) (vs : List Verdict) (rest : List Judged) → all_opened vs (events_opened_by (lawful_of (flat_map (expand_at vs) zones ++ rest))) ≡ all_opened vs (events_opened_by (lawful_of rest))
zones_again [] vs rest = refl
zones_again (z ∷ zones) vs rest =
    ap (all_opened vs) (zone_more z zones vs rest) ∙ again vs (events_opened_by (lawful_of (flat_map (expand_at vs) zones ++ rest))) ∙ zones_again zones vs rest

-- a run in front of others
run_opened : (zones : List Place) (vs : List Verdict) (firsts rest : List Judged) → events_opened_by (lawful_of firsts) ≡ events_opened_by (lawful_of rest)
    → events_opened_by (lawful_of (firsts_in (record { zones = zones; verdicts = vs }) ++ firsts)) ≡ events_opened_by (lawful_of (flat_map (expand_at vs) zones ++ rest))
run_opened [] vs firsts rest h = h
run_opened (z ∷ zones) vs firsts rest h =
    firsts_told vs firsts ∙ ap (all_opened vs) h
    ∙ sym (zones_again zones vs rest) ∙ sym (zone_more z zones vs rest)

pub firsts_opened : (runs : List Run) → events_opened_by (lawful_of (firsts_of runs)) ≡ events_opened_by (lawful_of (expand runs))
firsts_opened [] = refl
firsts_opened (r ∷ runs) = run_opened r.zones r.verdicts (firsts_of runs) (expand runs) (firsts_opened runs)
