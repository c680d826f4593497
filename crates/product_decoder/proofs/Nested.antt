-- The steps of each event by zone are the steps of events in zones: a step put among those of its event is put among all.
use Rattle.std.proofs.Common.{◌≡◌, ◌∙◌, ℕ, List, [], ◌∷◌, ◌++◌, Bool, true, false, cond, fold, map, Ordering, Less, Equal, Greater, Option, Some, unwrap_or, append_assoc, append-nil, refl, ap, sym, subst}
use Rattle.std.proofs.lemmas.Cmp.{tied_itself}
use Rattle.std.proofs.lemmas.List.{map-append}
use Rattle.std.proofs.lemmas.List.Sums.{fold-append}
use Rattle.std.specs.BTreeMap.{insert_entry, is_at}
use Rattle.std.specs.List.{AllByRecursion, flat_map}
use Rattle.std.specs.List.Sorted.{IsStrictlySortedBy}
use Rattle.std.specs.Map.{keys_of, lookup}
use Rattle.std.specs.Ordering.{match_ordering}
use Rattle.hazard_types.specs.Orders.{by_event}
use Rattle.hazard_types.specs.Places.{Place, by_place}
use Rattle.hazard_types.specs.declared.hazard.Event.{Event}
use Rattle.hazard_types.specs.declared.line.Line.{Line}
use Rattle.hazard_types.proofs.OrderLaws.{by_event_total, by_event_ties}
use Rattle.event_life.specs.Products.{lawful_of}
use Rattle.event_life.proofs.AppendLemmas.{lawful_of-append}
use Rattle.row_index.proofs.Tests.{insert-sorted}
use Rattle.row_index.specs.declared.verdicts.Run.{Run}
use Rattle.row_index.specs.declared.verdicts.Verdict.{Verdict}
use Rattle.row_index.specs.Runs.{in_zone}
use Rattle.row_index.specs.Verdicts.{HaveOwnEvents, leaves_row, expand, expand_at, expand_run}
use Rattle.product_decoder.specs.Runs.{Judged}
use Rattle.product_decoder.specs.Lives.{Living, by_living}
use Rattle.product_decoder.specs.Steps.{Step, Steps, steps_at, with_step, with_line, with_lines, with_runs, tracks_told, track_told}
use Rattle.product_decoder.proofs.StepLemmas.{keys_put}
use Rattle.product_decoder.proofs.EitherOrder.{one, turned_run}
use Rattle.product_decoder.specs.ZoneSteps.{Zones, at_zone, with_zone, with_zones, Events, AreAscending, zones_at, under, flat, with_run, with_verdict}

abbrev Entry : Type 0
Entry = Living × List Step

abbrev AreFrom : Ordering → Event → Steps → Type 0
AreFrom o e steps = AllByRecursion (λ (x : Entry). by_event e x.0.event ≡ o) steps

-- how the steps of an event stand among all

from_append : (o : Ordering) (e : Event) (xs ys : Steps) → AreFrom o e xs → AreFrom o e ys → AreFrom o e (xs ++ ys)
from_append o e [] ys h k = k
from_append o e (x ∷ xs) ys h k = (h.0, from_append o e xs ys h.1 k)

from_under : (o : Ordering) (e d : Event) (zones : Zones) → by_event e d ≡ o → AreFrom o e (under d zones)
from_under o e d [] h = tt
from_under o e d (z ∷ zones) h = (h, from_under o e d zones h)

from_flat : (e : Event) (es : Events) → AllByRecursion (λ (d : Event). by_event e d ≡ Less) (keys_of es) → AreFrom Less e (flat es)
from_flat e [] h = tt
from_flat e (x ∷ es) h = from_append Less e (under x.0 x.1) (flat es) (from_under Less e x.0 x.1 h.0) (from_flat e es h.1)

all_behind : (e d : Event) (es : List Event) → by_event e d ≡ Less → AllByRecursion (λ (c : Event). by_event d c ≡ Less) es → AllByRecursion (λ (c : Event). by_event e c ≡ Less) es
all_behind e d [] h all = tt
all_behind e d (c ∷ es) h all = (by_event_total.trans e d c h all.0, all_behind e d es h all.1)

none_behind : (e : Event) (es : Events) → AllByRecursion (λ (d : Event). by_event e d ≡ Less) (keys_of es) → zones_at es e ≡ []
none_behind e [] all = refl
none_behind e (x ∷ es) all = rw all.0 (none_behind e es all.1)

-- what is before the steps of an event and behind them, whatever these are
record IsSplit (es : Events) (e : Event) : Type 0 where
  front : Steps
  back : Steps
  whole : (zones : Zones) → flat (insert_entry by_event es e zones) ≡ front ++ (under e zones ++ back)
  now : flat es ≡ front ++ (under e (zones_at es e) ++ back)
  before : AreFrom Greater e front
  behind : AreFrom Less e back

split : (es : Events) (e : Event) → AreAscending es → IsSplit es e
unfolding IsStrictlySortedBy
split [] e up = record { front = []; back = []; whole = λ zones. refl; now = refl; before = tt; behind = tt }
split (x ∷ es) e up = by_first (by_event e x.0) refl (split es e up.1)
  where
    by_first : (o : Ordering) → by_event e x.0 ≡ o → IsSplit es e → IsSplit (x ∷ es) e
    by_first Less h later =
        let all : AllByRecursion (λ (d : Event). by_event e d ≡ Less) (keys_of (x ∷ es)) = (h, all_behind e x.0 (keys_of es) h up.0) in
        record {
          front = [];
          back = flat (x ∷ es);
          whole = λ zones. rw h refl;
          now = sym (ap (λ (zones : Zones). under e zones ++ flat (x ∷ es)) (none_behind e (x ∷ es) all));
          before = tt;
          behind = from_flat e (x ∷ es) all;
        }
    by_first Equal h later =
        let is : e ≡ x.0 = by_event_ties e x.0 h in
        record {
          front = [];
          back = flat es;
          whole = λ zones. rw h (ap (λ (d : Event). under d zones ++ flat es) (sym is));
          now = rw h (ap (λ (d : Event). under d x.1 ++ flat es) (sym is));
          before = tt;
          behind = from_flat e es (subst (λ (d : Event). AllByRecursion (λ (c : Event). by_event d c ≡ Less) (keys_of es)) (sym is) up.0);
        }
    by_first Greater h later = record {
      front = under x.0 x.1 ++ later.front;
      back = later.back;
      whole = λ zones. rw h (ap (λ (steps : Steps). under x.0 x.1 ++ steps) (later.whole zones) ∙ sym (append_assoc (under x.0 x.1) later.front (under e zones ++ later.back)));
      now = rw h (ap (λ (steps : Steps). under x.0 x.1 ++ steps) later.now ∙ sym (append_assoc (under x.0 x.1) later.front (under e (zones_at es e) ++ later.back)));
      before = from_append Greater e (under x.0 x.1) later.front (from_under Greater e x.0 x.1 h) later.before;
      behind = later.behind;
    }

-- a step put between them

module _ (e : Event) (z : Place) where
  abbrev own : Living
  own = record { event = e; zone = z }

  put_past : (front rest : Steps) (w : List Step) → AreFrom Greater e front → insert_entry by_living (front ++ rest) own w ≡ front ++ insert_entry by_living rest own w
  put_past [] rest w h = refl
  put_past (x ∷ front) rest w h = rw h.0 (ap (λ (steps : Steps). x ∷ steps) (put_past front rest w h.1))

  at_past : (front rest : Steps) → AreFrom Greater e front → steps_at (front ++ rest) own ≡ steps_at rest own
  at_past [] rest h = refl
  at_past (x ∷ front) rest h = rw h.0 (at_past front rest h.1)

  put_first : (back : Steps) (w : List Step) → AreFrom Less e back → insert_entry by_living back own w ≡ (own, w) ∷ back
  put_first [] w h = refl
  put_first (x ∷ back) w h = rw h.0 refl

  at_none : (back : Steps) → AreFrom Less e back → steps_at back own ≡ []
  at_none [] h = refl
  at_none (x ∷ back) h = rw h.0 (at_none back h.1)

  put_under : (zones : Zones) (back : Steps) (w : List Step) → AreFrom Less e back → insert_entry by_living (under e zones ++ back) own w ≡ under e (insert_entry by_place zones z w) ++ back
  put_under [] back w h = put_first back w h
  put_under (x ∷ zones) back w h = rw (tied_itself by_event_total e) (by_zone (by_place z x.0) (put_under zones back w h))
    where
      by_zone : (o : Ordering) → insert_entry by_living (under e zones ++ back) own w ≡ under e (insert_entry by_place zones z w) ++ back
          → match_ordering o ((own, w) ∷ under e (x ∷ zones) ++ back) ((record { event = e; zone = x.0 }, w) ∷ under e zones ++ back) ((record { event = e; zone = x.0 }, x.1) ∷ insert_entry by_living (under e zones ++ back) own w)
          ≡ under e (match_ordering o ((z, w) ∷ x ∷ zones) ((x.0, w) ∷ zones) (x ∷ insert_entry by_place zones z w)) ++ back
      by_zone Less later = refl
      by_zone Equal later = refl
      by_zone Greater later = ap (λ (steps : Steps). (record { event = e; zone = x.0 }, x.1) ∷ steps) later

  at_first : (b : Bool) (w : List Step) (o p : Option (List Step)) → unwrap_or o [] ≡ unwrap_or p [] → unwrap_or (cond b (Some w) o) [] ≡ unwrap_or (cond b (Some w) p) []
  at_first true w o p h = refl
  at_first false w o p h = h

  at_under : (zones : Zones) (back : Steps) → AreFrom Less e back → steps_at (under e zones ++ back) own ≡ at_zone zones z
  at_under [] back h = at_none back h
  at_under (x ∷ zones) back h =
      rw (tied_itself by_event_total e) (at_first (is_at (by_place z) x.0) x.1 (lookup (is_at (by_living own)) (under e zones ++ back)) (lookup (is_at (by_place z)) zones) (at_under zones back h))

  pub step_between : (front back : Steps) (zones : Zones) (s : Step) → AreFrom Greater e front → AreFrom Less e back
      → with_step (front ++ (under e zones ++ back)) own s ≡ front ++ (under e (with_zone zones z s) ++ back)
  step_between front back zones s before behind =
      ap (λ (w : List Step). insert_entry by_living (front ++ (under e zones ++ back)) own (w ++ s ∷ [])) (at_past front (under e zones ++ back) before ∙ at_under zones back behind)
      ∙ put_past front (under e zones ++ back) (at_zone zones z ++ s ∷ []) before
      ∙ ap (λ (steps : Steps). front ++ steps) (put_under zones back (at_zone zones z ++ s ∷ []) behind)

-- a run of them

run_between : (step : Step) (e : Event) (front back : Steps) (zones : Zones) (places : List Place) → AreFrom Greater e front → AreFrom Less e back
    → with_run step e (front ++ (under e zones ++ back)) places ≡ front ++ (under e (with_zones step zones places) ++ back)
run_between step e front back zones [] before behind = refl
run_between step e front back zones (z ∷ places) before behind =
    ap (λ (steps : Steps). with_run step e steps places) (step_between e z front back zones step before behind)
    ∙ run_between step e front back (with_zone zones z step) places before behind

run_put : (step : Step) (e : Event) (es new : Events) (places : List Place) → AreAscending es → new ≡ insert_entry by_event es e (with_zones step (zones_at es e) places) → flat new ≡ with_run step e (flat es) places
run_put step e es new places up is =
    let s = split es e up in
    ap flat is ∙ s.whole (with_zones step (zones_at es e) places) ∙ sym (run_between step e s.front s.back (zones_at es e) places s.before s.behind)
    ∙ ap (λ (steps : Steps). with_run step e steps places) (sym s.now)

pub ascending_put : (e : Event) (es new : Events) (zones : Zones) → AreAscending es → new ≡ insert_entry by_event es e zones → AreAscending new
ascending_put e es new zones up is =
    subst (λ (keys : List Event). IsStrictlySortedBy by_event keys) (sym (ap (λ (es : Events). keys_of es) is ∙ keys_put by_event e es zones)) (insert-sorted by_event by_event_total by_event_ties e (keys_of es) up)

-- the lines of a run

-- lines that go before others
lines_both : (issue : ℕ) (steps : Steps) (xs ys : List Judged) → with_lines issue steps (xs ++ ys) ≡ with_lines issue (with_lines issue steps xs) ys
lines_both issue steps xs ys = ap (λ (lines : List Line). fold (with_line issue) steps lines) (lawful_of-append xs ys) ∙ fold-append (with_line issue) steps (lawful_of xs) (lawful_of ys)

pub runs_told : (issue : ℕ) (steps : Steps) (runs : List Run) → with_runs issue steps runs ≡ with_lines issue steps (expand runs)
runs_told issue steps [] = refl
runs_told issue steps (r ∷ runs) = runs_told issue (with_lines issue steps (expand_run r)) runs ∙ sym (lines_both issue steps (expand_run r) (expand runs))

-- in one zone
zone_lines : (issue : ℕ) (z : Place) (vs : List Verdict) (steps : Steps) → with_lines issue steps (expand_at vs z) ≡ fold (one issue z) steps vs
zone_lines issue z [] steps = refl
zone_lines issue z (v ∷ vs) steps = by_test (leaves_row v) (zone_lines issue z vs)
  where
    by_test : (b : Bool) → ((s : Steps) → with_lines issue s (expand_at vs z) ≡ fold (one issue z) s vs)
        → fold (with_line issue) steps (cond b (in_zone v.line z ∷ lawful_of (expand_at vs z)) (lawful_of (expand_at vs z))) ≡ fold (one issue z) (cond b (with_line issue steps (in_zone v.line z)) steps) vs
    by_test true later = later (with_line issue steps (in_zone v.line z))
    by_test false later = later steps

-- in each of some zones
zones_lines : (issue : ℕ) (vs : List Verdict) (zones : List Place) (steps : Steps) → with_lines issue steps (flat_map (expand_at vs) zones) ≡ fold (λ (s : Steps) (z : Place). fold (one issue z) s vs) steps zones
zones_lines issue vs [] steps = refl
zones_lines issue vs (z ∷ zones) steps =
    lines_both issue steps (expand_at vs z) (flat_map (expand_at vs) zones)
    ∙ ap (λ (s : Steps). with_lines issue s (flat_map (expand_at vs) zones)) (zone_lines issue z vs steps)
    ∙ zones_lines issue vs zones (fold (one issue z) steps vs)

-- line by line
pub run_told : (issue : ℕ) (r : Run) (steps : Steps) → HaveOwnEvents (map (λ (v : Verdict). v.line) r.verdicts) → fold (with_verdict issue r.zones) steps r.verdicts ≡ with_lines issue steps (expand_run r)
run_told issue r steps h = sym (zones_lines issue r.verdicts r.zones steps ∙ turned_run issue r.verdicts r.zones steps h)

-- a line that is lawful
pub verdict_lawful : (issue : ℕ) (v : Verdict) (es new : Events) (zones : List Place) → AreAscending es → leaves_row v ≡ true
    → new ≡ insert_entry by_event es v.line.event (with_zones (v.line.action, issue) (zones_at es v.line.event) zones) → flat new ≡ with_verdict issue zones (flat es) v
verdict_lawful issue v es new zones up h is = rw h (run_put (v.line.action, issue) v.line.event es new zones up is)

-- and one that is not
pub verdict_passed : (issue : ℕ) (v : Verdict) (steps : Steps) (zones : List Place) → leaves_row v ≡ false → steps ≡ with_verdict issue zones steps v
verdict_passed issue v steps zones h = rw h refl

-- the lives that one event's steps more tell
pub tracks_more : (es : Events) (e : Event × Zones) → tracks_told (flat (es ++ e ∷ [])) ≡ tracks_told (flat es) ++ tracks_told (under e.0 e.1)
tracks_more es e = ap tracks_told (flat_more es e) ∙ map-append track_told (flat es) (under e.0 e.1)
  where
    flat_more : (es : Events) (e : Event × Zones) → flat (es ++ e ∷ []) ≡ flat es ++ under e.0 e.1
    flat_more [] e = append-nil (under e.0 e.1)
    flat_more (x ∷ es) e = ap (λ (steps : Steps). under x.0 x.1 ++ steps) (flat_more es e) ∙ sym (append_assoc (under x.0 x.1) (flat es) (under e.0 e.1))
