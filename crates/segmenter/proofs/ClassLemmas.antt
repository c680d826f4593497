-- The zones of each list, and the segments that they make.
use Rattle.std.proofs.Common.{◌≡◌, ◌∙◌, ◌⊎◌, inl, inr, List, [], ◌∷◌, ◌++◌, Ordering, Less, Equal, Greater, Bool, true, false, cond, map, fold, Option, Some, None, refl, ap, sym, subst, append_assoc, append-nil}
use Rattle.std.specs.Prelude.{◌≢◌, ◌↔◌, AllPairs}
use Rattle.std.specs.List.{filter, AllByRecursion, IsDistinct}
use Rattle.std.specs.List.Sorted.{IsStrictlySortedBy}
use Rattle.std.specs.Ordering.{ordering_then}
use Rattle.std.proofs.lemmas.Cmp.{tied_itself}
use Rattle.std.proofs.lemmas.Map.Made.{AllPairs-from_IsDistinct}
use Rattle.hazard_types.specs.declared.hazard.Event.{Event}
use Rattle.hazard_types.specs.declared.line.Line.{Line}
use Rattle.hazard_types.specs.declared.line.SegLine.{SegLine}
use Rattle.hazard_types.specs.declared.line.Segment.{Segment}
use Rattle.hazard_types.specs.Orders.{by_event}
use Rattle.hazard_types.specs.Places.{Place, by_place}
use Rattle.hazard_types.proofs.Equality.{seg_lines_decide}
use Rattle.hazard_types.proofs.OrderLaws.{by_event_total}
use Rattle.segmenter.specs.declared.groups.Group.{Group}
use Rattle.segmenter.specs.declared.groups.Head.{Head}
use Rattle.segmenter.specs.Groups.{lines_of}
use Rattle.segmenter.specs.Segments.{Has, by_segment, AreSegments}
use Rattle.segmenter.specs.Steps.{by_head, put, same_lines, pushed, Heads, Classes, groups_of, heads_of, classes_of, segments_of}
use Rattle.segmenter.proofs.AtLemmas.{at, keys, IsFull, at-put_all, distinct-put_all, full-put, full-put_all, none_distinct, has_at, at_has}
use Rattle.segmenter.proofs.HasLemmas.{has_kept, keeps, all_at, all_from, has_some, not_empty, has_mapped, mapped_from}
use Rattle.segmenter.proofs.RisingLemmas.{first_event, Leads, heads_rise, head_from, head_has}

-- ---- the zones at each list

abbrev zone_of : Head × List SegLine → Place
zone_of e = e.0.zone

-- the zones of the heads with this list
abbrev zones_of : List SegLine → Heads → List Place
zones_of ls hs = map zone_of (filter (λ (e : Head × List SegLine). same_lines ls e.1) hs)

pushed_all : (zs : List Place) (es : Heads) → fold (λ (so_far : List Place) (e : Head × List SegLine). pushed e.0.zone so_far) zs es ≡ zs ++ map zone_of es
pushed_all zs [] = sym (append-nil zs)
pushed_all zs (e ∷ es) = pushed_all (zs ++ e.0.zone ∷ []) es ∙ append_assoc zs (e.0.zone ∷ []) (map zone_of es)

class_at : (hs : Heads) (ls : List SegLine) → at same_lines seg_lines_decide pushed ls (classes_of hs) ≡ zones_of ls hs
class_at hs ls =
    at-put_all same_lines seg_lines_decide pushed (λ (e : Head × List SegLine). e.1) zone_of ls [] hs
    ∙ pushed_all [] (filter (λ (e : Head × List SegLine). same_lines ls e.1) hs)

pushed_some : (z : Place) (zs : List Place) → pushed z zs ≢ []
pushed_some z [] e = cc
pushed_some z (y ∷ ys) e = cc

classes_distinct : (hs : Heads) → IsDistinct same_lines (keys same_lines seg_lines_decide pushed (classes_of hs))
classes_distinct hs = distinct-put_all same_lines seg_lines_decide pushed (λ (e : Head × List SegLine). e.1) zone_of [] hs (none_distinct same_lines seg_lines_decide pushed)

classes_full : (hs : Heads) → AllByRecursion (IsFull same_lines seg_lines_decide pushed) (classes_of hs)
classes_full hs = full-put_all same_lines seg_lines_decide pushed (λ (e : Head × List SegLine). e.1) zone_of pushed_some [] hs tt

class_zones : (hs : Heads) (c : List SegLine × List Place) → Has (classes_of hs) c → c.1 ≡ zones_of c.0 hs
class_zones hs c has = sym (has_at same_lines seg_lines_decide pushed (classes_of hs) c.0 c.1 (classes_distinct hs) has) ∙ class_at hs c.0

zone_from : (hs : Heads) (ls : List SegLine) (z : Place) → Has (zones_of ls hs) z → (h : Head) × Has hs (h, ls) × (z ≡ h.zone)
zone_from hs ls z has =
    let r = mapped_from zone_of (filter (λ (e : Head × List SegLine). same_lines ls e.1) hs) z has in
    let kept = has_kept (λ (e : Head × List SegLine). same_lines ls e.1) hs r.0 r.1 in
    let same : ls ≡ r.0.1 = (seg_lines_decide ls r.0.1).0 kept.1 in
    (r.0.0, subst (λ (l : List SegLine). Has hs (r.0.0, l)) (sym same) kept.0, r.2)

zone_has : (hs : Heads) (h : Head) (ls : List SegLine) → Has hs (h, ls) → Has (zones_of ls hs) h.zone
zone_has hs h ls has =
    has_mapped zone_of (filter (λ (e : Head × List SegLine). same_lines ls e.1) hs) (h, ls)
    (keeps (λ (e : Head × List SegLine). same_lines ls e.1) hs (h, ls) has ((seg_lines_decide ls ls).1 refl))

-- ---- the zones of a list are in order

-- each head has the first event of its list
abbrev AreHeaded : Heads → Type 0
AreHeaded hs = (h : Head) (ls : List SegLine) → Has hs (h, ls) → first_event ls ≡ Some h.first

then_less : (o p : Ordering) → p ≡ Equal → ordering_then o p ≡ Less → o ≡ Less
then_less Less p tied h = refl
then_less Equal p tied h = cc
then_less Greater p tied h = cc

zone_less : (a b : Head) → a.first ≡ b.first → by_head a b ≡ Less → by_place a.zone b.zone ≡ Less
zone_less a b same less =
    let tied : by_event a.first b.first ≡ Equal = ap (λ (e : Event). by_event a.first e) (sym same) ∙ tied_itself by_event_total a.first in
    then_less (by_place a.zone b.zone) _ tied less

one_event : (a b : Head) (ls : List SegLine) → first_event ls ≡ Some a.first → first_event ls ≡ Some b.first → a.first ≡ b.first
one_event a b ls p q = cc

zones_by : (b : Bool) (ls : List SegLine) (e : Head × List SegLine) (es : Heads) → same_lines ls e.1 ≡ b → AreHeaded (e ∷ es) → AllByRecursion (λ k. by_head e.0 k ≡ Less) (map (λ d. d.0) es) → IsStrictlySortedBy by_place (zones_of ls es)
    → IsStrictlySortedBy by_place (map zone_of (cond b (e ∷ filter (λ (d : Head × List SegLine). same_lines ls d.1) es) (filter (λ (d : Head × List SegLine). same_lines ls d.1) es)))
unfolding IsStrictlySortedBy
zones_by true ls e es is headed above later = (
  all_from (λ (z : Place). by_place e.0.zone z ≡ Less) (zones_of ls es) (λ z has.
      let r = zone_from es ls z has in
      let less : by_head e.0 r.0 ≡ Less = all_at (λ (k : Head). by_head e.0 k ≡ Less) (map (λ d. d.0) es) r.0 above (has_mapped (λ (d : Head × List SegLine). d.0) es (r.0, ls) r.1) in
      let same : ls ≡ e.1 = (seg_lines_decide ls e.1).0 is in
      let first = one_event e.0 r.0 ls (ap first_event same ∙ headed e.0 e.1 (inl refl)) (headed r.0 ls (inr r.1)) in
      subst (λ (y : Place). by_place e.0.zone y ≡ Less) (sym r.2) (zone_less e.0 r.0 first less)),
  later,
)
zones_by false ls e es is headed above later = later

zones_rise : (ls : List SegLine) (hs : Heads) → AreHeaded hs → IsStrictlySortedBy by_head (map (λ e. e.0) hs) → IsStrictlySortedBy by_place (zones_of ls hs)
unfolding IsStrictlySortedBy
zones_rise ls [] headed sorted = tt
zones_rise ls (e ∷ es) headed sorted = zones_by (same_lines ls e.1) ls e es refl headed sorted.0 (zones_rise ls es (λ h ms has. headed h ms (inr has)) sorted.1)

-- ---- the lists are in order by their heads

-- the first zone and the event of the first line
abbrev head_of : List Place → List SegLine → Option Head
head_of (zone ∷ zones) (line ∷ lines) = Some (record { zone = zone; first = line.event })
head_of [] lines = None
head_of (zone ∷ zones) [] = None

abbrev class_head : List SegLine × List Place → Option Head
class_head c = head_of c.1 c.0

head_pushed : (z : Place) (zs : List Place) (ls : List SegLine) → zs ≢ [] → head_of (pushed z zs) ls ≡ head_of zs ls
head_pushed z [] ls some = absurd (some refl)
head_pushed z (y ∷ ys) [] some = refl
head_pushed z (y ∷ ys) (l ∷ ls) some = refl

head_new : (h : Head) (ls : List SegLine) → first_event ls ≡ Some h.first → head_of (h.zone ∷ []) ls ≡ Some h
head_new h [] led = cc
head_new h (l ∷ ls) led =
    let event_is : l.event ≡ h.first = cc in
    ap Some (λ i. record { zone = h.zone; first = event_is i })

head_tail : (o p : Option Head) (os ps : List (Option Head)) → o ∷ os ≡ p ∷ ps → (o ≡ p) × (os ≡ ps)
head_tail o p os ps e = (cc, cc)

abbrev Heading : Classes → Classes → Head → Type 0
Heading old new h = (map class_head new ≡ map class_head old) ⊎ (map class_head new ≡ map class_head old ++ Some h ∷ [])

heading_by : (b : Bool) (c : List SegLine × List Place) (cs rest : Classes) (h : Head) → c.1 ≢ [] → Heading cs rest h → Heading (c ∷ cs) (cond b ((c.0, pushed h.zone c.1) ∷ cs) (c ∷ rest)) h
heading_by true c cs rest h some later = inl (ap (λ (o : Option Head). o ∷ map class_head cs) (head_pushed h.zone c.1 c.0 some))
heading_by false c cs rest h some (inl e) = inl (ap (λ (os : List (Option Head)). class_head c ∷ os) e)
heading_by false c cs rest h some (inr e) = inr (ap (λ (os : List (Option Head)). class_head c ∷ os) e)

heading : (cs : Classes) (h : Head) (ls : List SegLine) → first_event ls ≡ Some h.first → AllByRecursion (IsFull same_lines seg_lines_decide pushed) cs → Heading cs (put same_lines pushed cs ls h.zone) h
heading [] h ls led full = inr (ap (λ (o : Option Head). o ∷ []) (head_new h ls led))
heading (c ∷ cs) h ls led full = heading_by (same_lines ls c.0) c cs (put same_lines pushed cs ls h.zone) h full.0 (heading cs h ls led full.1)

all_but : (P : Head → Type 0) (hs : List Head) (k : Head) (ks : List Head) → AllByRecursion P (hs ++ k ∷ ks) → AllByRecursion P (hs ++ ks)
all_but P [] k ks all = all.1
all_but P (h ∷ hs) k ks all = (all.0, all_but P hs k ks all.1)

rises_but : (hs : List Head) (k : Head) (ks : List Head) → IsStrictlySortedBy by_head (hs ++ k ∷ ks) → IsStrictlySortedBy by_head (hs ++ ks)
unfolding IsStrictlySortedBy
rises_but [] k ks sorted = sorted.1
rises_but (h ∷ hs) k ks sorted = (all_but (λ (y : Head). by_head h y ≡ Less) hs k ks sorted.0, rises_but hs k ks sorted.1)

some_pushed : (hs : List Head) (h : Head) → map Some hs ++ Some h ∷ [] ≡ map Some (hs ++ h ∷ [])
some_pushed [] h = refl
some_pushed (k ∷ hs) h = ap (λ (os : List (Option Head)). Some k ∷ os) (some_pushed hs h)

abbrev InOrder : Classes → Type 0
InOrder cs = (ks : List Head) × (map class_head cs ≡ map Some ks) × IsStrictlySortedBy by_head ks

abbrev all_put : Classes → Heads → Classes
all_put cs es = fold (λ (so_far : Classes) (e : Head × List SegLine). put same_lines pushed so_far e.1 e.0.zone) cs es

lines_without_zones : (cs : Classes) (hs : List Head) (es : Heads) → AllByRecursion (IsFull same_lines seg_lines_decide pushed) cs → map class_head cs ≡ map Some hs → AreHeaded es → IsStrictlySortedBy by_head (hs ++ map (λ e. e.0) es) → InOrder (all_put cs es)
lines_without_zones cs hs [] full heads headed sorted = (hs, heads, subst (IsStrictlySortedBy by_head) (append-nil hs) sorted)
lines_without_zones cs hs (e ∷ es) full heads headed sorted =
    let more = full-put same_lines seg_lines_decide pushed cs e.1 e.0.zone pushed_some full in
    let later : AreHeaded es = λ h ms has. headed h ms (inr has) in
    elim (heading cs e.0 e.1 (headed e.0 e.1 (inl refl)) full) as (λ _. InOrder (all_put cs (e ∷ es))) [
      | inl q ↦ lines_without_zones (put same_lines pushed cs e.1 e.0.zone) hs es more (q ∙ heads) later (rises_but hs e.0 (map (λ d. d.0) es) sorted)
      | inr q ↦ lines_without_zones (put same_lines pushed cs e.1 e.0.zone) (hs ++ e.0 ∷ []) es more (q ∙ ap (λ (os : List (Option Head)). os ++ Some e.0 ∷ []) heads ∙ some_pushed hs e.0) later
          (subst (IsStrictlySortedBy by_head) (sym (append_assoc hs (e.0 ∷ []) (map (λ d. d.0) es))) sorted)
    ]

-- ---- segments

abbrev segment : List SegLine × List Place → Segment
segment c = record { zones = c.1; lines = c.0 }

segment_lines : (cs : Classes) → map (λ (s : Segment). s.lines) (segments_of cs) ≡ map (λ c. c.0) cs
segment_lines [] = refl
segment_lines (c ∷ cs) = ap (λ (ls : List (List SegLine)). c.0 ∷ ls) (segment_lines cs)

some_one : (a b : Head) → Some a ≡ Some b → a ≡ b
some_one a b e = cc

before_one : (zs ys : List Place) (ls ms : List SegLine) (k j : Head) → head_of zs ls ≡ Some k → head_of ys ms ≡ Some j → by_head k j ≡ Less → by_segment (segment (ls, zs)) (segment (ms, ys)) ≡ Less
before_one [] ys ls ms k j p q less = cc
before_one (z ∷ zs) ys [] ms k j p q less = cc
before_one (z ∷ zs) [] (l ∷ ls) ms k j p q less = cc
before_one (z ∷ zs) (y ∷ ys) (l ∷ ls) [] k j p q less = cc
before_one (z ∷ zs) (y ∷ ys) (l ∷ ls) (m ∷ ms) k j p q less =
    let mine = some_one (record { zone = z; first = l.event }) k p in
    let other = some_one (record { zone = y; first = m.event }) j q in
    subst (λ (h : Head). by_head h (record { zone = y; first = m.event }) ≡ Less) (sym mine) (subst (λ (h : Head). by_head k h ≡ Less) (sym other) less)

before_all : (c : List SegLine × List Place) (k : Head) (cs : Classes) (ks : List Head) → class_head c ≡ Some k → map class_head cs ≡ map Some ks → AllByRecursion (λ j. by_head k j ≡ Less) ks
    → AllByRecursion (λ (s : Segment). by_segment (segment c) s ≡ Less) (segments_of cs)
before_all c k [] ks head heads above = tt
before_all c k (d ∷ cs) [] head heads above = cc
before_all c k (d ∷ cs) (j ∷ ks) head heads above =
    let parts = head_tail (class_head d) (Some j) (map class_head cs) (map Some ks) heads in
    (before_one c.1 d.1 c.0 d.0 k j head parts.0 above.0, before_all c k cs ks head parts.1 above.1)

segments_ordered : (cs : Classes) (ks : List Head) → map class_head cs ≡ map Some ks → IsStrictlySortedBy by_head ks → IsStrictlySortedBy by_segment (segments_of cs)
unfolding IsStrictlySortedBy
segments_ordered [] ks heads sorted = tt
segments_ordered (c ∷ cs) [] heads sorted = cc
segments_ordered (c ∷ cs) (k ∷ ks) heads sorted =
    let parts = head_tail (class_head c) (Some k) (map class_head cs) (map Some ks) heads in
    (before_all c k cs ks parts.0 parts.1 sorted.0, segments_ordered cs ks parts.1 sorted.1)

module _ (lines : List Line) where
  abbrev hs : Heads
  hs = heads_of (groups_of lines)

  abbrev cs : Classes
  cs = classes_of hs

  headed : AreHeaded hs
  headed h ls has = (head_from lines h ls has).2.1

  led : (g : Group) (ls : List SegLine) → ls ≢ [] → (h : Head) × Leads h g ls
  led g [] some = absurd (some refl)
  led g (l ∷ ls) some = (record { zone = g.zone; first = l.event }, (refl, refl))

  led_some : (h : Head) (ls : List SegLine) → first_event ls ≡ Some h.first → ls ≢ []
  led_some h [] first e = cc
  led_some h (l ∷ ls) first e = cc

  -- a list with zones has lines
  class_some : (c : List SegLine × List Place) → Has cs c → c.0 ≢ []
  class_some c has =
      let some = has_some c.1 (all_at (IsFull same_lines seg_lines_decide pushed) cs c (classes_full hs) has) in
      let r = zone_from hs c.0 some.0 (subst (λ (zs : List Place). Has zs some.0) (class_zones hs c has) some.1) in
      led_some r.0 c.0 (headed r.0 c.0 r.1)

  class_zone_from : (c : List SegLine × List Place) → Has cs c → (z : Place) → Has c.1 z → (g : Group) × (g.zone ≡ z) × (lines_of lines g ≡ c.0)
  class_zone_from c has z zone =
      let r = zone_from hs c.0 z (subst (λ (zs : List Place). Has zs z) (class_zones hs c has) zone) in
      let g = head_from lines r.0 c.0 r.1 in
      (g.0, sym g.2.0 ∙ sym r.2, g.1)

  class_zone_has : (c : List SegLine × List Place) → Has cs c → (z : Place) → (g : Group) × (g.zone ≡ z) × (lines_of lines g ≡ c.0) → Has c.1 z
  class_zone_has c has z r =
      let h = led r.0 c.0 (class_some c has) in
      let zone = zone_has hs h.0 c.0 (head_has lines h.0 c.0 (r.0, r.2, h.1)) in
      subst (λ (zs : List Place). Has zs z) (sym (class_zones hs c has)) (subst (λ (y : Place). Has (zones_of c.0 hs) y) (h.1.0 ∙ r.1) zone)

  class_whole : (g : Group) → lines_of lines g ≢ [] → (s : Segment) × Has (segments_of cs) s × (s.lines ≡ lines_of lines g)
  class_whole g some =
      let ls = lines_of lines g in
      let h = led g ls some in
      let zone = zone_has hs h.0 ls (head_has lines h.0 ls (g, refl, h.1)) in
      let zs = at same_lines seg_lines_decide pushed ls cs in
      let held : Has zs h.0.zone = subst (λ (ys : List Place). Has ys h.0.zone) (sym (class_at hs ls)) zone in
      let entry = at_has same_lines seg_lines_decide pushed cs ls zs refl (not_empty zs h.0.zone held) in
      (segment (ls, zs), has_mapped segment cs (ls, zs) entry, refl)

  -- the steps make the segments of the lines
  pub segments_made : AreSegments lines (segments_of cs)
  segments_made =
      let order = lines_without_zones [] [] hs tt refl headed (heads_rise lines) in
      record {
        zones = λ s has.
            let r = mapped_from segment cs s has in
            subst (λ (t : Segment). (z : Place) → Has t.zones z ↔ ((g : Group) × (g.zone ≡ z) × (lines_of lines g ≡ t.lines))) (sym r.2) (λ z. (class_zone_from r.0 r.1 z, class_zone_has r.0 r.1 z));
        whole = class_whole;
        some = all_from (λ (s : Segment). (s.zones ≢ []) × (s.lines ≢ [])) (segments_of cs) (λ s has.
            let r = mapped_from segment cs s has in
            subst (λ (t : Segment). (t.zones ≢ []) × (t.lines ≢ [])) (sym r.2) (all_at (IsFull same_lines seg_lines_decide pushed) cs r.0 (classes_full hs) r.1, class_some r.0 r.1));
        apart = subst (AllPairs (λ k l. k ≢ l)) (sym (segment_lines cs)) (AllPairs-from_IsDistinct seg_lines_decide _ (classes_distinct hs));
        sorted = all_from (λ (s : Segment). IsStrictlySortedBy by_place s.zones) (segments_of cs) (λ s has.
            let r = mapped_from segment cs s has in
            subst (λ (t : Segment). IsStrictlySortedBy by_place t.zones) (sym r.2) (subst (IsStrictlySortedBy by_place) (sym (class_zones hs r.0 r.1)) (zones_rise r.0.0 hs headed (heads_rise lines))));
        ordered = segments_ordered cs order.0 order.1 order.2;
      }
