-- The groups' lists by zone and first event: none is lost, and they are in order.
use Rattle.std.proofs.Common.{◌≡◌, ◌∙◌, ◌⊎◌, inl, inr, List, [], ◌∷◌, Equal, false, map, fold, Option, Some, None, refl, ap, sym, subst, true≢false}
use Rattle.std.specs.Prelude.{◌≢◌}
use Rattle.std.specs.Cmp.{IsTotalOrder}
use Rattle.std.specs.List.{IsDistinct}
use Rattle.std.specs.List.Sorted.{IsStrictlySortedBy}
use Rattle.std.proofs.lemmas.Cmp.{then_total, on_total}
use Rattle.std.proofs.lemmas.Map.Lookups.{exact_pairs}
use Rattle.hazard_types.specs.declared.hazard.Event.{Event}
use Rattle.hazard_types.specs.declared.line.Line.{Line}
use Rattle.hazard_types.specs.declared.line.SegLine.{SegLine}
use Rattle.hazard_types.specs.Orders.{by_event}
use Rattle.hazard_types.specs.Places.{Place, by_place}
use Rattle.hazard_types.proofs.OrderLaws.{by_place_total, by_event_total, by_place_ties, by_event_ties}
use Rattle.segmenter.specs.declared.groups.Group.{Group}
use Rattle.segmenter.specs.declared.groups.Head.{Head}
use Rattle.segmenter.specs.Groups.{flood_event, group_of, same_group, lines_of}
use Rattle.segmenter.specs.Segments.{Has}
use Rattle.segmenter.specs.Steps.{by_head, Groups, Heads, groups_of, add_head, heads_of}
use Rattle.segmenter.proofs.GroupLemmas.{group_decides, line_from, groups_distinct, group_from, group_has}
use Rattle.segmenter.proofs.HasLemmas.{all_at, all_from, has_mapped}
use Rattle.segmenter.proofs.InsertLemmas.{inserted_from, inserted, inserted_rises}

-- ---- the order of heads

pub by_head_total : IsTotalOrder by_head
by_head_total = then_total (on_total (λ (h : Head). h.zone) by_place_total) (on_total (λ (h : Head). h.first) by_event_total)

pub by_head_ties : (a b : Head) → by_head a b ≡ Equal → a ≡ b
by_head_ties a b h = ap (λ (p : Place × Event). record { zone = p.0; first = p.1 }) (exact_pairs by_place by_event by_place_ties by_event_ties (a.zone, a.first) (b.zone, b.first) h)

-- ---- the head of a group

abbrev pub first_event : List SegLine → Option Event
first_event [] = None
first_event (line ∷ lines) = Some line.event

-- the head of a group with these lines
abbrev pub Leads : Head → Group → List SegLine → Type 0
Leads h g ls = (h.zone ≡ g.zone) × (first_event ls ≡ Some h.first)

-- the event of the group is told by the first line
abbrev Fits : Group → List SegLine → Type 0
Fits g [] = Unit {0}
Fits g (line ∷ lines) = g.flood ≡ flood_event line.event

fits : (lines : List Line) (g : Group) (ls : List SegLine) → ((x : SegLine) → Has ls x → (line : Line) × Has lines line × (g ≡ group_of line) × (x.event ≡ line.event)) → Fits g ls
fits lines g [] from = tt
fits lines g (x ∷ xs) from = let r = from x (inl refl) in ap (λ (k : Group). k.flood) r.2 ∙ ap flood_event (sym r.3)

group_fits : (lines : List Line) (g : Group) (ls : List SegLine) → lines_of lines g ≡ ls → Fits g ls
group_fits lines g ls is =
    fits lines g ls (λ x h.
    let r = line_from lines g x (subst (λ (l : List SegLine). Has l x) (sym is) h) in
    (r.0, r.1, r.2, ap (λ (l : SegLine). l.event) r.3))

led_flood : (h : Head) (g : Group) (ls : List SegLine) → Fits g ls → first_event ls ≡ Some h.first → g.flood ≡ flood_event h.first
led_flood h g [] f led = cc
led_flood h g (line ∷ lines) f led = let e : line.event ≡ h.first = cc in f ∙ ap flood_event e

-- a head leads one group
led_once : (h : Head) (g k : Group) (ls ms : List SegLine) → Fits g ls → Fits k ms → Leads h g ls → Leads h k ms → g ≡ k
led_once h g k ls ms f e p q =
    let zone_is = sym p.0 ∙ q.0 in
    let flood_is = led_flood h g ls f p.1 ∙ sym (led_flood h k ms e q.1) in
    λ i. record { zone = zone_is i; flood = flood_is i }

-- ---- one more group

abbrev head : Group → SegLine → Head
head g line = record { zone = g.zone; first = line.event }

added_from : (hs : Heads) (g : Group) (ms : List SegLine) (h : Head) (ls : List SegLine) → Has (add_head hs g ms) (h, ls) → Has hs (h, ls) ⊎ ((ls ≡ ms) × Leads h g ls)
added_from hs g [] h ls has = inl has
added_from hs g (line ∷ lines) h ls has =
    elim (inserted_from by_head by_head_total by_head_ties hs (head g line) (line ∷ lines) (h, ls) has) as (λ _. Has hs (h, ls) ⊎ ((ls ≡ line ∷ lines) × Leads h g ls)) [
      | inl e ↦
          let list_is : ls ≡ line ∷ lines = ap (λ p. p.1) e in
          let head_is : h ≡ head g line = ap (λ p. p.0) e in
          inr (list_is, (ap (λ (k : Head). k.zone) head_is, ap first_event list_is ∙ ap Some (ap (λ (k : Head). k.first) (sym head_is))))
      | inr r ↦ inl r
    ]

added_to : (hs : Heads) (g : Group) (ms : List SegLine) (h : Head) (ls : List SegLine) → ((e : Head × List SegLine) → Has hs e → Leads e.0 g ms → ⊥)
    → Has hs (h, ls) ⊎ ((ls ≡ ms) × Leads h g ls) → Has (add_head hs g ms) (h, ls)
added_to hs g [] h ls new (inl has) = has
added_to hs g [] h ls new (inr r) = let none : first_event ls ≡ None = ap first_event r.0 in let some = r.1.1 in cc
added_to hs g (line ∷ lines) h ls new (inl has) =
    let apart = all_from (λ (e : Head × List SegLine). head g line ≢ e.0) hs (λ e has is. new e has (ap (λ (k : Head). k.zone) (sym is), ap Some (ap (λ (k : Head). k.first) is))) in
    inserted by_head by_head_total by_head_ties hs (head g line) (line ∷ lines) (h, ls) apart (inr has)
added_to hs g (line ∷ lines) h ls new (inr r) =
    let apart = all_from (λ (e : Head × List SegLine). head g line ≢ e.0) hs (λ e has is. new e has (ap (λ (k : Head). k.zone) (sym is), ap Some (ap (λ (k : Head). k.first) is))) in
    let first_is : Some line.event ≡ Some h.first = ap first_event (sym r.0) ∙ r.1.1 in
    let event_is : line.event ≡ h.first = cc in
    let zone_is = r.1.0 in
    let list_is = r.0 in
    let head_is : h ≡ head g line = λ i. record { zone = zone_is i; first = sym event_is i } in
    inserted by_head by_head_total by_head_ties hs (head g line) (line ∷ lines) (h, ls) apart (inl (λ i. (head_is i, list_is i)))

added_rises : (hs : Heads) (g : Group) (ms : List SegLine) → IsStrictlySortedBy by_head (map (λ e. e.0) hs) → IsStrictlySortedBy by_head (map (λ e. e.0) (add_head hs g ms))
added_rises hs g [] sorted = sorted
added_rises hs g (line ∷ lines) sorted = inserted_rises by_head by_head_total by_head_ties hs (head g line) (line ∷ lines) sorted

-- ---- all groups

abbrev all_added : Heads → Groups → Heads
all_added hs gs = fold (λ (so_far : Heads) (e : Group × List SegLine). add_head so_far e.0 e.1) hs gs

all_from_groups : (hs : Heads) (gs : Groups) (h : Head) (ls : List SegLine) → Has (all_added hs gs) (h, ls) → Has hs (h, ls) ⊎ ((g : Group) × Has gs (g, ls) × Leads h g ls)
all_from_groups hs [] h ls has = inl has
all_from_groups hs (e ∷ gs) h ls has =
    elim (all_from_groups (add_head hs e.0 e.1) gs h ls has) as (λ _. Has hs (h, ls) ⊎ ((g : Group) × Has (e ∷ gs) (g, ls) × Leads h g ls)) [
      | inl l ↦ elim (added_from hs e.0 e.1 h ls l) as (λ _. Has hs (h, ls) ⊎ ((g : Group) × Has (e ∷ gs) (g, ls) × Leads h g ls)) [
        | inl o ↦ inl o
        | inr r ↦ let list_is = r.0 in inr (e.0, inl (λ i. (e.0, list_is i)), r.1)
      ]
      | inr r ↦ inr (r.0, inr r.1, r.2)
    ]

all_rise : (hs : Heads) (gs : Groups) → IsStrictlySortedBy by_head (map (λ e. e.0) hs) → IsStrictlySortedBy by_head (map (λ e. e.0) (all_added hs gs))
all_rise hs [] sorted = sorted
all_rise hs (e ∷ gs) sorted = all_rise (add_head hs e.0 e.1) gs (added_rises hs e.0 e.1 sorted)

abbrev group_keys : Groups → List Group
group_keys gs = map (λ e. e.0) gs

-- no head so far leads a group to come
abbrev IsApart : Heads → Groups → Type 0
IsApart hs gs = (e : Head × List SegLine) → Has hs e → (g : Group) (ls : List SegLine) → Has gs (g, ls) → Leads e.0 g ls → ⊥

apart_more : (hs : Heads) (e : Group × List SegLine) (gs : Groups) → IsDistinct same_group (group_keys (e ∷ gs)) → ((g : Group) (ls : List SegLine) → Has (e ∷ gs) (g, ls) → Fits g ls) → IsApart hs (e ∷ gs) → IsApart (add_head hs e.0 e.1) gs
unfolding IsDistinct
apart_more hs e gs distinct fit apart d has g ls later leads =
    elim (added_from hs e.0 e.1 d.0 d.1 has) as (λ _. ⊥) [
      | inl o ↦ apart d o g ls (inr later) leads
      | inr r ↦
          let mine : Leads d.0 e.0 e.1 = subst (λ (l : List SegLine). Leads d.0 e.0 l) r.0 r.1 in
          let same : e.0 ≡ g = led_once d.0 e.0 g e.1 ls (fit e.0 e.1 (inl refl)) (fit g ls (inr later)) mine leads in
          let other : same_group e.0 g ≡ false = all_at (λ (k : Group). same_group e.0 k ≡ false) (group_keys gs) g distinct.0 (has_mapped (λ (x : Group × List SegLine). x.0) gs (g, ls) later) in
          true≢false (sym ((group_decides e.0 g).1 same) ∙ other)
    ]

all_to_groups : (hs : Heads) (gs : Groups) (h : Head) (ls : List SegLine) → IsDistinct same_group (group_keys gs) → ((g : Group) (ms : List SegLine) → Has gs (g, ms) → Fits g ms) → IsApart hs gs
    → Has hs (h, ls) ⊎ ((g : Group) × Has gs (g, ls) × Leads h g ls) → Has (all_added hs gs) (h, ls)
unfolding IsDistinct
all_to_groups hs [] h ls distinct fit apart (inl has) = has
all_to_groups hs [] h ls distinct fit apart (inr r) = absurd r.1
all_to_groups hs (e ∷ gs) h ls distinct fit apart (inl has) =
    all_to_groups (add_head hs e.0 e.1) gs h ls distinct.1 (λ g ms m. fit g ms (inr m)) (apart_more hs e gs distinct fit apart)
    (inl (added_to hs e.0 e.1 h ls (λ d has leads. apart d has e.0 e.1 (inl refl) leads) (inl has)))
all_to_groups hs (e ∷ gs) h ls distinct fit apart (inr (g, inl is, leads)) =
    let list_is : ls ≡ e.1 = ap (λ p. p.1) is in
    let group_is : g ≡ e.0 = ap (λ p. p.0) is in
    all_to_groups (add_head hs e.0 e.1) gs h ls distinct.1 (λ g ms m. fit g ms (inr m)) (apart_more hs e gs distinct fit apart)
    (inl (added_to hs e.0 e.1 h ls (λ d has leads. apart d has e.0 e.1 (inl refl) leads) (inr (list_is, subst (λ (k : Group). Leads h k ls) group_is leads))))
all_to_groups hs (e ∷ gs) h ls distinct fit apart (inr (g, inr has, leads)) =
    all_to_groups (add_head hs e.0 e.1) gs h ls distinct.1 (λ g ms m. fit g ms (inr m)) (apart_more hs e gs distinct fit apart) (inr (g, has, leads))

-- ---- the heads of lines

no_heads : IsStrictlySortedBy by_head []
unfolding IsStrictlySortedBy
no_heads = tt

pub heads_rise : (lines : List Line) → IsStrictlySortedBy by_head (map (λ e. e.0) (heads_of (groups_of lines)))
heads_rise lines = all_rise [] (groups_of lines) no_heads

-- a group with these lines
abbrev pub Stands : List Line → Head → List SegLine → Type 0
Stands lines h ls = (g : Group) × (lines_of lines g ≡ ls) × Leads h g ls

pub head_from : (lines : List Line) (h : Head) (ls : List SegLine) → Has (heads_of (groups_of lines)) (h, ls) → Stands lines h ls
head_from lines h ls has =
    elim (all_from_groups [] (groups_of lines) h ls has) as (λ _. Stands lines h ls) [
      | inl o ↦ absurd o
      | inr r ↦ (r.0, (group_from lines r.0 ls r.1).0, r.2)
    ]

led_some : (h : Head) (ls : List SegLine) → first_event ls ≡ Some h.first → ls ≢ []
led_some h [] led e = cc
led_some h (l ∷ ls) led e = cc

pub head_has : (lines : List Line) (h : Head) (ls : List SegLine) → Stands lines h ls → Has (heads_of (groups_of lines)) (h, ls)
head_has lines h ls r =
    all_to_groups [] (groups_of lines) h ls (groups_distinct lines) (λ g ms has. group_fits lines g ms (group_from lines g ms has).0) (λ e has g ms later leads. has)
    (inr (r.0, group_has lines r.0 ls r.1 (led_some h ls r.2.1), r.2))
