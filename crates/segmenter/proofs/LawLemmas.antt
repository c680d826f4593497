-- What segments say, and that lines have one list of them.
use Rattle.std.proofs.Common.{◌≡◌, ◌∙◌, ◌⊎◌, inl, inr, List, [], ◌∷◌, Ordering, Less, Equal, Greater, refl, ap, sym, subst}
use Rattle.std.specs.Prelude.{◌≢◌, ◌↔◌}
use Rattle.std.specs.Cmp.{IsTotalOrder}
use Rattle.std.specs.Cmp.Lexicographic.{options_total}
use Rattle.std.specs.List.{AllByRecursion}
use Rattle.std.specs.List.Sorted.{IsStrictlySortedBy}
use Rattle.std.specs.Ordering.{ordering_reverse}
use Rattle.std.proofs.lemmas.Cmp.{then_total, on_total, tied_itself}
use Rattle.hazard_types.specs.declared.line.Line.{Line}
use Rattle.hazard_types.specs.declared.line.SegLine.{SegLine}
use Rattle.hazard_types.specs.declared.line.Segment.{Segment}
use Rattle.hazard_types.specs.Places.{Place, by_place}
use Rattle.hazard_types.proofs.OrderLaws.{by_place_total, by_event_total}
use Rattle.segmenter.specs.declared.groups.Group.{Group}
use Rattle.segmenter.specs.Groups.{group_of, without_zone, lines_of}
use Rattle.segmenter.specs.Laws.{IsSaid, IsOfLines}
use Rattle.segmenter.specs.Segments.{Has, first_zone, first_event, by_segment, AreSegments}
use Rattle.segmenter.proofs.GroupLemmas.{line_from, line_has}
use Rattle.segmenter.proofs.HasLemmas.{all_at, has_some, not_empty}

-- ---- what is said

said_from : (lines : List Line) (segments : List Segment) → AreSegments lines segments → (z : Place) (l : SegLine) → IsSaid segments z l → IsOfLines lines z l
said_from lines segments are z l (s, has, zone, line) =
    let g = (are.zones s has z).0 zone in
    let r = line_from lines g.0 l (subst (λ (ls : List SegLine). Has ls l) (sym g.2) line) in
    (r.0, r.1, ap (λ (k : Group). k.zone) (sym r.2) ∙ g.1, sym r.3)

said_to : (lines : List Line) (segments : List Segment) → AreSegments lines segments → (z : Place) (l : SegLine) → IsOfLines lines z l → IsSaid segments z l
said_to lines segments are z l (line, stands, zone_is, line_is) =
    let g = group_of line in
    let mine = line_has lines line stands in
    let r = are.whole g (not_empty (lines_of lines g) (without_zone line) mine) in
    let zone = (are.zones r.0 r.1 z).1 (g, zone_is, sym r.2) in
    (r.0, r.1, zone, subst (λ (k : SegLine). Has r.0.lines k) line_is (subst (λ (ls : List SegLine). Has ls (without_zone line)) (sym r.2) mine))

pub said : (lines : List Line) (segments : List Segment) → AreSegments lines segments → (z : Place) (l : SegLine) → IsSaid segments z l ↔ IsOfLines lines z l
said lines segments are z l = (said_from lines segments are z l, said_to lines segments are z l)

-- ---- lists in strict order that have the same items are one list

module _ {K : Type 0} (R : K → K → Ordering) (total : IsTotalOrder R) where
  not_itself : (x y : K) → R x y ≡ Less → x ≡ y → ⊥
  not_itself x y less e = let tied : R x y ≡ Equal = ap (R x) (sym e) ∙ tied_itself total x in cc

  not_both : (x y : K) → R x y ≡ Less → R y x ≡ Less → ⊥
  not_both x y less more = let turned : R x y ≡ Greater = total.antisymm x y ∙ ap ordering_reverse more in cc

  rest_has : (x y : K) (xs ys : List K) → x ≡ y → AllByRecursion (λ z. R x z ≡ Less) xs → ((z : K) → Has (x ∷ xs) z → Has (y ∷ ys) z) → (z : K) → Has xs z → Has ys z
  rest_has x y xs ys same above to z has =
      elim (to z (inr has)) as (λ _. Has ys z) [
        | inl e ↦ absurd (not_itself x z (all_at (λ k. R x k ≡ Less) xs z above has) (same ∙ sym e))
        | inr r ↦ r
      ]

  same_first : (x y : K) (xs ys : List K) → AllByRecursion (λ z. R x z ≡ Less) xs → AllByRecursion (λ z. R y z ≡ Less) ys → (x ≡ y) ⊎ Has ys x → (y ≡ x) ⊎ Has xs y → x ≡ y
  same_first x y xs ys above higher (inl e) other = e
  same_first x y xs ys above higher (inr h) (inl e) = sym e
  same_first x y xs ys above higher (inr h) (inr k) = absurd (not_both x y (all_at (λ z. R x z ≡ Less) xs y above k) (all_at (λ z. R y z ≡ Less) ys x higher h))

  pub same_list : (xs ys : List K) → IsStrictlySortedBy R xs → IsStrictlySortedBy R ys → ((z : K) → Has xs z → Has ys z) → ((z : K) → Has ys z → Has xs z) → xs ≡ ys
  unfolding IsStrictlySortedBy
  same_list [] [] p q to back = refl
  same_list [] (y ∷ ys) p q to back = absurd (back y (inl refl))
  same_list (x ∷ xs) [] p q to back = absurd (to x (inl refl))
  same_list (x ∷ xs) (y ∷ ys) p q to back =
      let first = same_first x y xs ys p.0 q.0 (to x (inl refl)) (back y (inl refl)) in
      let rest = same_list xs ys p.1 q.1 (rest_has x y xs ys first p.0 to) (rest_has y x ys xs (sym first) q.0 back) in
      λ i. first i ∷ rest i

-- ---- one list of segments

by_segment_total : IsTotalOrder by_segment
by_segment_total = then_total (on_total first_zone (options_total by_place_total)) (on_total first_event (options_total by_event_total))

module _ (lines : List Line) where
  parse_zone : (ss ts : List Segment) → AreSegments lines ss → AreSegments lines ts → (s t : Segment) → Has ss s → Has ts t → s.lines ≡ t.lines → (z : Place) → Has s.zones z → Has t.zones z
  parse_zone ss ts p q s t mine other same z zone =
      let g = (p.zones s mine z).0 zone in
      (q.zones t other z).1 (g.0, g.1, g.2 ∙ same)

  segment_in : (ss ts : List Segment) → AreSegments lines ss → AreSegments lines ts → (s : Segment) → Has ss s → Has ts s
  segment_in ss ts p q s mine =
      let full = all_at (λ (x : Segment). (x.zones ≢ []) × (x.lines ≢ [])) ss s p.some mine in
      let zone = has_some s.zones full.0 in
      let g = (p.zones s mine zone.0).0 zone.1 in
      let t = q.whole g.0 (λ e. full.1 (sym g.2 ∙ e)) in
      let lines_are = t.2 ∙ g.2 in
      let zones_are = same_list by_place by_place_total t.0.zones s.zones
      (all_at (λ (x : Segment). IsStrictlySortedBy by_place x.zones) ts t.0 q.sorted t.1)
      (all_at (λ (x : Segment). IsStrictlySortedBy by_place x.zones) ss s p.sorted mine)
      (parse_zone ts ss q p t.0 s t.1 mine lines_are)
      (parse_zone ss ts p q s t.0 mine t.1 (sym lines_are)) in
      let same : t.0 ≡ s = λ i. record { zones = zones_are i; lines = lines_are i } in
      subst (λ (x : Segment). Has ts x) same t.1

  pub segments_alike : (ss ts : List Segment) → AreSegments lines ss → AreSegments lines ts → ss ≡ ts
  segments_alike ss ts p q = same_list by_segment by_segment_total ss ts p.ordered q.ordered (segment_in ss ts p q) (segment_in ts ss q p)
