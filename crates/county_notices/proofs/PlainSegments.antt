-- The segments of plain lines are plain.
use Rattle.std.proofs.Common.{◌≡◌, ◌≢◌, ◌<◌, ◌≤◌, List, [], ◌∷◌, length, arith, subst, None, refl}
use Rattle.std.specs.List.{All, AllByRecursion}
use Rattle.std.specs.List.Sorted.{IsStrictlySortedBy}
use Rattle.std.proofs.lemmas.List.Elements.{All-from_recursion}
use Rattle.hazard_types.specs.Places.{by_place}
use Rattle.hazard_types.specs.declared.line.Line.{Line}
use Rattle.hazard_types.specs.declared.line.SegLine.{SegLine}
use Rattle.hazard_types.specs.declared.line.Segment.{Segment}
use Rattle.segmenter.specs.Segments.{AreSegments, Has}
use Rattle.segmenter.proofs.HasLemmas.{all_at, all_from, has_some}
use Rattle.segmenter.proofs.LawLemmas.{said}
use Rattle.county_notices.specs.Notices.{IsPlainLine, IsPlainSegment}

some_length : {X : Type 0} (xs : List X) → xs ≢ [] → 0 < length xs
some_length [] h = absurd (h refl)
some_length (x ∷ xs) h = omega arith

abbrev IsPlain : SegLine → Type 0
IsPlain l = (l.event.etn ≤ 9999) × (l.flood ≡ None)

module _ (lines : List Line) (segments : List Segment) (are : AreSegments lines segments) (plain : AllByRecursion IsPlainLine lines) where
  full : (s : Segment) → Has segments s → (s.zones ≢ []) × (s.lines ≢ [])
  full s has = all_at (λ (x : Segment). (x.zones ≢ []) × (x.lines ≢ [])) segments s are.some has

  plain_said : (s : Segment) → Has segments s → (l : SegLine) → Has s.lines l → IsPlain l
  plain_said s has l own =
      let zone = has_some s.zones (full s has).0 in
      let w = (said lines segments are zone.0 l).0 (s, has, zone.1, own) in
      let line : IsPlainLine w.0 = all_at IsPlainLine lines w.0 plain w.1 in
      subst IsPlain w.3 (line.number, line.flood)

  pub plain_segments : All IsPlainSegment segments
  plain_segments = All-from_recursion IsPlainSegment segments (all_from IsPlainSegment segments (λ s has. record {
    some = some_length s.zones (full s has).0;
    order = all_at (λ (x : Segment). IsStrictlySortedBy by_place x.zones) segments s are.sorted has;
    lines = All-from_recursion IsPlain s.lines (all_from IsPlain s.lines (plain_said s has));
  }))
