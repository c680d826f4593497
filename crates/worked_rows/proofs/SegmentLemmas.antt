-- The segments of a plan can be written.
use Rattle.std.proofs.Common.{◌≢◌, ℕ, ◌≤◌, List, [], ap, subst}
use Rattle.std.specs.List.{All, AllByRecursion}
use Rattle.std.specs.List.Sorted.{IsStrictlySortedBy}
use Rattle.std.proofs.lemmas.List.Elements.{All-contains}
use Rattle.hazard_types.specs.Places.{by_place}
use Rattle.hazard_types.specs.declared.line.Line.{Line}
use Rattle.hazard_types.specs.declared.line.SegLine.{SegLine}
use Rattle.hazard_types.specs.declared.line.Segment.{Segment}
use Rattle.segmenter.specs.Segments.{AreSegments, Has}
use Rattle.segmenter.proofs.HasLemmas.{all_at, all_from, has_some}
use Rattle.segmenter.proofs.LawLemmas.{said}
use Rattle.segmenter.proofs.SaidLemmas.{contains_from}
use Rattle.worked_rows.specs.Written.{CanBeWritten}

few_in : (lines : List Line) (segments : List Segment) → AreSegments lines segments → All (λ (line : Line). line.event.etn ≤ 9999) lines → (s : Segment) → Has segments s → (l : SegLine) → Has s.lines l → l.event.etn ≤ 9999
few_in lines segments are few s has l own =
    let full = all_at (λ (x : Segment). (x.zones ≢ []) × (x.lines ≢ [])) segments s are.some has in
    let zone = has_some s.zones full.0 in
    let of_lines = (said lines segments are zone.0 l).0 (s, has, zone.1, own) in
    let line_few : of_lines.0.event.etn ≤ 9999 = All-contains (λ (line : Line). line.event.etn ≤ 9999) lines of_lines.0 few (contains_from lines of_lines.0 of_lines.1) in
    subst (λ (n : ℕ). n ≤ 9999) (ap (λ (k : SegLine). k.event.etn) of_lines.3) line_few

pub can_be_written : (lines : List Line) (segments : List Segment) → AreSegments lines segments → All (λ (line : Line). line.event.etn ≤ 9999) lines → AllByRecursion CanBeWritten segments
can_be_written lines segments are few = all_from CanBeWritten segments (λ s has. (
  (all_at (λ (x : Segment). (x.zones ≢ []) × (x.lines ≢ [])) segments s are.some has).0,
  all_at (λ (x : Segment). IsStrictlySortedBy by_place x.zones) segments s are.sorted has,
  all_from (λ (l : SegLine). l.event.etn ≤ 9999) s.lines (few_in lines segments are few s has),
))
