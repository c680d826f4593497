-- The segment has the zone of the first line, and all lines in order.
use Rattle.std.proofs.Common.{◌≡◌, ◌∙◌, ◌∷◌, [], List, Ok, Err, Result, IfOk, ap}
use Rattle.hazard_types.specs.declared.line.SegLine.{SegLine}
use Rattle.hazard_types.specs.declared.line.Segment.{Segment}
use Rattle.hazard_types.specs.declared.list.Oom.{Oom}
use Rattle.segmenter.proofs.OneGroupLemmas.{one_segment_of}
use Rattle.segmenter.proofs.one_group.segments_of_one.Goals as goal

on_ok : (r : Result (List Segment) Oom) (made told : List Segment) → made ≡ told → IfOk r (λ segments. segments ≡ made) → IfOk r (λ segments. segments ≡ told)
on_ok (Ok segments) made told same is = is ∙ same
on_ok (Err e) made told same is = tt

pub returns-in_ok-segment-in-len1-up : goal.returns-in_ok-segment-in-len1-up
returns-in_ok-segment-in-len1-up c =
    let one : Segment → List Segment = λ s. s ∷ [] in
    on_ok c.list_of.result _ _
    (ap one (c.in_ok-segment-in-len1-up.ensures ∙ ap (λ (lines : List SegLine). record { zones = c.first-item.result.zone ∷ []; lines = lines }) c.in_ok-ordered-in-len1-up.ensures)
    ∙ one_segment_of c.args.lines.now c.first-item.result c.in-len1-up.len_at_least c.first-item.is c.requires)
    c.list_of.ensures
