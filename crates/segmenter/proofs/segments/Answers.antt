-- The steps make the segments.
use Rattle.std.proofs.Common.{◌≡◌, List, Ok, Err, Result, IfOk, sym, subst, rules}
use Rattle.hazard_types.specs.declared.line.Segment.{Segment}
use Rattle.hazard_types.specs.declared.list.Oom.{Oom}
use Rattle.segmenter.specs.Segments.{AreSegments}
use Rattle.segmenter.specs.Steps.{groups_of, heads_of, classes_of, segments_of}
use Rattle.segmenter.proofs.ClassLemmas.{segments_made}
use Rattle.segmenter.proofs.segments.Goals as goal

of_steps : (P : List Segment → Type 0) (r : Result (List Segment) Oom) (made : List Segment) → P made → IfOk r (λ segments. segments ≡ made) → IfOk r P
of_steps P (Ok segments) made holds is = subst P (sym is) holds
of_steps P (Err e) made holds is = tt

pub returns-then-are_of_one_group : goal.returns-then-are_of_one_group
returns-then-are_of_one_group c =
    let made = segments_of (classes_of (heads_of (groups_of c.args.lines.now))) in
    let steps : IfOk c.segments_of_one.result (λ segments. segments ≡ made) = search rules in
    of_steps (AreSegments c.args.lines.now) c.segments_of_one.result made (segments_made c.args.lines.now) steps

pub returns : goal.returns
returns c =
    let made = segments_of (classes_of (heads_of (groups_of c.args.lines.now))) in
    let steps : IfOk c.segments_of.result (λ segments. segments ≡ made) = search rules in
    of_steps (AreSegments c.args.lines.now) c.segments_of.result made (segments_made c.args.lines.now) steps
