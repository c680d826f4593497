-- What an answer tells, part by part.
use Rattle.std.proofs.Common.{◌≡◌, ℕ, List, Result, Ok, Err, subst}
use Rattle.std.specs.Prelude.{IfOk}
use Rattle.hazard_types.specs.declared.line.Line.{Line}
use Rattle.hazard_types.specs.declared.line.Segment.{Segment}
use Rattle.product_frame.specs.Frame.{FrameOf}
use Rattle.product_frame.specs.Splitting.{IsOneProduct}
use Rattle.segmenter.specs.Segments.{AreSegments}
use Rattle.notice_json.specs.declared.command.Watch.{Watch}
use Rattle.county_notices.specs.Notices.{IsNotice, frame_of, text_of}
use Rattle.county_notices.specs.declared.issuer.Issuer.{Issuer}

pub retold : {E : Type 0} (r : Result (List ℕ) E) (a b : List ℕ) → a ≡ b → IfOk r (λ text. text ≡ a) → IfOk r (λ text. text ≡ b)
retold r a b same h = subst (λ (x : List ℕ). IfOk r (λ text. text ≡ x)) same h

pub is_notice : {E : Type 0} (by : Issuer) (t : ℕ) (watch : Watch) (lines : List Line) (segments : List Segment) (r : Result (List ℕ) E) → AreSegments lines segments →
    IfOk r (λ text. text ≡ text_of by t watch segments) → IfOk r (λ text. FrameOf text (frame_of by t segments)) → IfOk r IsOneProduct → IfOk r (IsNotice by t watch lines)
is_notice by t watch lines segments (Ok text) are value frame one = record { segments = segments; are = are; value = value; frame = frame; one = one }
is_notice by t watch lines segments (Err e) are value frame one = tt
