-- The frame of a text is what is read.
use Rattle.std.proofs.Common.{◌≡◌, ℕ, ◌+◌, true, List, [], drop, refl, ap, sym, ◌∙◌, subst, Option, Some, None, Result, Ok, Err, inl, inr, cond}
use Rattle.std.specs.Prelude.{slice_index}
use Rattle.std.proofs.lemmas.Bool.{cases_Bool}
use Rattle.hazard_types.specs.Given.{◌>>=◌}
use Rattle.product_frame.specs.Text.{starts, starts_from, line_of}
use Rattle.product_frame.specs.Parts.{heading_of, is_identifier}
use Rattle.product_frame.specs.Nearness.{is_near}
use Rattle.product_frame.proofs.Nearness.{near_decides}
use Rattle.product_frame.specs.Frames.{line_at, heading_index, first_nonempty_index, find_issue_minute, product_in, or_fault, frame_after_identifier, named, frame_in, frame_from, read_first_frame}
use Rattle.product_frame.specs.Walking.{begun, segments_of}
use Rattle.product_frame.specs.Frame.{IsFrameIn, FrameOf}
use Rattle.product_frame.specs.declared.frame.Heading.{Heading}
use Rattle.product_frame.specs.declared.frame.Frame.{Frame}
use Rattle.product_frame.specs.declared.frame.FrameSegment.{FrameSegment}
use Rattle.product_frame.specs.declared.frame.FrameFault.{FrameFault}
use Rattle.product_frame.specs.declared.frame.FrameFault.TheVariants.{NoHeading, NoIdentifier, NoIssueTime, IssueDisagrees}
use Rattle.product_frame.proofs.Segments.{segments_walked}
use Rattle.product_frame.proofs.Found.{walked_segments}

pub frame_read : (bytes : List ℕ) (f : Frame) → FrameOf bytes f → read_first_frame bytes ≡ Ok f
unfolding read_first_frame frame_from frame_in frame_after_identifier
frame_read bytes f is =
    let p = product_in (drop (slice_index (starts bytes) is.index) bytes) in
    let i = is.frame in
    let line : is_identifier (line_at p (slice_index (starts_from 0 p) i.index)) ≡ true = ap is_identifier (sym i.identifier) ∙ i.named in
    let walked : segments_of p (i.index + 3) (drop (i.index + 1) (starts_from 0 p)) ≡ Ok f.segments = segments_walked p (drop (i.index + 1) (starts_from 0 p)) f.segments i.segments [] [] begun.expiry [] 0 (i.index + 3) in
    let near : is_near f.issue f.heading.day ≡ true = (near_decides f.issue f.heading.day).1 i.agrees in
    rw (is.begins, is.heading, i.full, line, i.issue, near, walked) (ap (λ (t : List ℕ). Ok (record { heading = f.heading; identifier = t; issue = f.issue; segments = f.segments })) (sym i.identifier))

pub or_fault_ok : {A B : Type 0} (o : Option A) (fault : FrameFault) (f : A → Result B FrameFault) (y : B) → or_fault o fault f ≡ Ok y → (x : A) × (o ≡ Some x) × (f x ≡ Ok y)
or_fault_ok None fault f y h = cc
or_fault_ok (Some x) fault f y h = (x, refl, h)

bind_ok : {A B : Type 0} (r : Result A FrameFault) (f : A → Result B FrameFault) (y : B) → (r >>= f) ≡ Ok y → (x : A) × (r ≡ Ok x) × (f x ≡ Ok y)
bind_ok (Err e) f y h = cc
bind_ok (Ok x) f y h = (x, refl, h)

same_frame : (a b : Frame) → ◌≡◌ {A = Result Frame FrameFault} (Ok a) (Ok b) → a ≡ b
same_frame a b e = cc e

never : (f : FrameFault) (out : Frame) → ◌≡◌ {A = Result Frame FrameFault} (Err f) (Ok out) → ⊥
never f out e = cc e

abbrev pub frame_by : Heading → List ℕ → ℕ → List FrameSegment → Frame
frame_by h t m gs = record { heading = h; identifier = t; issue = m; segments = gs }

behind_is : (p : List ℕ) (h : Heading) (t : List ℕ) (k : ℕ) (f : Frame) → frame_after_identifier p h t k ≡ Ok f →
    (issue : ℕ) × (segments : List FrameSegment) × (find_issue_minute p (drop (k + 1) (starts_from 0 p)) ≡ Some issue) × (is_near issue h.day ≡ true) × (segments_of p (k + 3) (drop (k + 1) (starts_from 0 p)) ≡ Ok segments) × (frame_by h t issue segments ≡ f)
unfolding frame_after_identifier
behind_is p h t k f e =
    let later = drop (k + 1) (starts_from 0 p) in
    let rest = λ (issue : ℕ). cond (is_near issue h.day) (segments_of p (k + 3) (drop (k + 1) (starts_from 0 p)) >>= λ segments. Ok (frame_by h t issue segments)) (Err IssueDisagrees) in
    let a = or_fault_ok (find_issue_minute p later) NoIssueTime rest f e in
    elim (cases_Bool (is_near a.0 h.day)) [
      | inl n ↦
          let b = bind_ok (segments_of p (k + 3) later) (λ segments. Ok (frame_by h t a.0 segments)) f (rw n at a.2) in
          (a.0, b.0, a.1, n, b.1, same_frame (frame_by h t a.0 b.0) f b.2)
      | inr n ↦ absurd (never IssueDisagrees f (rw n at a.2))
    ]

frame_in_is : (p : List ℕ) (h : Heading) (f : Frame) → frame_in p h ≡ Ok f → IsFrameIn p f × (h ≡ f.heading)
unfolding frame_in
frame_in_is p h f e =
    let b = or_fault_ok (first_nonempty_index p 0 (starts_from 0 p)) NoIdentifier (λ k. named p h (line_at p (slice_index (starts_from 0 p) k)) k) f e in
    let t = line_at p (slice_index (starts_from 0 p) b.0) in
    elim (cases_Bool (is_identifier t)) [
      | inl n ↦
          let c = behind_is p h t b.0 f (rw n at b.2) in (
            subst (IsFrameIn p) c.5 (record {
              index = b.0;
              full = b.1;
              identifier = refl;
              named = n;
              issue = c.2;
              agrees = (near_decides _ _).0 c.3;
              segments = walked_segments p (drop (b.0 + 1) (starts_from 0 p)) c.1 [] begun.expiry [] 0 (b.0 + 3) c.4;
            }),
            ap (λ (g : Frame). g.heading) c.5,
          )
      | inr n ↦ absurd (never NoIdentifier f (rw n at b.2))
    ]

pub read_is_frame : (bytes : List ℕ) (f : Frame) → read_first_frame bytes ≡ Ok f → FrameOf bytes f
unfolding read_first_frame frame_from
read_is_frame bytes f e =
    let a = or_fault_ok (heading_index bytes 0 (starts bytes)) NoHeading (λ k. frame_from (drop (slice_index (starts bytes) k) bytes)) f e in
    let rest = drop (slice_index (starts bytes) a.0) bytes in
    let b = or_fault_ok (heading_of (line_of rest)) NoHeading (λ h. frame_in (product_in rest) h) f a.2 in
    let c = frame_in_is (product_in rest) b.0 f b.2 in
    record { index = a.0; begins = a.1; heading = b.1 ∙ ap (λ (h : Heading). Some h) c.1; frame = c.0 }
