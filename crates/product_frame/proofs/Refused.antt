-- The first fault of a text is what the reader refuses it with.
use Rattle.std.proofs.Common.{◌≡◌, ℕ, suc, ◌+◌, arith, true, false, List, [], ◌∷◌, length, drop, refl, ap, sym, ◌∙◌, subst, Option, Some, None, Result, Ok, Err, inl, inr, cond, ◌⊎◌}
use Rattle.std.specs.Prelude.{slice_index, is_some}
use Rattle.std.proofs.lemmas.Bool.{cases_Bool}
use Rattle.hazard_types.specs.Given.{◌>>=◌}
use Rattle.desk_clock.specs.DayStamps.{IsNear}
use Rattle.product_frame.specs.Text.{starts, starts_from}
use Rattle.product_frame.specs.Parts.{heading_of, is_identifier}
use Rattle.product_frame.specs.Nearness.{is_near}
use Rattle.product_frame.proofs.Nearness.{near_decides}
use Rattle.product_frame.specs.Frames.{line_at, heading_index, first_nonempty_index, find_issue_minute, product_in, or_fault, frame_after_identifier, named, frame_in, frame_from, read_first_frame}
use Rattle.product_frame.specs.Walking.{begun, segments_of}
use Rattle.product_frame.specs.Frame.{FrameOf}
use Rattle.product_frame.specs.Faults.{IsIdentified, HasBadSegment, IsFaultIn, HasFaultyProduct, FrameFaultOf}
use Rattle.product_frame.specs.declared.frame.Heading.{Heading}
use Rattle.product_frame.specs.declared.frame.Frame.{Frame}
use Rattle.product_frame.specs.declared.frame.FrameSegment.{FrameSegment}
use Rattle.product_frame.specs.declared.frame.FrameFault.{FrameFault}
use Rattle.product_frame.specs.declared.frame.FrameFault.TheVariants.{NoHeading, NoIdentifier, NoIssueTime, IssueDisagrees, NoSegmentEnd, BadUgc, BadVtec}
use Rattle.product_frame.proofs.FaultsRead.{fault_walked}
use Rattle.product_frame.proofs.FaultsFound.{walked_fault}
use Rattle.product_frame.proofs.Starts.{later_starts}
use Rattle.product_frame.proofs.Whole.{frame_by, frame_read, read_is_frame}

near_not : (issue : ℕ) (h : Heading) → (IsNear issue h.day → ⊥) → is_near issue h.day ≡ false
near_not issue h apart = elim (cases_Bool (is_near issue h.day)) [
  | inl e ↦ absurd (apart ((near_decides issue h.day).0 e))
  | inr e ↦ e
]

not_near : (issue : ℕ) (h : Heading) → is_near issue h.day ≡ false → IsNear issue h.day → ⊥
not_near issue h e n = let t : is_near issue h.day ≡ true = (near_decides issue h.day).1 n in cc

-- ---- a faulty text is refused

lines_behind : List ℕ → ℕ → List ℕ
lines_behind p k = drop (k + 1) (starts_from 0 p)

segment_refused : (p : List ℕ) (h : Heading) (x : FrameFault) → HasBadSegment p h x → frame_in p h ≡ Err x
unfolding frame_in frame_after_identifier
segment_refused p h x b =
    let near : is_near b.1 h.day ≡ true = (near_decides b.1 h.day).1 b.3 in
    let walked : segments_of p (b.0 + 3) (drop (b.0 + 1) (starts_from 0 p)) ≡ Err x = fault_walked p (drop (b.0 + 1) (starts_from 0 p)) (b.0 + 3 + length (drop (b.0 + 1) (starts_from 0 p))) x b.4 [] [] begun.expiry [] 0 (b.0 + 3) refl in
    let full = b.2.identified.full in
    let named = b.2.identified.named in
    let minute = b.2.minute in
    rw (full, named, minute, near, walked) refl

product_refused : (p : List ℕ) (h : Heading) (x : FrameFault) → IsFaultIn p h x → frame_in p h ≡ Err x
unfolding frame_in frame_after_identifier
product_refused p h NoHeading f = absurd f
product_refused p h NoIdentifier (inl none) = rw none refl
product_refused p h NoIdentifier (inr f) = rw (f.1, f.2) refl
product_refused p h NoIssueTime f =
    let full = f.1.full in
    let named = f.1.named in
    rw (full, named, f.2) refl
product_refused p h IssueDisagrees f =
    let near : is_near f.1 h.day ≡ false = near_not f.1 h f.3 in
    let full = f.2.identified.full in
    let named = f.2.identified.named in
    let minute = f.2.minute in
    rw (full, named, minute, near) refl
product_refused p h (BadUgc n) f = segment_refused p h (BadUgc n) f
product_refused p h (BadVtec n) f = segment_refused p h (BadVtec n) f
product_refused p h (NoSegmentEnd n) f = segment_refused p h (NoSegmentEnd n) f

text_refused : (bytes : List ℕ) (x : FrameFault) → HasFaultyProduct bytes x → read_first_frame bytes ≡ Err x
unfolding read_first_frame frame_from
text_refused bytes x f = rw (f.1, f.3) (product_refused (product_in (drop (slice_index (starts bytes) f.0) bytes)) f.2 x f.4)

pub fault_read : (bytes : List ℕ) (x : FrameFault) → FrameFaultOf bytes x → read_first_frame bytes ≡ Err x
unfolding read_first_frame
fault_read bytes NoHeading f = rw f refl
fault_read bytes NoIdentifier f = text_refused bytes NoIdentifier f
fault_read bytes NoIssueTime f = text_refused bytes NoIssueTime f
fault_read bytes IssueDisagrees f = text_refused bytes IssueDisagrees f
fault_read bytes (BadUgc n) f = text_refused bytes (BadUgc n) f
fault_read bytes (BadVtec n) f = text_refused bytes (BadVtec n) f
fault_read bytes (NoSegmentEnd n) f = text_refused bytes (NoSegmentEnd n) f

-- ---- what is refused is faulty

or_fault_err : {A B : Type 0} (o : Option A) (fault : FrameFault) (f : A → Result B FrameFault) (x : FrameFault) → or_fault o fault f ≡ Err x → ((o ≡ None) × (fault ≡ x)) ⊎ ((a : A) × (o ≡ Some a) × (f a ≡ Err x))
or_fault_err {A} {B} None fault f x e = inl (refl, same fault x e)
  where
    same : (a b : FrameFault) → ◌≡◌ {A = Result B FrameFault} (Err a) (Err b) → a ≡ b
    same a b e = cc e
or_fault_err (Some a) fault f x e = inr (a, refl, e)

same_refusal : (a b : FrameFault) → ◌≡◌ {A = Result Frame FrameFault} (Err a) (Err b) → a ≡ b
same_refusal a b e = cc e

bind_err : (r : Result (List FrameSegment) FrameFault) (f : List FrameSegment → Frame) (x : FrameFault) → (r >>= λ y. Ok (f y)) ≡ Err x → r ≡ Err x
bind_err (Err e) f x h = let same : e ≡ x = same_refusal e x h in ap (λ (y : FrameFault). Err y) same
bind_err (Ok y) f x h = absurd (never (f y) h)
  where
    never : (g : Frame) → ◌≡◌ {A = Result Frame FrameFault} (Ok g) (Err x) → ⊥
    never g e = cc e

of_segment : (p : List ℕ) (h : Heading) (x : FrameFault) → HasBadSegment p h x → IsFaultIn p h x
of_segment p h NoHeading b = b.4.fault
of_segment p h NoIdentifier b = absurd b.4.fault
of_segment p h NoIssueTime b = absurd b.4.fault
of_segment p h IssueDisagrees b = absurd b.4.fault
of_segment p h (BadUgc n) b = b
of_segment p h (BadVtec n) b = b
of_segment p h (NoSegmentEnd n) b = b

behind_faulty : (p : List ℕ) (h : Heading) (t : List ℕ) (k : ℕ) (x : FrameFault) → IsIdentified p k → frame_after_identifier p h t k ≡ Err x → IsFaultIn p h x
unfolding frame_after_identifier
behind_faulty p h t k x i e =
    let later = drop (k + 1) (starts_from 0 p) in
    elim (or_fault_err (find_issue_minute p later) NoIssueTime (λ issue. cond (is_near issue h.day) (segments_of p (k + 3) later >>= λ segments. Ok (frame_by h t issue segments)) (Err IssueDisagrees)) x e) [
      | inl a ↦ subst (IsFaultIn p h) a.1 (k, i, a.0)
      | inr a ↦ elim (cases_Bool (is_near a.0 h.day)) [
        | inl n ↦
            let walked = bind_err (segments_of p (k + 3) later) (λ segments. frame_by h t a.0 segments) x (rw n at a.2) in
            of_segment p h x (k, a.0, record { identified = i; minute = a.1 }, (near_decides a.0 h.day).0 n, walked_fault p later (k + 3 + length later) x [] begun.expiry [] 0 (k + 3) (later_starts p (k + 1)) refl walked)
        | inr n ↦ subst (IsFaultIn p h) (same_refusal IssueDisagrees x (rw n at a.2)) (k, a.0, record { identified = i; minute = a.1 }, not_near a.0 h n)
      ]
    ]

product_faulty : (p : List ℕ) (h : Heading) (x : FrameFault) → frame_in p h ≡ Err x → IsFaultIn p h x
unfolding frame_in
product_faulty p h x e =
    elim (or_fault_err (first_nonempty_index p 0 (starts_from 0 p)) NoIdentifier (λ k. named p h (line_at p (slice_index (starts_from 0 p) k)) k) x e) [
      | inl a ↦ subst (IsFaultIn p h) a.1 (inl a.0)
      | inr a ↦ elim (cases_Bool (is_identifier (line_at p (slice_index (starts_from 0 p) a.0)))) [
        | inl n ↦ behind_faulty p h (line_at p (slice_index (starts_from 0 p) a.0)) a.0 x (record { full = a.1; named = n }) (rw n at a.2)
        | inr n ↦ subst (IsFaultIn p h) (same_refusal NoIdentifier x (rw n at a.2)) (inr (a.0, a.1, n))
      ]
    ]

of_product : (bytes : List ℕ) (x : FrameFault) → HasFaultyProduct bytes x → FrameFaultOf bytes x
of_product bytes NoHeading f = absurd f.4
of_product bytes NoIdentifier f = f
of_product bytes NoIssueTime f = f
of_product bytes IssueDisagrees f = f
of_product bytes (BadUgc n) f = f
of_product bytes (BadVtec n) f = f
of_product bytes (NoSegmentEnd n) f = f

-- the line of this index is a heading
is_heading : (bytes : List ℕ) (i : ℕ) (places : List ℕ) (k : ℕ) → heading_index bytes i places ≡ Some k → (j : ℕ) × (k ≡ i + j) × (is_some (heading_of (line_at bytes (slice_index places j))) ≡ true)
is_heading bytes i [] k e = cc
is_heading bytes i (s ∷ places) k e =
    elim (cases_Bool (is_some (heading_of (line_at bytes s)))) [
      | inl t ↦ let same : i ≡ k = one i k (rw t at e) in (0, omega arith, t)
      | inr f ↦ let r = is_heading bytes (i + 1) places k (rw f at e) in
          let at : k ≡ i + 1 + r.0 = r.1 in
          (r.0 + 1, omega arith, next places s r.0 r.2)
    ]
  where
    one : (a b : ℕ) → ◌≡◌ {A = Option ℕ} (Some a) (Some b) → a ≡ b
    one a b e = cc e

    next : (places : List ℕ) (s j : ℕ) → is_some (heading_of (line_at bytes (slice_index places j))) ≡ true → is_some (heading_of (line_at bytes (slice_index (s ∷ places) (j + 1)))) ≡ true
    next places s j t = let e : j + 1 ≡ suc j = omega arith in rw e t

some_of : {A : Type 0} (o : Option A) → is_some o ≡ true → (a : A) × (o ≡ Some a)
some_of None e = absurd (cc)
some_of (Some a) e = (a, refl)

heading_there : (bytes : List ℕ) (k : ℕ) → heading_index bytes 0 (starts bytes) ≡ Some k → (h : Heading) × (heading_of (line_at bytes (slice_index (starts bytes) k)) ≡ Some h)
heading_there bytes k e =
    let r = is_heading bytes 0 (starts bytes) k e in
    let at : k ≡ 0 + r.0 = r.1 in
    let same : r.0 ≡ k = omega arith in
    some_of _ (subst (λ (j : ℕ). is_some (heading_of (line_at bytes (slice_index (starts bytes) j))) ≡ true) same r.2)

pub refused_is_faulty : (bytes : List ℕ) (x : FrameFault) → read_first_frame bytes ≡ Err x → FrameFaultOf bytes x
unfolding read_first_frame frame_from
refused_is_faulty bytes x e =
    elim (or_fault_err (heading_index bytes 0 (starts bytes)) NoHeading (λ k. frame_from (drop (slice_index (starts bytes) k) bytes)) x e) [
      | inl a ↦ subst (FrameFaultOf bytes) a.1 a.0
      | inr a ↦
          let h = heading_there bytes a.0 a.1 in
          of_product bytes x (a.0, a.1, h.0, h.1, product_faulty (product_in (drop (slice_index (starts bytes) a.0) bytes)) h.0 x (rw h.1 at a.2))
    ]

-- ---- one of the two, with one value

pub frame_or_fault : (bytes : List ℕ) → ((f : Frame) × FrameOf bytes f) ⊎ ((x : FrameFault) × FrameFaultOf bytes x)
frame_or_fault bytes = by (read_first_frame bytes) refl
  where
    by : (r : Result Frame FrameFault) → read_first_frame bytes ≡ r → ((f : Frame) × FrameOf bytes f) ⊎ ((x : FrameFault) × FrameFaultOf bytes x)
    by (Ok f) e = inl (f, read_is_frame bytes f e)
    by (Err x) e = inr (x, refused_is_faulty bytes x e)

pub not_both : (bytes : List ℕ) (f : Frame) (x : FrameFault) → FrameOf bytes f → FrameFaultOf bytes x → ⊥
not_both bytes f x a b = clash f x (sym (frame_read bytes f a) ∙ fault_read bytes x b)
  where
    clash : (f : Frame) (x : FrameFault) → ◌≡◌ {A = Result Frame FrameFault} (Ok f) (Err x) → ⊥
    clash f x e = cc e

pub one_frame : (bytes : List ℕ) (f g : Frame) → FrameOf bytes f → FrameOf bytes g → f ≡ g
one_frame bytes f g a b = same f g (sym (frame_read bytes f a) ∙ frame_read bytes g b)
  where
    same : (f g : Frame) → ◌≡◌ {A = Result Frame FrameFault} (Ok f) (Ok g) → f ≡ g
    same f g e = cc e

pub one_fault : (bytes : List ℕ) (x y : FrameFault) → FrameFaultOf bytes x → FrameFaultOf bytes y → x ≡ y
one_fault bytes x y a b = same_refusal x y (sym (fault_read bytes x a) ∙ fault_read bytes y b)
