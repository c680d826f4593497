-- The causes of answers exclude each other, but where F1 may stand for F2 or for a rest.
use Rattle.std.proofs.Common.{◌≡◌, ℕ, ◌+◌, ◌<◌, ◌≤◌, ◌⊎◌, inl, inr, Bool, true, false, List, [], length, take, refl, ap, sym, ◌∙◌, subst, arith, Result, Ok, Err, min, nat_le, if◌then◌else◌}
use Rattle.std.proofs.lemmas.List.{length-map, length-take, take_all}
use Rattle.std.proofs.lemmas.Bool.{leb-true, leb-false}
use Rattle.httparse.specs.Grammar.{RequestHead, print_request, ReadsRequest, HasNoRequest, NeverHasRequest, MayBecomeRequest, EndsInTarget}
use Rattle.httparse.specs.Spans.{IsRequestAt, span_bytes, header_bytes, name_and_value}
use Rattle.httparse.specs.declared.spans.HeaderSpan.{HeaderSpan}
use Rattle.httparse.specs.declared.spans.RequestSpans.{RequestSpans}
use Rattle.office_types.specs.declared.refusal.Refusal.{Refusal}
use Rattle.office_types.specs.declared.refusal.Refusal.TheVariants.{BadHead, HeadTooLong}
use Rattle.http_heads.specs.Fields.{Pair}
use Rattle.http_heads.proofs.Sizes.{request_size}
use Rattle.warn_http.specs.Heads.{most_bytes, most_fields, IsHead, IsBadHead, IsTooLong, IsCutHead}
use Rattle.warn_http.specs.Wants.{wanted, wanted_by}
use Rattle.warn_http.specs.Calls.{Called, called, as_read, IsCall, IsRefused, IsCutBody, IsUnfinished, Causes, LiesIn, IsWithin, call_at, posted_in, IsAnswer, RefusedOr, MoreOr}
use Rattle.warn_http.specs.Readings.{Says, pairs_at, wanted_at, answer_to}
use Rattle.warn_http.specs.declared.heads.Head.TheVariants as head_read
use Rattle.warn_http.specs.declared.routes.Aim.{Aim}
use Rattle.warn_http.specs.declared.routes.Aim.TheVariants as aim
use Rattle.warn_http.specs.declared.wants.Wanted.{Wanted}
use Rattle.warn_http.specs.declared.read.HttpRead.{HttpRead}
use Rattle.warn_http.specs.declared.read.HttpRead.TheVariants as read
use Rattle.warn_http.proofs.Fronts.{reads_on, never_on, head_reads, one_head, bad_head, not_too_long}

-- ---- of one head

-- one head wants one thing
same_want : (bytes : List ℕ) (h k : RequestHead) {a b : Result Wanted Refusal} → IsHead bytes h → IsHead bytes k
    → wanted_by h ≡ a → wanted_by k ≡ b → a ≡ b
same_want bytes h k x y e f = sym e ∙ ap wanted_by (one_head bytes h k x y) ∙ f

not_both : {w : Wanted} {f : Refusal} → Ok w ≡ Err f → ⊥
not_both e = cc

pub one_call : (bytes : List ℕ) (c d : Called) → IsCall bytes c → IsCall bytes d → c ≡ d
one_call bytes c d x y =
    let heads = one_head bytes x.head y.head x.stands y.stands in
    let wants : Ok x.wants ≡ Ok y.wants = same_want bytes x.head y.head x.stands y.stands x.asks y.asks in
    let e : x.wants ≡ y.wants = cc in
    x.says ∙ ap (λ (h : RequestHead). called bytes (length (print_request h)) x.wants) heads
    ∙ ap (λ (w : Wanted). called bytes (length (print_request y.head)) w) e ∙ sym y.says

-- a refused call is not taken
pub refused_is_no_call : (bytes : List ℕ) (c : Called) (f : Refusal) → IsCall bytes c → IsRefused bytes f → ⊥
refused_is_no_call bytes c f x (inl bad) = not_both (sym x.asks ∙ bad_head bytes x.head x.stands bad.1)
refused_is_no_call bytes c f x (inr (inl long)) = not_too_long bytes x.head x.stands long.1
refused_is_no_call bytes c f x (inr (inr r)) =
    not_both (same_want bytes x.head r.0 x.stands r.1 x.asks r.2)

pub headless : (bytes : List ℕ) (h : RequestHead) → HasNoRequest bytes → IsHead bytes h → ⊥
headless bytes h none head = let r = head_reads bytes h head in none h r.0 r.1

pub cut_is_no_call : (bytes : List ℕ) (c : Called) → IsCall bytes c → IsUnfinished bytes → ⊥
cut_is_no_call bytes c x (inl cut) = headless bytes x.head cut.0 x.stands
cut_is_no_call bytes c x (inr cut) =
    let heads = one_head bytes x.head cut.head x.stands cut.stands in
    let size : length (print_request x.head) ≡ length (print_request cut.head) = ap (λ (h : RequestHead). length (print_request h)) heads in
    let wants : Ok x.wants ≡ Ok cut.wants = same_want bytes x.head cut.head x.stands cut.stands x.asks cut.asks in
    let e : x.wants ≡ cut.wants = cc in
    let body : x.wants.body ≡ cut.wants.body = ap (λ (w : Wanted). w.body) e in
    let whole = x.whole in
    let short = cut.cut in
    omega arith

-- a head that may still come is told bad only where the bytes end within a target
ends_within : (bytes : List ℕ) → HasNoRequest bytes → MayBecomeRequest bytes → IsBadHead bytes → EndsInTarget bytes
ends_within bytes none (inl may) (inl never) =
    absurd (never may.0 may.1 [] may.2)
ends_within bytes none (inr ends) bad = ends
ends_within bytes none may (inr bad) = absurd (none bad.0 bad.1 bad.2)

cut_head_refused : (bytes : List ℕ) (f : Refusal) → IsCutHead bytes → IsRefused bytes f
    → (f ≡ BadHead) × IsBadHead bytes × EndsInTarget bytes × IsCutHead bytes
cut_head_refused bytes f cut (inl bad) = (bad.0, bad.1, ends_within bytes cut.0 cut.2 bad.1, cut)
cut_head_refused bytes f cut (inr (inl long)) = absurd (short long.1)
  where
    short : IsTooLong bytes → ⊥
    short (inl none) = omega (arith, none.0, cut.1)
    short (inr many) = cut.0 many.0 _ (reads_on most_bytes bytes many.0 many.1 many.2)
cut_head_refused bytes f cut (inr (inr r)) = absurd (headless bytes r.0 cut.0 r.1)

cut_body_refused : (bytes : List ℕ) (f : Refusal) → IsCutBody bytes → IsRefused bytes f → ⊥
cut_body_refused bytes f cut (inl bad) = not_both (sym cut.asks ∙ bad_head bytes cut.head cut.stands bad.1)
cut_body_refused bytes f cut (inr (inl long)) = not_too_long bytes cut.head cut.stands long.1
cut_body_refused bytes f cut (inr (inr r)) = not_both (same_want bytes cut.head r.0 cut.stands r.1 cut.asks r.2)

-- bytes that are no whole call are refused only where they end within a target
pub cut_and_refused : (bytes : List ℕ) (f : Refusal) → IsUnfinished bytes → IsRefused bytes f
    → (f ≡ BadHead) × IsBadHead bytes × EndsInTarget bytes × IsCutHead bytes
cut_and_refused bytes f (inl cut) r = cut_head_refused bytes f cut r
cut_and_refused bytes f (inr cut) r = absurd (cut_body_refused bytes f cut r)

-- what F1 refuses no other rule from F3 on does
bad_refusal : (bytes : List ℕ) (g : Refusal) → IsBadHead bytes → (h : RequestHead) → IsHead bytes h → wanted_by h ≡ Err g → g ≡ BadHead
bad_refusal bytes g bad h head e =
    let both : Err g ≡ Err BadHead = sym e ∙ bad_head bytes h head bad in
    cc

-- two refusals are the same, but where F1 and F2 both hold
pub one_refusal : (bytes : List ℕ) (f g : Refusal) → IsRefused bytes f → IsRefused bytes g
    → (f ≡ g) ⊎ (IsBadHead bytes × IsTooLong bytes
    × (((f ≡ BadHead) × (g ≡ HeadTooLong)) ⊎ ((f ≡ HeadTooLong) × (g ≡ BadHead))))
one_refusal bytes f g (inl a) (inl b) = inl (a.0 ∙ sym b.0)
one_refusal bytes f g (inl a) (inr (inl b)) = inr (a.1, b.1, inl (a.0, b.0))
one_refusal bytes f g (inl a) (inr (inr b)) = inl (a.0 ∙ sym (bad_refusal bytes g a.1 b.0 b.1 b.2))
one_refusal bytes f g (inr (inl a)) (inl b) = inr (b.1, a.1, inr (a.0, b.0))
one_refusal bytes f g (inr (inl a)) (inr (inl b)) = inl (a.0 ∙ sym b.0)
one_refusal bytes f g (inr (inl a)) (inr (inr b)) = absurd (not_too_long bytes b.0 b.1 a.1)
one_refusal bytes f g (inr (inr a)) (inl b) = inl (bad_refusal bytes f b.1 a.0 a.1 a.2 ∙ sym b.0)
one_refusal bytes f g (inr (inr a)) (inr (inl b)) = absurd (not_too_long bytes a.0 a.1 b.1)
one_refusal bytes f g (inr (inr a)) (inr (inr b)) =
    let both : Err f ≡ Err g = same_want bytes a.0 b.0 a.1 b.1 a.2 b.2 in
    let e : f ≡ g = cc in
    inl e

-- ---- an answer that has its cause is the answer

call_answer : (bytes : List ℕ) (answer : HttpRead) → Causes bytes answer → (c : Called) → IsCall bytes c
    → (answer ≡ as_read c) ⊎ (answer ≡ read.OutOfMemory)
call_answer bytes (read.Call call used last) cause c x =
    inl (ap as_read (one_call bytes (record { call = call; posted = posted_in bytes call; used = used; last = last }) c cause x))
call_answer bytes read.More cause c x = absurd (cut_is_no_call bytes c x cause)
call_answer bytes (read.Refused f) cause c x = absurd (refused_is_no_call bytes c f x cause)
call_answer bytes read.OutOfMemory cause c x = inr refl

refused_answer : (bytes : List ℕ) (answer : HttpRead) → Causes bytes answer → (f : Refusal) → IsRefused bytes f
    → RefusedOr bytes f answer ⊎ (answer ≡ read.OutOfMemory)
refused_answer bytes (read.Call call used last) cause f x =
    absurd (refused_is_no_call bytes (record { call = call; posted = posted_in bytes call; used = used; last = last }) f cause x)
refused_answer bytes read.More cause f x =
    let u = cut_and_refused bytes f cause x in inl (inr (inr (u.0, u.2, u.3, refl)))
refused_answer bytes (read.Refused g) cause f x = inl (of (one_refusal bytes g f cause x))
  where
    of : (g ≡ f) ⊎ (IsBadHead bytes × IsTooLong bytes
        × (((g ≡ BadHead) × (f ≡ HeadTooLong)) ⊎ ((g ≡ HeadTooLong) × (f ≡ BadHead))))
        → RefusedOr bytes f (read.Refused g)
    of (inl same) = inl (ap read.Refused same)
    of (inr (bad, long, inl e)) = inr (inl (bad, long, inl (ap read.Refused e.0)))
    of (inr (bad, long, inr e)) = inr (inl (bad, long, inr (ap read.Refused e.0)))
refused_answer bytes read.OutOfMemory cause f x = inr refl

more_answer : (bytes : List ℕ) (answer : HttpRead) → Causes bytes answer → IsUnfinished bytes
    → MoreOr bytes answer ⊎ (answer ≡ read.OutOfMemory)
more_answer bytes (read.Call call used last) cause x =
    absurd (cut_is_no_call bytes (record { call = call; posted = posted_in bytes call; used = used; last = last }) cause x)
more_answer bytes read.More cause x = inl (inl refl)
more_answer bytes (read.Refused f) cause x =
    let u = cut_and_refused bytes f x cause in inl (inr (u.2, u.1, ap read.Refused u.0))
more_answer bytes read.OutOfMemory cause x = inr refl

lies : (asks : Aim) (size body used : ℕ) → used ≡ size + body → LiesIn used (call_at asks size body)
lies aim.Post size body used e = (omega arith, omega arith)
lies (aim.Look query) size body used e = tt

within_answer : (bytes : List ℕ) (answer : HttpRead) → Causes bytes answer → IsWithin bytes answer
within_answer bytes (read.Call call used last) cause =
    let size : ℕ = length (print_request cause.head) in
    let takes : used ≡ size + cause.wants.body = ap (λ (c : Called). c.used) cause.says in
    let some = request_size cause.head cause.stands.reads.0.fields in
    let whole = cause.whole in (
      omega arith,
      omega arith,
      subst (LiesIn used) (sym (ap (λ (c : Called). c.call) cause.says)) (lies cause.wants.aim size cause.wants.body used takes),
    )
within_answer bytes read.More cause = tt
within_answer bytes (read.Refused f) cause = tt
within_answer bytes read.OutOfMemory cause = tt

pub answers : (bytes : List ℕ) (answer : HttpRead) → Causes bytes answer → IsAnswer bytes answer
answers bytes answer cause = record {
  cause = cause;
  call = call_answer bytes answer cause;
  refused = refused_answer bytes answer cause;
  more = more_answer bytes answer cause;
  within = within_answer bytes answer cause;
}

-- ---- a whole head

whole_cause : (bytes : List ℕ) (h : RequestHead) → IsHead bytes h → (w : Result Wanted Refusal) → wanted_by h ≡ w
    → Causes bytes (answer_to (length (print_request h)) (length bytes) w)
whole_cause bytes h head (Err f) e = inr (inr (h, head, e))
whole_cause bytes h head (Ok wants) e = of (nat_le (length (print_request h) + wants.body) (length bytes)) refl
  where
    of : (b : Bool) → nat_le (length (print_request h) + wants.body) (length bytes) ≡ b
        → Causes bytes (if b then read.Call (call_at wants.aim (length (print_request h)) wants.body) (length (print_request h) + wants.body) wants.last else read.More)
    of true fits = record { head = h; wants = wants; stands = head; asks = e; whole = leb-true _ _ fits; says = refl }
    of false fits = inr (record { head = h; wants = wants; stands = head; asks = e; cut = leb-false _ _ fits })

pub few_fields : (front : List ℕ) (headers : List HeaderSpan) (spans : RequestSpans) (h : RequestHead)
    → IsRequestAt front headers spans h → spans.headers ≤ most_fields → length h.fields ≤ most_fields
few_fields front headers spans h at few =
    let e = ap length at.fields in
    omega (
      arith,
      few,
      sym (length-map (take spans.headers headers) (header_bytes front)) ∙ e ∙ length-map h.fields name_and_value,
      length-take spans.headers headers,
    )

pub spans_cause : (bytes : List ℕ) (headers : List HeaderSpan) (spans : RequestSpans) (h : RequestHead)
    → IsRequestAt (take most_bytes bytes) headers spans h → spans.headers ≤ most_fields
    → Causes bytes (answer_to spans.len (length bytes) (wanted_at (take most_bytes bytes) headers spans))
spans_cause bytes headers spans h at few =
    let front = take most_bytes bytes in
    let head : IsHead bytes h =
    record { rest = _; reads = at.reads; few = few_fields front headers spans h at few } in
    let same : wanted_at front headers spans ≡ wanted_by h =
    ap (λ (m : List ℕ). wanted m (span_bytes front spans.path) spans.version (pairs_at front headers spans)) at.method
    ∙ ap (λ (p : List ℕ). wanted h.method p spans.version (pairs_at front headers spans)) at.path
    ∙ ap (λ (n : ℕ). wanted h.method h.target n (pairs_at front headers spans)) at.version
    ∙ ap (λ (f : List Pair). wanted h.method h.target h.minor f) at.fields in
    rw (same, at.len) (whole_cause bytes h head (wanted_by h) refl)

-- ---- the answers to a head, read from the first bytes

front_size : (bytes front : List ℕ) → front ≡ take most_bytes bytes → length front ≡ min most_bytes (length bytes)
front_size bytes front is = ap length is ∙ length-take most_bytes bytes

pub whole_answer : (bytes front : List ℕ) (headers : List HeaderSpan) (spans : RequestSpans) (answer : HttpRead)
    → front ≡ take most_bytes bytes → Says front headers (head_read.Whole spans)
    → answer ≡ answer_to spans.len (length bytes) (wanted_at front headers spans)
    → IsAnswer bytes answer
whole_answer bytes front headers spans answer is says e =
    let at : IsRequestAt (take most_bytes bytes) headers spans says.0.0 =
    subst (λ (b : List ℕ). IsRequestAt b headers spans says.0.0) is says.0.1 in
    let f : answer ≡ answer_to spans.len (length bytes) (wanted_at (take most_bytes bytes) headers spans) =
    e ∙ ap (λ (b : List ℕ). answer_to spans.len (length bytes) (wanted_at b headers spans)) is in
    answers bytes answer (subst (Causes bytes) (sym f) (spans_cause bytes headers spans says.0.0 at says.2))

pub more_answer_to : (bytes front : List ℕ) (headers : List HeaderSpan) → front ≡ take most_bytes bytes
    → Says front headers head_read.More → IsAnswer bytes read.More
more_answer_to bytes front headers is says =
    let size = front_size bytes front is in
    let le : length bytes ≤ most_bytes = omega (arith, size, says.1) in
    let all : front ≡ bytes = is ∙ take_all most_bytes bytes le in
    answers bytes read.More (inl (subst (λ (b : List ℕ). HasNoRequest b × (length b < most_bytes) × MayBecomeRequest b) all says))

pub bad_answer : (bytes front : List ℕ) (headers : List HeaderSpan) → front ≡ take most_bytes bytes
    → Says front headers head_read.Bad → IsAnswer bytes (read.Refused BadHead)
bad_answer bytes front headers is says =
    answers bytes (read.Refused BadHead)
    (inl (refl, inl (never_on most_bytes bytes (subst NeverHasRequest is says))))

long_bytes : (bytes front : List ℕ) (headers : List HeaderSpan) → front ≡ take most_bytes bytes
    → Says front headers head_read.TooLong → IsTooLong bytes
long_bytes bytes front headers is (inl many) =
    inr (many.0, many.1, subst (λ (b : List ℕ). ReadsRequest b many.0 many.1) is many.2, many.3)
long_bytes bytes front headers is (inr none) =
    let size = front_size bytes front is in
    inl (omega (arith, size, none.0), subst HasNoRequest is none.1)

pub long_answer : (bytes front : List ℕ) (headers : List HeaderSpan) → front ≡ take most_bytes bytes
    → Says front headers head_read.TooLong → IsAnswer bytes (read.Refused HeadTooLong)
long_answer bytes front headers is says =
    answers bytes (read.Refused HeadTooLong) (inr (inl (refl, long_bytes bytes front headers is says)))
