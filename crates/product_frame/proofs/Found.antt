-- What was walked over has its segments in the grammar.
use Rattle.std.proofs.Common.{◌≡◌, ℕ, zero, suc, ◌+◌, ◌-◌, ◌==◌, true, false, List, [], ◌∷◌, ◌++◌, take, drop, refl, ap, sym, ◌∙◌, arith, append_assoc, append-nil, subst, Option, Some, None, Result, Ok, Err, inl, inr}
use Rattle.std.proofs.lemmas.Bool.{cases_Bool, ne_eqb}
use Rattle.hazard_types.specs.Given.{◌>>=◌}
use Rattle.hazard_types.specs.Places.{Place}
use Rattle.hazard_types.specs.declared.calendar.DayStamp.{DayStamp}
use Rattle.ugc_codes.specs.Reading.{ugc_of}
use Rattle.ugc_codes.specs.declared.read.UgcRead.{UgcRead}
use Rattle.ugc_codes.specs.declared.read.UgcFault.{UgcFault}
use Rattle.product_frame.specs.Text.{line_of, is_empty, line_end_count}
use Rattle.product_frame.specs.Parts.{begins, has_slash, is_end}
use Rattle.product_frame.specs.Events.{parse_pair}
use Rattle.product_frame.specs.declared.frame.Pair.{Pair}
use Rattle.product_frame.specs.Frames.{line_at}
use Rattle.product_frame.specs.Walking.{take_line_outside, open_by, take_line_at_pairs, take_line_at_rest, paired, next_at, ahead, step, walk}
use Rattle.product_frame.specs.Grammar.{AreSegments}
use Rattle.product_frame.specs.declared.frame.FrameSegment.{FrameSegment}
use Rattle.product_frame.specs.declared.frame.FrameFault.{FrameFault}
use Rattle.product_frame.specs.declared.frame.FrameFault.TheVariants.{BadUgc, BadVtec, NoSegmentEnd}
use Rattle.product_frame.specs.declared.walk.Stage.{Stage}
use Rattle.product_frame.specs.declared.walk.Stage.TheVariants.{Outside, Pairs, Rest}
use Rattle.product_frame.proofs.SegmentEnds.{RestEnds, SegmentEnds, made, end_here, end_later, only_rest, pair_more, ugc_more, segment_here, segment_more}
use Rattle.product_frame.proofs.Segments.{state}

abbrev pub Out : Type 0
Out = List FrameSegment

never : (f : FrameFault) (out : Out) → ◌≡◌ {A = Result Out FrameFault} (Err f) (Ok out) → ⊥
never f out e = cc e

same_out : (a b : Out) → ◌≡◌ {A = Result Out FrameFault} (Ok a) (Ok b) → a ≡ b
same_out a b e = cc e

pub record InRest (bytes lines : List ℕ) (out gs : Out) (zs : List Place) (d : DayStamp) (ps : List Pair) : Type 0 where
  pub ends : RestEnds bytes lines
  pub segments : Out
  pub then : AreSegments bytes ends.later segments
  pub is : out ≡ gs ++ made zs d ps ∷ segments

pub record InPairs (bytes lines : List ℕ) (out gs : Out) (zs : List Place) (d : DayStamp) (ps : List Pair) (left : ℕ) : Type 0 where
  pub ends : SegmentEnds bytes lines left
  pub segments : Out
  pub then : AreSegments bytes ends.rest.later segments
  pub is : out ≡ gs ++ made zs d (ps ++ ends.pairs) ∷ segments

pub record InNone (bytes lines : List ℕ) (out gs : Out) : Type 0 where
  pub segments : Out
  pub then : AreSegments bytes lines segments
  pub is : out ≡ gs ++ segments

-- what is left of a walk that ends well; no lines of a UGC are left in other stages
abbrev pub Sound : List ℕ → List ℕ → Out → Out → List Place → DayStamp → List Pair → Stage → ℕ → Type 0
Sound bytes lines out gs zs d ps Outside zero = InNone bytes lines out gs
Sound bytes lines out gs zs d ps Outside (suc k) = Unit {0}
Sound bytes lines out gs zs d ps Pairs left = InPairs bytes lines out gs zs d ps left
Sound bytes lines out gs zs d ps Rest zero = InRest bytes lines out gs zs d ps
Sound bytes lines out gs zs d ps Rest (suc k) = Unit {0}

one_more : (bytes lines : List ℕ) (s : ℕ) (segments : Out) → begins (line_at bytes s) ≡ false → AreSegments bytes lines segments → AreSegments bytes (s ∷ lines) segments
one_more bytes lines s [] b h = (b, h)
one_more bytes lines s (g ∷ segments) b h = (h.0, segment_more bytes lines s g h.0 b h.1, h.2)

-- a segment that begins here
begun_here : (bytes lines : List ℕ) (out gs : Out) (s : ℕ) (u : UgcRead) → begins (line_at bytes s) ≡ true → ugc_of (drop s bytes) ≡ Ok u → is_empty (line_of (drop u.used (drop s bytes))) ≡ true →
    InPairs bytes lines out gs u.zones u.expiry [] (line_end_count (take u.used (drop s bytes))) → InNone bytes (s ∷ lines) out gs
begun_here bytes lines out gs s u b read fills p = record { segments = made u.zones u.expiry p.ends.pairs ∷ p.segments; then = (p.ends.rest.later, segment_here bytes lines s u b read fills p.ends, p.then); is = p.is }

at_end : (bytes lines : List ℕ) (out gs : Out) (zs : List Place) (d : DayStamp) (ps : List Pair) (s : ℕ) → is_end (line_at bytes s) ≡ true → InNone bytes lines out (gs ++ made zs d ps ∷ []) → InRest bytes (s ∷ lines) out gs zs d ps
at_end bytes lines out gs zs d ps s e n = record { ends = end_here bytes lines s e; segments = n.segments; then = n.then; is = n.is ∙ append_assoc gs (made zs d ps ∷ []) n.segments }

not_end : (bytes lines : List ℕ) (out gs : Out) (zs : List Place) (d : DayStamp) (ps : List Pair) (s : ℕ) → is_end (line_at bytes s) ≡ false → InRest bytes lines out gs zs d ps → InRest bytes (s ∷ lines) out gs zs d ps
not_end bytes lines out gs zs d ps s e r = record { ends = end_later bytes lines s e r.ends; segments = r.segments; then = r.then; is = r.is }

-- the events end here
no_event : (bytes lines : List ℕ) (out gs : Out) (zs : List Place) (d : DayStamp) (ps : List Pair) (s : ℕ) → has_slash (line_at bytes s) ≡ false → InRest bytes (s ∷ lines) out gs zs d ps → InPairs bytes (s ∷ lines) out gs zs d ps 0
no_event bytes lines out gs zs d ps s no_slash r = record { ends = only_rest bytes lines s no_slash r.ends; segments = r.segments; then = r.then; is = r.is ∙ ap (λ (p : List Pair). gs ++ made zs d p ∷ r.segments) (sym (append-nil ps)) }

one_event : (bytes lines : List ℕ) (out gs : Out) (zs : List Place) (d : DayStamp) (ps : List Pair) (s : ℕ) (v : Pair) → parse_pair (line_at bytes s) (next_at bytes lines) ≡ Some v →
    InPairs bytes lines out gs zs d (ps ++ v ∷ []) (ahead v.flood) → InPairs bytes (s ∷ lines) out gs zs d ps 0
one_event bytes lines out gs zs d ps s v is p = record { ends = pair_more bytes lines s v is p.ends; segments = p.segments; then = p.then; is = p.is ∙ ap (λ (q : List Pair). gs ++ made zs d q ∷ p.segments) (append_assoc ps (v ∷ []) p.ends.pairs) }

one_skipped : (bytes lines : List ℕ) (out gs : Out) (zs : List Place) (d : DayStamp) (ps : List Pair) (s k : ℕ) → InPairs bytes lines out gs zs d ps k → InPairs bytes (s ∷ lines) out gs zs d ps (suc k)
one_skipped bytes lines out gs zs d ps s k p = record { ends = ugc_more bytes lines s k p.ends; segments = p.segments; then = p.then; is = p.is }

abbrev pub Later : List ℕ → List ℕ → Out → Type 0
Later bytes lines out = (gs : Out) (zs : List Place) (d : DayStamp) (ps : List Pair) (first left number : ℕ) (stage : Stage) → walk bytes (state gs zs d ps first left stage) number lines ≡ Ok out → Sound bytes lines out gs zs d ps stage left

rest_line : (bytes lines : List ℕ) (out gs : Out) (zs : List Place) (d : DayStamp) (ps : List Pair) (first number s : ℕ) (stage : Stage) → Later bytes lines out →
    (take_line_at_rest (state gs zs d ps first 0 stage) (line_at bytes s) >>= λ v. walk bytes v (number + 1) lines) ≡ Ok out → InRest bytes (s ∷ lines) out gs zs d ps
rest_line bytes lines out gs zs d ps first number s stage later h =
    elim (cases_Bool (is_end (line_at bytes s))) [
      | inl e ↦ at_end bytes lines out gs zs d ps s e (later (gs ++ made zs d ps ∷ []) [] d [] first 0 (number + 1) Outside (rw e at h))
      | inr e ↦ not_end bytes lines out gs zs d ps s e (later gs zs d ps first 0 (number + 1) Rest (rw e at h))
    ]

event_line : (bytes lines : List ℕ) (out gs : Out) (zs : List Place) (d : DayStamp) (ps : List Pair) (first number s : ℕ) → Later bytes lines out → (r : Option Pair) → parse_pair (line_at bytes s) (next_at bytes lines) ≡ r →
    (paired (state gs zs d ps first 0 Pairs) number r >>= λ v. walk bytes v (number + 1) lines) ≡ Ok out → InPairs bytes (s ∷ lines) out gs zs d ps 0
event_line bytes lines out gs zs d ps first number s later None is h = absurd (never (BadVtec number) out h)
event_line bytes lines out gs zs d ps first number s later (Some v) is h = one_event bytes lines out gs zs d ps s v is (later gs zs d (ps ++ v ∷ []) first (ahead v.flood) (number + 1) Pairs h)

pair_line : (bytes lines : List ℕ) (out gs : Out) (zs : List Place) (d : DayStamp) (ps : List Pair) (first number s : ℕ) → Later bytes lines out →
    (take_line_at_pairs (state gs zs d ps first 0 Pairs) number (line_at bytes s) (next_at bytes lines) >>= λ v. walk bytes v (number + 1) lines) ≡ Ok out → InPairs bytes (s ∷ lines) out gs zs d ps 0
pair_line bytes lines out gs zs d ps first number s later h =
    elim (cases_Bool (has_slash (line_at bytes s))) [
      | inl e ↦ event_line bytes lines out gs zs d ps first number s later (parse_pair (line_at bytes s) (next_at bytes lines)) refl (rw e at h)
      | inr e ↦ no_event bytes lines out gs zs d ps s e (rest_line bytes lines out gs zs d ps first number s Pairs later (rw e at h))
    ]

ugc_line : (bytes lines : List ℕ) (out gs : Out) (zs : List Place) (d : DayStamp) (ps : List Pair) (first number s : ℕ) → Later bytes lines out → begins (line_at bytes s) ≡ true → (r : Result UgcRead UgcFault) → ugc_of (drop s bytes) ≡ r →
    (open_by (state gs zs d ps first 0 Outside) number (drop s bytes) r >>= λ v. walk bytes v (number + 1) lines) ≡ Ok out → InNone bytes (s ∷ lines) out gs
ugc_line bytes lines out gs zs d ps first number s later b (Err f) is h = absurd (never (BadUgc number) out h)
ugc_line bytes lines out gs zs d ps first number s later b (Ok u) is h =
    elim (cases_Bool (is_empty (line_of (drop u.used (drop s bytes))))) [
      | inl e ↦ begun_here bytes lines out gs s u b is e (later gs u.zones u.expiry [] number (line_end_count (take u.used (drop s bytes))) (number + 1) Pairs (rw e at h))
      | inr e ↦ absurd (never (BadUgc number) out (rw e at h))
    ]

outside_line : (bytes lines : List ℕ) (out gs : Out) (zs : List Place) (d : DayStamp) (ps : List Pair) (first number s : ℕ) → Later bytes lines out →
    (take_line_outside (state gs zs d ps first 0 Outside) number (drop s bytes) >>= λ v. walk bytes v (number + 1) lines) ≡ Ok out → InNone bytes (s ∷ lines) out gs
unfolding take_line_outside
outside_line bytes lines out gs zs d ps first number s later h =
    elim (cases_Bool (begins (line_at bytes s))) [
      | inl e ↦ ugc_line bytes lines out gs zs d ps first number s later e (ugc_of (drop s bytes)) refl (rw e at h)
      | inr e ↦ let n : InNone bytes lines out gs = later gs zs d ps first 0 (number + 1) Outside (rw e at h) in
          record { segments = n.segments; then = one_more bytes lines s n.segments e n.then; is = n.is }
    ]

sound : (bytes lines : List ℕ) (out : Out) → Later bytes lines out
unfolding step
sound bytes [] out gs zs d ps first zero number Outside h = record { segments = []; then = tt; is = sym (same_out gs out h) ∙ sym (append-nil gs) }
sound bytes [] out gs zs d ps first (suc k) number Outside h = tt
sound bytes [] out gs zs d ps first left number Pairs h = absurd (never (NoSegmentEnd first) out h)
sound bytes [] out gs zs d ps first zero number Rest h = absurd (never (NoSegmentEnd first) out h)
sound bytes [] out gs zs d ps first (suc k) number Rest h = tt
sound bytes (s ∷ lines) out gs zs d ps first zero number Outside h = outside_line bytes lines out gs zs d ps first number s (sound bytes lines out) h
sound bytes (s ∷ lines) out gs zs d ps first (suc k) number Outside h = tt
sound bytes (s ∷ lines) out gs zs d ps first zero number Pairs h = pair_line bytes lines out gs zs d ps first number s (sound bytes lines out) h
sound bytes (s ∷ lines) out gs zs d ps first (suc k) number Pairs h =
    let back : suc k - 1 ≡ k = omega arith in
    let some : (suc k == 0) ≡ false = ne_eqb (suc k) 0 (λ e. absurd (omega arith)) in
    one_skipped bytes lines out gs zs d ps s k (subst (λ (n : ℕ). InPairs bytes lines out gs zs d ps n) back (sound bytes lines out gs zs d ps first (suc k - 1) (number + 1) Pairs (rw some at h)))
sound bytes (s ∷ lines) out gs zs d ps first zero number Rest h = rest_line bytes lines out gs zs d ps first number s Rest (sound bytes lines out) h
sound bytes (s ∷ lines) out gs zs d ps first (suc k) number Rest h = tt

pub walked_segments : (bytes lines : List ℕ) (out : Out) (zs : List Place) (d : DayStamp) (ps : List Pair) (first number : ℕ) → walk bytes (state [] zs d ps first 0 Outside) number lines ≡ Ok out → AreSegments bytes lines out
walked_segments bytes lines out zs d ps first number h =
    let n : InNone bytes lines out [] = sound bytes lines out [] zs d ps first 0 number Outside h in
    subst (AreSegments bytes lines) (sym n.is) n.then
