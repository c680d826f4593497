-- A text with a fault is refused with it.
use Rattle.std.proofs.Common.{◌≡◌, ℕ, ◌+◌, true, List, [], ◌∷◌, ◌++◌, length, drop, refl, ap, sym, ◌∙◌, arith, Result, Ok, Err, inl, inr}
use Rattle.hazard_types.specs.Places.{Place}
use Rattle.hazard_types.specs.declared.calendar.DayStamp.{DayStamp}
use Rattle.ugc_codes.specs.Reading.{ugc_of}
use Rattle.ugc_codes.specs.declared.read.UgcRead.{UgcRead}
use Rattle.ugc_codes.specs.declared.read.UgcFault.{UgcFault}
use Rattle.ugc_codes.proofs.Lines.{read_is_ugc, ugc_is_read}
use Rattle.product_frame.specs.Parts.{begins, has_slash}
use Rattle.hazard_types.specs.declared.line.Vtec.{Vtec}
use Rattle.vtec_string.specs.Columns.{IsVtec}
use Rattle.hvtec_string.specs.Columns.{hvtec_of}
use Rattle.product_frame.proofs.Events.{pair_none, no_hvtec, no_slash_no_hvtec}
use Rattle.product_frame.specs.Frames.{line_at}
use Rattle.product_frame.specs.Walking.{take_line_outside, next_at, step, walk}
use Rattle.product_frame.specs.Grammar.{AreRest, HasNoSlash}
use Rattle.product_frame.specs.Faults.{BeginsWith, IsBadUgc, Opens, HasNoEnd, IsFaulty, IsFirstFault}
use Rattle.product_frame.specs.declared.frame.FrameSegment.{FrameSegment}
use Rattle.product_frame.specs.declared.frame.Pair.{Pair}
use Rattle.product_frame.specs.declared.frame.FrameFault.{FrameFault}
use Rattle.product_frame.specs.declared.frame.FrameFault.TheVariants.{NoHeading, NoIdentifier, NoIssueTime, IssueDisagrees, NoSegmentEnd, BadUgc, BadVtec}
use Rattle.product_frame.specs.declared.walk.Stage.TheVariants.{Outside, Pairs, Rest}
use Rattle.product_frame.proofs.Segments.{state, GoesOn, outside_passed, ugc_passed, events_passed, begin_passed, segment_passed}

abbrev pub Reached : List ℕ → List FrameSegment → List Place → DayStamp → List Pair → ℕ → ℕ → List ℕ → List ℕ → Type 0
Reached bytes gs zs d ps first number lines later =
    (gs' : List FrameSegment) × (zs' : List Place) × (d' : DayStamp) × (ps' : List Pair) × (first' : ℕ) × GoesOn bytes (state gs zs d ps first 0 Outside) number lines (state gs' zs' d' ps' first' 0 Outside) later

-- the segments that stand first are walked over
before_passed : (bytes lines : List ℕ) (segments : List FrameSegment) (later : List ℕ) → BeginsWith bytes lines segments later → (gs : List FrameSegment) (zs : List Place) (d : DayStamp) (ps : List Pair) (first number : ℕ) →
    Reached bytes gs zs d ps first number lines later
before_passed bytes lines [] later h gs zs d ps first number =
    (gs, zs, d, ps, first, (number, ap (walk bytes (state gs zs d ps first 0 Outside) number) h, ap (λ (l : List ℕ). number + length l) (sym h)))
before_passed bytes lines (g ∷ segments) later h gs zs d ps first number =
    let a = segment_passed bytes lines h.0 g h.1 gs zs d ps first number in
    let b = before_passed bytes h.0 segments later h.2 (gs ++ g ∷ []) a.0 a.1 a.2 a.3 a.4.0 in
    (b.0, b.1, b.2, b.3, b.4, (b.5.0, a.4.1 ∙ b.5.1, b.5.2 ∙ a.4.2))

rest_runs_out : (bytes others : List ℕ) (gs : List FrameSegment) (zs : List Place) (d : DayStamp) (ps : List Pair) (first number : ℕ) → AreRest bytes others →
    walk bytes (state gs zs d ps first 0 Rest) number others ≡ Err (NoSegmentEnd first)
unfolding step
rest_runs_out bytes [] gs zs d ps first number h = refl
rest_runs_out bytes (s ∷ others) gs zs d ps first number h = rw h.0 (rest_runs_out bytes others gs zs d ps first (number + 1) h.1)

pairs_run_out : (bytes others : List ℕ) (gs : List FrameSegment) (zs : List Place) (d : DayStamp) (ps : List Pair) (first number : ℕ) → HasNoSlash bytes others → AreRest bytes others →
    walk bytes (state gs zs d ps first 0 Pairs) number others ≡ Err (NoSegmentEnd first)
unfolding step
pairs_run_out bytes [] gs zs d ps first number no_slash h = refl
pairs_run_out bytes (s ∷ others) gs zs d ps first number no_slash h = rw (no_slash, h.0) (rest_runs_out bytes others gs zs d ps first (number + 1) h.1)

-- a line that is no P-VTEC line, where none was read ahead
stops : (bytes more : List ℕ) (at : ℕ) (gs : List FrameSegment) (zs : List Place) (d : DayStamp) (ps : List Pair) (first number : ℕ) → has_slash (line_at bytes at) ≡ true → ((v : Vtec) → IsVtec (line_at bytes at) v → ⊥) →
    walk bytes (state gs zs d ps first 0 Pairs) number (at ∷ more) ≡ Err (BadVtec number)
unfolding step
stops bytes more at gs zs d ps first number slash none = rw (slash, pair_none (line_at bytes at) (next_at bytes more) none) refl

-- zones that are no UGC text
bad_begin : (bytes more : List ℕ) (start : ℕ) (gs : List FrameSegment) (zs : List Place) (d : DayStamp) (ps : List Pair) (first number : ℕ) → begins (line_at bytes start) ≡ true → IsBadUgc (drop start bytes) →
    walk bytes (state gs zs d ps first 0 Outside) number (start ∷ more) ≡ Err (BadUgc number)
unfolding step take_line_outside
bad_begin bytes more start gs zs d ps first number b (inl none) = by (ugc_of (drop start bytes)) refl
  where
    by : (r : Result UgcRead UgcFault) → ugc_of (drop start bytes) ≡ r → walk bytes (state gs zs d ps first 0 Outside) number (start ∷ more) ≡ Err (BadUgc number)
    by (Ok u) e = absurd (none u.zones u.expiry u.used (read_is_ugc (drop start bytes) u e))
    by (Err f) e = rw (b, e) refl
bad_begin bytes more start gs zs d ps first number b (inr u) = rw (b, ugc_is_read (drop start bytes) u.0 u.1 u.2 u.3, u.4) refl

opened_at : (bytes more : List ℕ) (start ends : ℕ) (gs : List FrameSegment) (zs : List Place) (d : DayStamp) (ps : List Pair) (first number : ℕ) → begins (line_at bytes start) ≡ true → (o : Opens (drop start bytes) ends) →
    GoesOn bytes (state gs zs d ps first 0 Outside) number (start ∷ more) (state gs o.zones o.expiry [] number ends Pairs) more
opened_at bytes more start ends gs zs d ps first number b o =
    let a = begin_passed bytes more start o.used o.zones o.expiry gs zs d ps first number b o.ugc o.fills in
    (a.0, a.1 ∙ ap (λ (k : ℕ). walk bytes (state gs o.zones o.expiry [] number k Pairs) a.0 more) (sym o.ends_are), a.2)

faulty_walked : (bytes lines : List ℕ) (start total : ℕ) (x : FrameFault) (gs : List FrameSegment) (zs : List Place) (d : DayStamp) (ps : List Pair) (first number : ℕ) → number + (length lines + 1) ≡ total → begins (line_at bytes start) ≡ true → IsFaulty bytes start lines total x →
    walk bytes (state gs zs d ps first 0 Outside) number (start ∷ lines) ≡ Err x
faulty_walked bytes lines start total (BadUgc n) gs zs d ps first number sum b h =
    let at : n + (length lines + 1) ≡ total = h.0 in
    let same : number ≡ n = omega arith in
    bad_begin bytes lines start gs zs d ps first number b h.1 ∙ ap (λ (k : ℕ). Err (BadUgc k)) same
faulty_walked bytes lines start total (BadVtec n) gs zs d ps first number sum b h =
    let s = h.3 in
    let a = opened_at bytes lines start h.0 gs zs d ps first number b h.1 in
    let c = ugc_passed bytes s.ugc (s.events ++ h.2) gs h.1.zones h.1.expiry [] number h.0 a.0 Pairs s.size in
    let e = events_passed bytes s.events h.2 s.pairs gs h.1.zones h.1.expiry [] number c.0 s.spelled (λ lacks. ap (λ (l : List ℕ). hvtec_of (next_at bytes l)) s.left_are ∙ no_hvtec (line_at bytes s.at) (s.no_flood lacks)) in
    let f : walk bytes (state gs h.1.zones h.1.expiry s.pairs number 0 Pairs) e.0 h.2 ≡ Err (BadVtec e.0) =
    ap (walk bytes (state gs h.1.zones h.1.expiry s.pairs number 0 Pairs) e.0) s.left_are ∙ stops bytes s.more s.at gs h.1.zones h.1.expiry s.pairs number e.0 s.slash s.no_vtec in
    let at : n + length h.2 ≡ total = h.4 in
    let a2 : a.0 + length lines ≡ number + length (start ∷ lines) = a.2 in
    let c2 : c.0 + length (s.events ++ h.2) ≡ a.0 + length (s.ugc ++ (s.events ++ h.2)) = c.2 in
    let e2 : e.0 + length h.2 ≡ c.0 + length (s.events ++ h.2) = e.2 in
    let size : length lines ≡ length (s.ugc ++ (s.events ++ h.2)) = ap length s.whole in
    let same : e.0 ≡ n = omega arith in
    a.1 ∙ ap (walk bytes (state gs h.1.zones h.1.expiry [] number h.0 Pairs) a.0) s.whole ∙ c.1 ∙ e.1 ∙ f ∙ ap (λ (k : ℕ). Err (BadVtec k)) same
faulty_walked bytes lines start total (NoSegmentEnd n) gs zs d ps first number sum b h =
    let at : n + (length lines + 1) ≡ total = h.0 in
    let same : number ≡ n = omega arith in
    let a = opened_at bytes lines start h.1 gs zs d ps first number b h.2 in
    a.1 ∙ no_end bytes lines h.1 h.3 gs h.2.zones h.2.expiry number a.0 ∙ ap (λ (k : ℕ). Err (NoSegmentEnd k)) same
  where
    no_end : (bytes lines : List ℕ) (ends : ℕ) → HasNoEnd bytes lines ends → (gs : List FrameSegment) (zs : List Place) (d : DayStamp) (first number : ℕ) → walk bytes (state gs zs d [] first ends Pairs) number lines ≡ Err (NoSegmentEnd first)
    no_end bytes lines ends n gs zs d first number =
        let c = ugc_passed bytes n.ugc (n.events ++ n.others) gs zs d [] first ends number Pairs n.size in
        let e = events_passed bytes n.events n.others n.pairs gs zs d [] first c.0 n.spelled (λ lacks. no_slash_no_hvtec bytes n.others n.behind) in
        ap (walk bytes (state gs zs d [] first ends Pairs) number) n.whole ∙ c.1 ∙ e.1 ∙ pairs_run_out bytes n.others gs zs d n.pairs first e.0 n.behind n.rest
faulty_walked bytes lines start total NoHeading gs zs d ps first number sum b h = absurd h
faulty_walked bytes lines start total NoIdentifier gs zs d ps first number sum b h = absurd h
faulty_walked bytes lines start total NoIssueTime gs zs d ps first number sum b h = absurd h
faulty_walked bytes lines start total IssueDisagrees gs zs d ps first number sum b h = absurd h

-- the first fault is met
pub fault_walked : (bytes lines : List ℕ) (total : ℕ) (x : FrameFault) → IsFirstFault bytes lines total x → (gs : List FrameSegment) (zs : List Place) (d : DayStamp) (ps : List Pair) (first number : ℕ) → number + length lines ≡ total →
    walk bytes (state gs zs d ps first 0 Outside) number lines ≡ Err x
fault_walked bytes lines total x f gs zs d ps first number sum =
    let a = before_passed bytes lines f.segments f.later f.before gs zs d ps first number in
    let b = outside_passed bytes f.outside (f.start ∷ f.behind) a.0 a.1 a.2 a.3 a.4 a.5.0 f.passed in
    let a2 : a.5.0 + length f.later ≡ number + length lines = a.5.2 in
    let b2 : b.0 + (length f.behind + 1) ≡ a.5.0 + length (f.outside ++ f.start ∷ f.behind) = omega (arith, b.2) in
    let size : length f.later ≡ length (f.outside ++ f.start ∷ f.behind) = ap length f.whole in
    let at : b.0 + (length f.behind + 1) ≡ total = omega arith in
    a.5.1 ∙ ap (walk bytes (state a.0 a.1 a.2 a.3 a.4 0 Outside) a.5.0) f.whole ∙ b.1 ∙ faulty_walked bytes f.behind f.start total x a.0 a.1 a.2 a.3 a.4 b.0 at f.begun f.fault
