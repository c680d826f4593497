-- Segments are walked over.
use Rattle.std.proofs.Common.{◌≡◌, ℕ, ◌+◌, ◌-◌, ◌==◌, true, false, List, [], ◌∷◌, ◌++◌, length, take, drop, refl, ap, sym, ◌∙◌, arith, append_assoc, append-nil, Option, Some, None, Ok}
use Rattle.std.proofs.lemmas.Bool.{ne_eqb}
use Rattle.hazard_types.specs.Places.{Place}
use Rattle.hazard_types.specs.declared.calendar.DayStamp.{DayStamp}
use Rattle.ugc_codes.specs.Grammar.{IsUgc}
use Rattle.ugc_codes.proofs.Lines.{ugc_is_read}
use Rattle.product_frame.specs.Text.{line_of, is_empty, line_end_count}
use Rattle.product_frame.specs.Parts.{begins, has_slash, is_end}
use Rattle.hazard_types.specs.declared.line.Flood.{Flood}
use Rattle.hvtec_string.specs.Columns.{hvtec_of}
use Rattle.hvtec_string.proofs.Laying.{hvtec_hit}
use Rattle.product_frame.proofs.Events.{vtec_has_slash, pair_hit, not_both, no_slash_no_hvtec}
use Rattle.product_frame.specs.declared.frame.Pair.{Pair}
use Rattle.product_frame.specs.Frames.{line_at}
use Rattle.product_frame.specs.Walking.{take_line_outside, next_at, ahead, step, walk}
use Rattle.product_frame.specs.Grammar.{AreOutside, HasFlood, IsPair, AreEvents, LacksFlood, AreRest, HasNoSlash, IsSegment, AreSegments}
use Rattle.product_frame.specs.declared.frame.FrameSegment.{FrameSegment}
use Rattle.product_frame.specs.declared.walk.Walk.{Walk}
use Rattle.product_frame.specs.declared.walk.Stage.{Stage}
use Rattle.product_frame.specs.declared.walk.Stage.TheVariants.{Outside, Pairs, Rest}

abbrev pub state : List FrameSegment → List Place → DayStamp → List Pair → ℕ → ℕ → Stage → Walk
state segments zones expiry pairs first left stage = record { segments = segments; zones = zones; expiry = expiry; pairs = pairs; first = first; left = left; stage = stage }

-- the walk goes on from here as from there, and a line's number and the lines left are as many together
abbrev pub GoesOn : List ℕ → Walk → ℕ → List ℕ → Walk → List ℕ → Type 0
GoesOn bytes w number lines w' lines' = (number' : ℕ) × (walk bytes w number lines ≡ walk bytes w' number' lines') × (number' + length lines' ≡ number + length lines)

pub outside_passed : (bytes outside more : List ℕ) (gs : List FrameSegment) (zs : List Place) (d : DayStamp) (ps : List Pair) (first number : ℕ) → AreOutside bytes outside →
    GoesOn bytes (state gs zs d ps first 0 Outside) number (outside ++ more) (state gs zs d ps first 0 Outside) more
unfolding step take_line_outside
outside_passed bytes [] more gs zs d ps first number h = (number, refl, refl)
outside_passed bytes (s ∷ outside) more gs zs d ps first number h =
    let later = outside_passed bytes outside more gs zs d ps first (number + 1) h.1 in
    let sum : later.0 + length more ≡ number + 1 + length (outside ++ more) = later.2 in
    (later.0, rw h.0 later.1, omega (arith, sum))

pub ugc_passed : (bytes ugc more : List ℕ) (gs : List FrameSegment) (zs : List Place) (d : DayStamp) (ps : List Pair) (first left number : ℕ) (stage : Stage) → length ugc ≡ left →
    GoesOn bytes (state gs zs d ps first left stage) number (ugc ++ more) (state gs zs d ps first 0 stage) more
unfolding step
ugc_passed bytes [] more gs zs d ps first left number stage h = (number, ap (λ (n : ℕ). walk bytes (state gs zs d ps first n stage) number more) (sym h), refl)
ugc_passed bytes (s ∷ ugc) more gs zs d ps first left number stage h =
    let some : (left == 0) ≡ false = ne_eqb left 0 (λ e. absurd (omega arith)) in
    let later = ugc_passed bytes ugc more gs zs d ps first (left - 1) (number + 1) stage (omega arith) in
    let sum : later.0 + length more ≡ number + 1 + length (ugc ++ more) = later.2 in
    (later.0, rw some later.1, omega (arith, sum))

-- a pair is taken, where the line behind a pair without flood values is no H-VTEC line
pair_passed : (bytes lines : List ℕ) (p : Pair) (later : List ℕ) (gs : List FrameSegment) (zs : List Place) (d : DayStamp) (ps : List Pair) (first number : ℕ) → IsPair bytes lines p later → (p.flood ≡ None → hvtec_of (next_at bytes later) ≡ None) →
    GoesOn bytes (state gs zs d ps first 0 Pairs) number lines (state gs zs d (ps ++ p ∷ []) first 0 Pairs) later
unfolding step
pair_passed bytes lines p later gs zs d ps first number is free =
    let a = by is.next p.flood refl is.flood in
    (a.0, ap (walk bytes (state gs zs d ps first 0 Pairs) number) is.whole ∙ a.1, a.2 ∙ ap (λ (l : List ℕ). number + length l) (sym is.whole))
  where
    slash : has_slash (line_at bytes is.at) ≡ true
    slash = vtec_has_slash (line_at bytes is.at) p.vtec is.vtec

    by : (next : List ℕ) (f : Option Flood) → p.flood ≡ f → HasFlood bytes next f → GoesOn bytes (state gs zs d ps first 0 Pairs) number (is.at ∷ (next ++ later)) (state gs zs d (ps ++ p ∷ []) first 0 Pairs) later
    by [] None e h =
        let hit = pair_hit (line_at bytes is.at) (next_at bytes later) p is.vtec (free e ∙ sym e) in
        (number + 1, rw (slash, hit) (ap (λ (f : Option Flood). walk bytes (state gs zs d (ps ++ p ∷ []) first (ahead f) Pairs) (number + 1) later) e), omega arith)
    by [] (Some f) e h = absurd h
    by (t ∷ next) None e h = absurd h
    by (t ∷ []) (Some f) e h =
        let hit = pair_hit (line_at bytes is.at) (line_at bytes t) p is.vtec (hvtec_hit (line_at bytes t) f h ∙ sym e) in
        (number + 1 + 1, rw (slash, hit) (ap (λ (f : Option Flood). walk bytes (state gs zs d (ps ++ p ∷ []) first (ahead f) Pairs) (number + 1) (t ∷ later)) e), omega arith)
    by (t ∷ u ∷ next) (Some f) e h = absurd h

pair_before : (bytes lines more : List ℕ) (p : Pair) (later : List ℕ) → IsPair bytes lines p later → IsPair bytes (lines ++ more) p (later ++ more)
pair_before bytes lines more p later is = record {
  at = is.at;
  next = is.next;
  whole = ap (λ (l : List ℕ). l ++ more) is.whole ∙ ap (λ (l : List ℕ). is.at ∷ l) (append_assoc is.next later more);
  vtec = is.vtec;
  flood = is.flood;
}

pub events_passed : (bytes events more : List ℕ) (pairs : List Pair) (gs : List FrameSegment) (zs : List Place) (d : DayStamp) (ps : List Pair) (first number : ℕ) → AreEvents bytes events pairs → (LacksFlood pairs → hvtec_of (next_at bytes more) ≡ None) →
    GoesOn bytes (state gs zs d ps first 0 Pairs) number (events ++ more) (state gs zs d (ps ++ pairs) first 0 Pairs) more
events_passed bytes events more [] gs zs d ps first number h free =
    (number, ap (λ (l : List ℕ). walk bytes (state gs zs d ps first 0 Pairs) number (l ++ more)) h ∙ ap (λ (p : List Pair). walk bytes (state gs zs d p first 0 Pairs) number more) (sym (append-nil ps)), ap (λ (l : List ℕ). number + length (l ++ more)) (sym h))
events_passed bytes events more (p ∷ []) gs zs d ps first number h free =
    let a = pair_passed bytes (events ++ more) p (h.0 ++ more) gs zs d ps first number (pair_before bytes events more p h.0 h.1) (λ none. ap (λ (l : List ℕ). hvtec_of (next_at bytes (l ++ more))) h.2 ∙ free none) in
    let b = events_passed bytes h.0 more [] gs zs d (ps ++ p ∷ []) first a.0 h.2 (λ none. absurd none) in
    (b.0, a.1 ∙ b.1 ∙ ap (λ (q : List Pair). walk bytes (state gs zs d q first 0 Pairs) b.0 more) (append_assoc ps (p ∷ []) []), b.2 ∙ a.2)
events_passed bytes events more (p ∷ q ∷ pairs) gs zs d ps first number h free =
    let next = h.2.1 in
    let other : hvtec_of (next_at bytes (h.0 ++ more)) ≡ None = ap (λ (l : List ℕ). hvtec_of (next_at bytes (l ++ more))) next.whole ∙ not_both (line_at bytes next.at) q.vtec next.vtec in
    let a = pair_passed bytes (events ++ more) p (h.0 ++ more) gs zs d ps first number (pair_before bytes events more p h.0 h.1) (λ none. other) in
    let b = events_passed bytes h.0 more (q ∷ pairs) gs zs d (ps ++ p ∷ []) first a.0 h.2 free in
    (b.0, a.1 ∙ b.1 ∙ ap (λ (r : List Pair). walk bytes (state gs zs d r first 0 Pairs) b.0 more) (append_assoc ps (p ∷ []) (q ∷ pairs)), b.2 ∙ a.2)

abbrev pub done : List FrameSegment → List Place → DayStamp → List Pair → List FrameSegment
done gs zs d ps = gs ++ record { zones = zs; expiry = d; pairs = ps } ∷ []

rest_passed : (bytes others : List ℕ) (end : ℕ) (more : List ℕ) (gs : List FrameSegment) (zs : List Place) (d : DayStamp) (ps : List Pair) (first number : ℕ) → AreRest bytes others → is_end (line_at bytes end) ≡ true →
    GoesOn bytes (state gs zs d ps first 0 Rest) number (others ++ end ∷ more) (state (done gs zs d ps) [] d [] first 0 Outside) more
unfolding step
rest_passed bytes [] end more gs zs d ps first number h e = (number + 1, rw e refl, omega arith)
rest_passed bytes (s ∷ others) end more gs zs d ps first number h e =
    let later = rest_passed bytes others end more gs zs d ps first (number + 1) h.1 e in
    let sum : later.0 + length more ≡ number + 1 + length (others ++ end ∷ more) = later.2 in
    (later.0, rw h.0 later.1, omega (arith, sum))

-- the first line behind the events
behind_passed : (bytes others : List ℕ) (end : ℕ) (more : List ℕ) (gs : List FrameSegment) (zs : List Place) (d : DayStamp) (ps : List Pair) (first number : ℕ) → HasNoSlash bytes (others ++ end ∷ more) → AreRest bytes others → is_end (line_at bytes end) ≡ true →
    GoesOn bytes (state gs zs d ps first 0 Pairs) number (others ++ end ∷ more) (state (done gs zs d ps) [] d [] first 0 Outside) more
unfolding step
behind_passed bytes [] end more gs zs d ps first number no_slash h e = (number + 1, rw (no_slash, e) refl, omega arith)
behind_passed bytes (s ∷ others) end more gs zs d ps first number no_slash h e =
    let later = rest_passed bytes others end more gs zs d ps first (number + 1) h.1 e in
    let sum : later.0 + length more ≡ number + 1 + length (others ++ end ∷ more) = later.2 in
    (later.0, rw (no_slash, h.0) later.1, omega (arith, sum))

pub begin_passed : (bytes more : List ℕ) (start used : ℕ) (zones : List Place) (expiry : DayStamp) (gs : List FrameSegment) (zs : List Place) (d : DayStamp) (ps : List Pair) (first number : ℕ) →
    begins (line_at bytes start) ≡ true → IsUgc (drop start bytes) zones expiry used → is_empty (line_of (drop used (drop start bytes))) ≡ true →
    GoesOn bytes (state gs zs d ps first 0 Outside) number (start ∷ more) (state gs zones expiry [] number (line_end_count (take used (drop start bytes))) Pairs) more
unfolding step take_line_outside
begin_passed bytes more start used zones expiry gs zs d ps first number b u fills = (number + 1, rw (b, ugc_is_read (drop start bytes) zones expiry used u, fills) refl, omega arith)

pub segment_passed : (bytes lines later : List ℕ) (g : FrameSegment) → IsSegment bytes lines g later → (gs : List FrameSegment) (zs : List Place) (d : DayStamp) (ps : List Pair) (first number : ℕ) →
    (zs' : List Place) × (d' : DayStamp) × (ps' : List Pair) × (first' : ℕ) × GoesOn bytes (state gs zs d ps first 0 Outside) number lines (state (gs ++ g ∷ []) zs' d' ps' first' 0 Outside) later
segment_passed bytes lines later g is gs zs d ps first number =
    let a = outside_passed bytes is.outside (is.start ∷ (is.ugc ++ (is.events ++ (is.others ++ is.end ∷ later)))) gs zs d ps first number is.passed in
    let b = begin_passed bytes (is.ugc ++ (is.events ++ (is.others ++ is.end ∷ later))) is.start is.used g.zones g.expiry gs zs d ps first a.0 is.begun is.zones is.fills in
    let c = ugc_passed bytes is.ugc (is.events ++ (is.others ++ is.end ∷ later)) gs g.zones g.expiry [] a.0 (line_end_count (take is.used (drop is.start bytes))) b.0 Pairs is.more in
    let e = events_passed bytes is.events (is.others ++ is.end ∷ later) g.pairs gs g.zones g.expiry [] a.0 c.0 is.pairs (λ none. no_slash_no_hvtec bytes (is.others ++ is.end ∷ later) is.behind) in
    let f = behind_passed bytes is.others is.end later gs g.zones g.expiry g.pairs a.0 e.0 is.behind is.rest is.ended in
    let size = ap (λ (l : List ℕ). number + length l) (sym is.whole) in
    ([], g.expiry, [], a.0, (f.0, ap (walk bytes (state gs zs d ps first 0 Outside) number) is.whole ∙ a.1 ∙ b.1 ∙ c.1 ∙ e.1 ∙ f.1, f.2 ∙ e.2 ∙ c.2 ∙ b.2 ∙ a.2 ∙ size))

-- what the grammar has is walked over
pub segments_walked : (bytes lines : List ℕ) (segments : List FrameSegment) → AreSegments bytes lines segments → (gs : List FrameSegment) (zs : List Place) (d : DayStamp) (ps : List Pair) (first number : ℕ) →
    walk bytes (state gs zs d ps first 0 Outside) number lines ≡ Ok (gs ++ segments)
segments_walked bytes lines [] h gs zs d ps first number =
    let a = outside_passed bytes lines [] gs zs d ps first number h in
    ap (walk bytes (state gs zs d ps first 0 Outside) number) (sym (append-nil lines)) ∙ a.1 ∙ ap (λ (x : List FrameSegment). Ok x) (sym (append-nil gs))
segments_walked bytes lines (g ∷ segments) h gs zs d ps first number =
    let a = segment_passed bytes lines h.0 g h.1 gs zs d ps first number in
    a.4.1 ∙ segments_walked bytes h.0 segments h.2 (gs ++ g ∷ []) a.0 a.1 a.2 a.3 a.4.0 ∙ ap (λ (x : List FrameSegment). Ok x) (append_assoc gs (g ∷ []) segments)
