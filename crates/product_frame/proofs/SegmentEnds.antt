-- The lines of a segment behind its first one, up to its end.
use Rattle.std.proofs.Common.{◌≡◌, ℕ, suc, true, false, List, [], ◌∷◌, ◌++◌, length, take, drop, refl, ap, subst, ◌∙◌, Some, Ok}
use Rattle.ugc_codes.specs.Reading.{ugc_of}
use Rattle.ugc_codes.specs.declared.read.UgcRead.{UgcRead}
use Rattle.ugc_codes.proofs.Lines.{read_is_ugc}
use Rattle.hazard_types.specs.Places.{Place}
use Rattle.hazard_types.specs.declared.calendar.DayStamp.{DayStamp}
use Rattle.product_frame.specs.Text.{line_of, is_empty, line_end_count}
use Rattle.product_frame.specs.Parts.{begins, has_slash, is_end}
use Rattle.product_frame.specs.Events.{parse_pair}
use Rattle.product_frame.specs.Frames.{line_at}
use Rattle.product_frame.specs.Walking.{next_at, ahead}
use Rattle.product_frame.specs.Grammar.{AreEvents, AreRest, HasNoSlash, IsSegment}
use Rattle.product_frame.specs.declared.frame.FrameSegment.{FrameSegment}
use Rattle.product_frame.specs.declared.frame.Pair.{Pair}
use Rattle.product_frame.proofs.Events.{one_pair}

abbrev pub made : List Place → DayStamp → List Pair → FrameSegment
made zs d ps = record { zones = zs; expiry = d; pairs = ps }

-- lines that begin no pair, and then the end of the segment
pub record RestEnds (bytes lines : List ℕ) : Type 0 where
  pub others : List ℕ
  pub end : ℕ
  pub later : List ℕ
  pub whole : lines ≡ others ++ end ∷ later
  pub rest : AreRest bytes others
  pub ended : is_end (line_at bytes end) ≡ true

-- so many lines of the UGC, then pairs, and then the rest up to the end
pub record SegmentEnds (bytes lines : List ℕ) (left : ℕ) : Type 0 where
  pub ugc : List ℕ
  pub events : List ℕ
  pub behind : List ℕ
  pub pairs : List Pair
  pub size : length ugc ≡ left
  pub whole : lines ≡ ugc ++ (events ++ behind)
  pub spelled : AreEvents bytes events pairs
  pub no_slash : HasNoSlash bytes behind
  pub rest : RestEnds bytes behind

abbrev pub end_here : (bytes lines : List ℕ) (s : ℕ) → is_end (line_at bytes s) ≡ true → RestEnds bytes (s ∷ lines)
end_here bytes lines s e = record { others = []; end = s; later = lines; whole = refl; rest = tt; ended = e }

abbrev pub end_later : (bytes lines : List ℕ) (s : ℕ) → is_end (line_at bytes s) ≡ false → RestEnds bytes lines → RestEnds bytes (s ∷ lines)
end_later bytes lines s e r = record { others = s ∷ r.others; end = r.end; later = r.later; whole = ap (λ (l : List ℕ). s ∷ l) r.whole; rest = (e, r.rest); ended = r.ended }

-- no pair more
abbrev pub only_rest : (bytes lines : List ℕ) (s : ℕ) → has_slash (line_at bytes s) ≡ false → RestEnds bytes (s ∷ lines) → SegmentEnds bytes (s ∷ lines) 0
only_rest bytes lines s no_slash r = record { ugc = []; events = []; behind = s ∷ lines; pairs = []; size = refl; whole = refl; spelled = refl; no_slash = no_slash; rest = r }

-- one pair more
abbrev pub pair_more : (bytes lines : List ℕ) (s : ℕ) (p : Pair) → parse_pair (line_at bytes s) (next_at bytes lines) ≡ Some p → SegmentEnds bytes lines (ahead p.flood) → SegmentEnds bytes (s ∷ lines) 0
pair_more bytes lines s p is h =
    let b = one_pair bytes lines h.ugc h.events h.behind s p h.pairs is h.size h.whole h.spelled in
    record { ugc = []; events = b.events; behind = h.behind; pairs = p ∷ h.pairs; size = refl; whole = b.whole; spelled = b.spelled; no_slash = h.no_slash; rest = h.rest }

-- one line more of the UGC
abbrev pub ugc_more : (bytes lines : List ℕ) (s k : ℕ) → SegmentEnds bytes lines k → SegmentEnds bytes (s ∷ lines) (suc k)
ugc_more bytes lines s k h = record { ugc = s ∷ h.ugc; events = h.events; behind = h.behind; pairs = h.pairs; size = ap suc h.size; whole = ap (λ (l : List ℕ). s ∷ l) h.whole; spelled = h.spelled; no_slash = h.no_slash; rest = h.rest }

-- a segment that begins here
pub segment_here : (bytes lines : List ℕ) (s : ℕ) (u : UgcRead) → begins (line_at bytes s) ≡ true → ugc_of (drop s bytes) ≡ Ok u → is_empty (line_of (drop u.used (drop s bytes))) ≡ true →
    (h : SegmentEnds bytes lines (line_end_count (take u.used (drop s bytes)))) → IsSegment bytes (s ∷ lines) (made u.zones u.expiry h.pairs) h.rest.later
segment_here bytes lines s u b read fills h =
    let r = h.rest in
    record { outside = []; start = s; ugc = h.ugc; events = h.events; others = r.others; end = r.end; used = u.used; whole = ap (λ (l : List ℕ). s ∷ l) h.whole ∙ ap (λ (l : List ℕ). s ∷ (h.ugc ++ (h.events ++ l))) r.whole; passed = tt; begun = b; zones = read_is_ugc (drop s bytes) u read; fills = fills; more = h.size; pairs = h.spelled; behind = subst (HasNoSlash bytes) r.whole h.no_slash; rest = r.rest; ended = r.ended }

-- a line more that begins no segment
pub segment_more : (bytes lines : List ℕ) (s : ℕ) (g : FrameSegment) (later : List ℕ) → begins (line_at bytes s) ≡ false → IsSegment bytes lines g later → IsSegment bytes (s ∷ lines) g later
segment_more bytes lines s g later b is = record { outside = s ∷ is.outside; start = is.start; ugc = is.ugc; events = is.events; others = is.others; end = is.end; used = is.used; whole = ap (λ (l : List ℕ). s ∷ l) is.whole; passed = (b, is.passed); begun = is.begun; zones = is.zones; fills = is.fills; more = is.more; pairs = is.pairs; behind = is.behind; rest = is.rest; ended = is.ended }
