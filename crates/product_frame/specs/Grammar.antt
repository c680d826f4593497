-- The segments of lines, by their parts.
use Rattle.std.specs.Prelude.{◌≡◌, ℕ, true, false, List, [], ◌∷◌, ◌++◌, length, take, drop, Option, Some, None}
use Rattle.std.specs.List.{AllByRecursion}
use Rattle.ugc_codes.specs.Grammar.{IsUgc}
use Rattle.product_frame.specs.Text.{line_of, is_empty, line_end_count}
use Rattle.product_frame.specs.Parts.{begins, has_slash, is_end}
use Rattle.hazard_types.specs.declared.line.Flood.{Flood}
use Rattle.vtec_string.specs.Columns.{IsVtec}
use Rattle.hvtec_string.specs.Columns.{IsHvtec}
use Rattle.product_frame.specs.declared.frame.Pair.{Pair}
use Rattle.product_frame.specs.Frames.{line_at}
use Rattle.product_frame.specs.declared.frame.FrameSegment.{FrameSegment}

-- none of these lines begins a segment
abbrev pub AreOutside : List ℕ → List ℕ → Type 0
AreOutside bytes = AllByRecursion (λ s. begins (line_at bytes s) ≡ false)

-- one H-VTEC line with these flood values, or no line where there are none
abbrev pub HasFlood : List ℕ → List ℕ → Option Flood → Type 0
HasFlood bytes [] None = Unit {0}
HasFlood bytes [] (Some h) = ⊥
HasFlood bytes (s ∷ lines) None = ⊥
HasFlood bytes (s ∷ []) (Some h) = IsHvtec (line_at bytes s) h
HasFlood bytes (s ∷ t ∷ lines) (Some h) = ⊥

-- a pair: a P-VTEC line, and behind it the H-VTEC line of its flood values, if it has any; later are the lines behind these
pub record IsPair (bytes lines : List ℕ) (p : Pair) (later : List ℕ) : Type 0 where
  pub at : ℕ
  pub next : List ℕ
  pub whole : lines ≡ at ∷ (next ++ later)
  pub vtec : IsVtec (line_at bytes at) p.vtec
  pub flood : HasFlood bytes next p.flood

-- these lines are P-VTEC lines, each with at most one H-VTEC line behind it, and these are their values
abbrev pub AreEvents : List ℕ → List ℕ → List Pair → Type 0
AreEvents bytes lines [] = lines ≡ []
AreEvents bytes lines (p ∷ pairs) = (later : List ℕ) × IsPair bytes lines p later × AreEvents bytes later pairs

-- the last of these pairs is without flood values
abbrev pub LacksFlood : List Pair → Type 0
LacksFlood [] = ⊥
LacksFlood (p ∷ []) = p.flood ≡ None
LacksFlood (p ∷ q ∷ pairs) = LacksFlood (q ∷ pairs)

-- none of these lines is $$
abbrev pub AreRest : List ℕ → List ℕ → Type 0
AreRest bytes = AllByRecursion (λ s. is_end (line_at bytes s) ≡ false)

-- the first of these lines does not begin with a slash
abbrev pub HasNoSlash : List ℕ → List ℕ → Type 0
HasNoSlash bytes [] = Unit {0}
HasNoSlash bytes (s ∷ lines) = has_slash (line_at bytes s) ≡ false

-- a segment and what stands before it: where its lines begin
pub record IsSegment (bytes lines : List ℕ) (g : FrameSegment) (later : List ℕ) : Type 0 where
  pub outside : List ℕ
  pub start : ℕ
  pub ugc : List ℕ
  pub events : List ℕ
  pub others : List ℕ
  pub end : ℕ
  pub used : ℕ
  pub whole : lines ≡ outside ++ start ∷ (ugc ++ (events ++ (others ++ end ∷ later)))
  pub passed : AreOutside bytes outside
  pub begun : begins (line_at bytes start) ≡ true
  pub zones : IsUgc (drop start bytes) g.zones g.expiry used
  pub fills : is_empty (line_of (drop used (drop start bytes))) ≡ true
  pub more : length ugc ≡ line_end_count (take used (drop start bytes))
  pub pairs : AreEvents bytes events g.pairs
  pub behind : HasNoSlash bytes (others ++ end ∷ later)
  pub rest : AreRest bytes others
  pub ended : is_end (line_at bytes end) ≡ true

abbrev pub AreSegments : List ℕ → List ℕ → List FrameSegment → Type 0
AreSegments bytes lines [] = AreOutside bytes lines
AreSegments bytes lines (g ∷ segments) = (later : List ℕ) × IsSegment bytes lines g later × AreSegments bytes later segments
