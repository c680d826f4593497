-- The first fault of a text that has no frame.
use Rattle.std.specs.Prelude.{◌≡◌, ℕ, ◌+◌, ◌⊎◌, true, false, List, [], ◌∷◌, ◌++◌, length, slice_index, take, drop, Some, None}
use Rattle.desk_clock.specs.DayStamps.{IsNear}
use Rattle.hazard_types.specs.Places.{Place}
use Rattle.hazard_types.specs.declared.calendar.DayStamp.{DayStamp}
use Rattle.ugc_codes.specs.Grammar.{IsUgc}
use Rattle.product_frame.specs.Text.{starts, starts_from, line_of, is_empty, line_end_count}
use Rattle.product_frame.specs.Parts.{begins, has_slash, heading_of, is_identifier}
use Rattle.hazard_types.specs.declared.line.Vtec.{Vtec}
use Rattle.hazard_types.specs.declared.line.Flood.{Flood}
use Rattle.vtec_string.specs.Columns.{IsVtec}
use Rattle.hvtec_string.specs.Columns.{IsHvtec}
use Rattle.product_frame.specs.Frames.{line_at, heading_index, first_nonempty_index, find_issue_minute, product_in}
use Rattle.product_frame.specs.Grammar.{AreOutside, AreEvents, LacksFlood, AreRest, HasNoSlash, IsSegment}
use Rattle.product_frame.specs.declared.frame.Heading.{Heading}
use Rattle.product_frame.specs.declared.frame.Pair.{Pair}
use Rattle.product_frame.specs.declared.frame.FrameSegment.{FrameSegment}
use Rattle.product_frame.specs.declared.frame.FrameFault.{FrameFault}
use Rattle.product_frame.specs.declared.frame.FrameFault.TheVariants.{NoHeading, NoIdentifier, NoIssueTime, IssueDisagrees, NoSegmentEnd, BadUgc, BadVtec}

-- these segments stand first, and later are the lines behind them
abbrev pub BeginsWith : List ℕ → List ℕ → List FrameSegment → List ℕ → Type 0
BeginsWith bytes lines [] later = lines ≡ later
BeginsWith bytes lines (g ∷ segments) later = (between : List ℕ) × IsSegment bytes lines g between × BeginsWith bytes between segments later

-- the bytes begin with no UGC text, or with one that does not fill its last line
abbrev pub IsBadUgc : List ℕ → Type 0
IsBadUgc rest = ((zones : List Place) (d : DayStamp) (n : ℕ) → IsUgc rest zones d n → ⊥) ⊎ ((zones : List Place) × (d : DayStamp) × (n : ℕ) × IsUgc rest zones d n × (is_empty (line_of (drop n rest)) ≡ false))

-- the bytes begin with a UGC text of this many line ends, which fills its last line
pub record Opens (rest : List ℕ) (ends : ℕ) : Type 0 where
  pub zones : List Place
  pub expiry : DayStamp
  pub used : ℕ
  pub ugc : IsUgc rest zones expiry used
  pub fills : is_empty (line_of (drop used rest)) ≡ true
  pub ends_are : ends ≡ line_end_count (take used rest)

-- behind a UGC text of so many line ends stand pairs, and then a line that begins with / and is neither a P-VTEC line nor the H-VTEC line of the pair before it; from it on these lines are left
pub record StopsAtVtec (bytes lines : List ℕ) (ends : ℕ) (left : List ℕ) : Type 0 where
  pub ugc : List ℕ
  pub events : List ℕ
  pub pairs : List Pair
  pub at : ℕ
  pub more : List ℕ
  pub left_are : left ≡ at ∷ more
  pub whole : lines ≡ ugc ++ (events ++ left)
  pub size : length ugc ≡ ends
  pub spelled : AreEvents bytes events pairs
  pub slash : has_slash (line_at bytes at) ≡ true
  pub no_vtec : (v : Vtec) → IsVtec (line_at bytes at) v → ⊥
  pub no_flood : LacksFlood pairs → (h : Flood) → IsHvtec (line_at bytes at) h → ⊥

-- behind a UGC text of so many line ends stand pairs and other lines, none of them $$
pub record HasNoEnd (bytes lines : List ℕ) (ends : ℕ) : Type 0 where
  pub ugc : List ℕ
  pub events : List ℕ
  pub pairs : List Pair
  pub others : List ℕ
  pub whole : lines ≡ ugc ++ (events ++ others)
  pub size : length ugc ≡ ends
  pub spelled : AreEvents bytes events pairs
  pub behind : HasNoSlash bytes others
  pub rest : AreRest bytes others

-- what is wrong with the segment that begins with the first of so many lines; a line's number and the lines from it on are total together
abbrev pub IsFaulty : List ℕ → ℕ → List ℕ → ℕ → FrameFault → Type 0
IsFaulty bytes start lines total (BadUgc n) = (n + (length lines + 1) ≡ total) × IsBadUgc (drop start bytes)
IsFaulty bytes start lines total (BadVtec n) = (ends : ℕ) × Opens (drop start bytes) ends × (left : List ℕ) × StopsAtVtec bytes lines ends left × (n + length left ≡ total)
IsFaulty bytes start lines total (NoSegmentEnd n) = (n + (length lines + 1) ≡ total) × (ends : ℕ) × Opens (drop start bytes) ends × HasNoEnd bytes lines ends
IsFaulty bytes start lines total NoHeading = ⊥
IsFaulty bytes start lines total NoIdentifier = ⊥
IsFaulty bytes start lines total NoIssueTime = ⊥
IsFaulty bytes start lines total IssueDisagrees = ⊥

-- some segments, and then one that is none
pub record IsFirstFault (bytes lines : List ℕ) (total : ℕ) (x : FrameFault) : Type 0 where
  pub segments : List FrameSegment
  pub later : List ℕ
  pub outside : List ℕ
  pub start : ℕ
  pub behind : List ℕ
  pub before : BeginsWith bytes lines segments later
  pub whole : later ≡ outside ++ start ∷ behind
  pub passed : AreOutside bytes outside
  pub begun : begins (line_at bytes start) ≡ true
  pub fault : IsFaulty bytes start behind total x

-- the identifier's line is this one of those behind the heading
pub record IsIdentified (p : List ℕ) (index : ℕ) : Type 0 where
  pub full : first_nonempty_index p 0 (starts_from 0 p) ≡ Some index
  pub named : is_identifier (line_at p (slice_index (starts_from 0 p) index)) ≡ true

-- identifier and issue minute are there
pub record IsIssued (p : List ℕ) (index issue : ℕ) : Type 0 where
  pub identified : IsIdentified p index
  pub minute : find_issue_minute p (drop (index + 1) (starts_from 0 p)) ≡ Some issue

-- the heading's day stamp agrees, and a segment is faulty; the identifier's index is 0 on line 2
abbrev pub HasBadSegment : List ℕ → Heading → FrameFault → Type 0
HasBadSegment p h x = (index : ℕ) × (issue : ℕ) × IsIssued p index issue × IsNear issue h.day × IsFirstFault p (drop (index + 1) (starts_from 0 p)) (index + 3 + length (drop (index + 1) (starts_from 0 p))) x

-- the first fault of a product with this heading
abbrev pub IsFaultIn : List ℕ → Heading → FrameFault → Type 0
IsFaultIn p h NoHeading = ⊥
IsFaultIn p h NoIdentifier = (first_nonempty_index p 0 (starts_from 0 p) ≡ None) ⊎ ((index : ℕ) × (first_nonempty_index p 0 (starts_from 0 p) ≡ Some index) × (is_identifier (line_at p (slice_index (starts_from 0 p) index)) ≡ false))
IsFaultIn p h NoIssueTime = (index : ℕ) × IsIdentified p index × (find_issue_minute p (drop (index + 1) (starts_from 0 p)) ≡ None)
IsFaultIn p h IssueDisagrees = (index : ℕ) × (issue : ℕ) × IsIssued p index issue × (IsNear issue h.day → ⊥)
IsFaultIn p h (BadUgc n) = HasBadSegment p h (BadUgc n)
IsFaultIn p h (BadVtec n) = HasBadSegment p h (BadVtec n)
IsFaultIn p h (NoSegmentEnd n) = HasBadSegment p h (NoSegmentEnd n)

-- the first heading line is there, and its product has the fault
abbrev pub HasFaultyProduct : List ℕ → FrameFault → Type 0
HasFaultyProduct bytes x = (index : ℕ) × (heading_index bytes 0 (starts bytes) ≡ Some index) × (h : Heading) × (heading_of (line_at bytes (slice_index (starts bytes) index)) ≡ Some h) × IsFaultIn (product_in (drop (slice_index (starts bytes) index) bytes)) h x

-- the first fault of a text: no heading, or that of its first product
abbrev pub FrameFaultOf : List ℕ → FrameFault → Type 0
FrameFaultOf bytes NoHeading = heading_index bytes 0 (starts bytes) ≡ None
FrameFaultOf bytes NoIdentifier = HasFaultyProduct bytes NoIdentifier
FrameFaultOf bytes NoIssueTime = HasFaultyProduct bytes NoIssueTime
FrameFaultOf bytes IssueDisagrees = HasFaultyProduct bytes IssueDisagrees
FrameFaultOf bytes (BadUgc n) = HasFaultyProduct bytes (BadUgc n)
FrameFaultOf bytes (BadVtec n) = HasFaultyProduct bytes (BadVtec n)
FrameFaultOf bytes (NoSegmentEnd n) = HasFaultyProduct bytes (NoSegmentEnd n)
